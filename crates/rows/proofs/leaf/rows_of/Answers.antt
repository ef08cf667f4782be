-- `rows_of` meets its contract: each leaf by its own loop.
use mathlib.Core.Path.{refl}
use native.Mathlib.Omega.{arith}
use Rattle.rules.specs.Limits.{most_sessions, most_propositions}
use Rattle.rows.proofs.Candidates.{proposition-reads, no-leaf, proposition-told, false-told, true-told}
use Rattle.leaves.proofs.Products.{at_most}
use Rattle.rows.proofs.leaf.rows_of.Goals as goal

pub returns-then-m-gt-PROPOSITIONS : goal.returns-then-m-gt-PROPOSITIONS
returns-then-m-gt-PROPOSITIONS c = (λ q. omega (arith, (proposition-reads c.requires.2 c.requires.3 c.if-code-eq-PROPOSITION.true q).0), refl)

pub returns-then-m-left : goal.returns-then-m-left
returns-then-m-left c = (
  λ q. omega (
    arith,
    (proposition-reads c.requires.2
        c.requires.3 c.if-code-eq-PROPOSITION.true q).1,
  ),
  refl,
)

pub overflow_mul-m : goal.overflow_mul-m
overflow_mul-m c = let a = c.args in omega (arith, at_most a.m most_propositions a.r most_sessions (omega arith) (omega arith))

pub returns-then-words-m : goal.returns-then-words-m
returns-then-words-m c = (
  λ q. omega (
    arith,
    (proposition-reads c.requires.2
        c.requires.3 c.if-code-eq-PROPOSITION.true q).2,
  ),
  refl,
)

pub shape_of-rows-then-code-eq-PROPOSITION : goal.shape_of-rows-then-code-eq-PROPOSITION
shape_of-rows-then-code-eq-PROPOSITION c =
    (c.proposition_rows.ensures.did (record {
      sessions-in = omega arith;
      propositions-in = omega arith;
      number_in = omega (arith, c.from_left-p.ensures);
      words-there = omega arith;
      rows-there = omega arith;
    })).long

pub returns-then-code-eq-PROPOSITION : goal.returns-then-code-eq-PROPOSITION
returns-then-code-eq-PROPOSITION c =
    proposition-told c.if-code-eq-PROPOSITION.true
    c.if-m-gt-PROPOSITIONS.false c.if-m-left.false
    c.if-words-m.false c.from_left-p.ensures
    (c.proposition_rows.ensures.did record {
      sessions-in = omega arith;
      propositions-in = omega arith;
      number_in = omega (arith, c.from_left-p.ensures);
      words-there = omega arith;
      rows-there = omega arith;
    })

pub shape_of-rows-then-code-eq-FALSE : goal.shape_of-rows-then-code-eq-FALSE
shape_of-rows-then-code-eq-FALSE c = (c.false_rows.ensures.did (omega arith)).long

pub returns-then-code-eq-FALSE : goal.returns-then-code-eq-FALSE
returns-then-code-eq-FALSE c = false-told c.if-code-eq-FALSE.true (c.false_rows.ensures.did (omega arith))

pub shape_of-rows-then-code-eq-TRUE : goal.shape_of-rows-then-code-eq-TRUE
shape_of-rows-then-code-eq-TRUE c = (c.true_rows.ensures.did (record { masks-there = omega arith; rows-there = omega arith })).long

pub returns-then-code-eq-TRUE : goal.returns-then-code-eq-TRUE
returns-then-code-eq-TRUE c = true-told c.if-code-eq-TRUE.true (c.true_rows.ensures.did record { masks-there = omega arith; rows-there = omega arith })

pub returns : goal.returns
returns c = (
  no-leaf c.requires.2 c.requires.3
      c.if-code-eq-PROPOSITION.false c.if-code-eq-FALSE.false c.if-code-eq-TRUE.false,
  refl,
)
