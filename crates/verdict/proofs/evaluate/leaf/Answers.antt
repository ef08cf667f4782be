-- `leaf` meets its contract: by the code, the recorded word, no place, or every place.
use mathlib.Core.Path.{◌≡◌, sym, subst}
use Prim.Native.Nat.{ℕ, ◌+◌}
use lib.ListN.{get_or}
use native.Mathlib.Omega.{arith}
use Rattle.sequence.specs.Sequence.{seq}
use Rattle.formula.specs.Kinds.{node_of}
use Rattle.verdict.specs.Inner.{Evaluated}
use Rattle.formula.proofs.Faults.{proposition-under, true-code}
use Rattle.verdict.proofs.Evaluation.{word-of-proposition, word-of-false, word-of-true}
use Rattle.verdict.proofs.evaluate.leaf.Goals as goal

pub bounds-words-from : goal.bounds-words-from
bounds-words-from c =
    let r = c.requires.1 in
    omega (arith, r.there, r.few, proposition-under r.propositions c.requires.0 _ (node_of c.args.node) r.fits c.if-node-eq-PROPOSITION.true)

pub returns-then-node-eq-PROPOSITION : goal.returns-then-node-eq-PROPOSITION
returns-then-node-eq-PROPOSITION c = λ k.
    let a = c.args in
    let r = c.requires.1 in
    let h = proposition-under r.propositions c.requires.0 _ (node_of a.node) r.fits c.if-node-eq-PROPOSITION.true in
    let e : c.from_left-p.result.0 ≡ a.node.left.0 = omega (arith, r.few) in
    subst (λ (p : ℕ). Evaluated a.length a.words.now a.from k (node_of a.node) (seq a.length (get_or a.words.now (a.from + p) 0))) (sym e)
    (word-of-proposition a.length a.words.now a.from k (node_of a.node) c.requires.0 r c.if-node-eq-PROPOSITION.true)

pub returns-then-node-eq-FALSE : goal.returns-then-node-eq-FALSE
returns-then-node-eq-FALSE c = λ k.
    let a = c.args in
    word-of-false a.length a.words.now a.from k (node_of a.node) c.requires.1.short c.if-node-eq-FALSE.true

pub returns : goal.returns
returns c = λ k.
    let a = c.args in
    word-of-true a.length a.words.now a.from k (node_of a.node) c.mask.result c.requires.1.short
    (true-code _ _ _ (node_of a.node) c.requires.1.fits c.requires.2 c.requires.3 c.if-node-eq-PROPOSITION.false
    c.if-node-eq-FALSE.false) c.mask.ensures c.places.ensures
