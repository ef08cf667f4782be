-- `CharSeq::check` meets its contract: what is not too long and not well formed has a bit at or above its length.
use mathlib.Core.Path.{refl, sym, ◌∙◌}
use mathlib.Core.Bool.{true≢false}
use mathlib.Core.Logic.{inl, inr, ⊎_elim}
use native.Mathlib.Omega.{arith}
use Rattle.words.specs.Word.{places}
use Rattle.words.proofs.At.{wf-or-above}
use Rattle.rules.specs.Refusals.{Decided}
use Rattle.sequence.proofs.CharSeq.check.Goals as goal

pub returns-then-self-gt-MAX_LENGTH : goal.returns-then-self-gt-MAX_LENGTH
unfolding Decided
returns-then-self-gt-MAX_LENGTH c = inl (omega arith, refl)

pub returns-then-is_well_formed : goal.returns-then-is_well_formed
unfolding Decided
returns-then-is_well_formed c =
    let w = c.is_well_formed.ensures.0 c.if-is_well_formed.true in
    inr (λ h. omega arith, inr (λ t. omega (arith, w.clear t.0 t.1), refl))

pub returns-else-is_well_formed : goal.returns-else-is_well_formed
unfolding Decided
returns-else-is_well_formed c =
    let s = c.args.self in
    inr (
      λ h. omega arith,
      ⊎_elim (λ t. inl (t, refl)) (λ w. absurd (true≢false (sym (c.is_well_formed.ensures.1 w) ∙ c.if-is_well_formed.false)))
          (wf-or-above {n = places s.length} {x = s.values} (omega arith) (omega arith)),
    )
