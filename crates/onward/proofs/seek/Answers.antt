-- The goals of `seek` that the search leaves.
use mathlib.Core.Path.{◌≡◌, sym, ap, ◌∙◌}
use Rattle.std.proofs.Common.{rules}
use Rattle.std.specs.Option.{is_some}
use Rattle.std.proofs.lemmas.Bool.{true≢false}
use Rattle.onward.specs.Onward.{up_to}
use Rattle.onward.proofs.Seeking.{seeking-start, seek-ends, seek-on, ended-step}
use Rattle.onward.proofs.seek.Goals as goal
use Rattle.onward.proofs.seek.Goals.{then-is_some-via-then-is_some, then-is_some-via-else-is_some+then-bound-state}

pub loop-step-init : goal.loop-step-init
loop-step-init c = seeking-start _ _ _ _ _ _ _ _ (search rules)

pub returns-then-is_some : goal.returns-then-is_some
returns-then-is_some c =
    let e : c.unwrap_or-propositions.result ≡ up_to 255 c.args.m = search rules in
    seek-ends _ _ _ _ _ _ _ _ c.loop-step.invariant e c.next-step.ensures (λ n. elim c.then-is_some.branch [
      | then-is_some-via-then-is_some w ↦ absurd (true≢false (sym w.if-is_some.true ∙ c.is_some.ensures ∙ ap is_some n))
      | then-is_some-via-else-is_some+then-bound-state w ↦ w.if-bound-state.true
    ])

pub loop-step-preserved : goal.loop-step-preserved
loop-step-preserved c =
    rw (c.begin-state.ensures, c.starts_at.ensures)
    (seek-on _ _ _ _ _ _ _ _ c.loop-step.invariant (ended-step (sym c.is_some.ensures ∙ c.if-is_some.false) c.next-step.ensures) c.if-bound-state.false)
