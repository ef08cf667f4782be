-- The goals of `go_on` that the search leaves.
use mathlib.Core.Path.{refl, ◌∙◌}
use native.Mathlib.Omega.{arith}
use Rattle.turns.proofs.Rounds.{masked}
use Rattle.turns.proofs.Taken.{turning-start, turned, turn-after}
use Rattle.turns.proofs.Cuts.{gone, not-gone}
use Rattle.turns.proofs.go_on.Goals as goal

pub returns-then-unfit : goal.returns-then-unfit
returns-then-unfit c =
    not-gone (rw c.if-unfit.true at c.unfit.ensures)

pub loop-state-init : goal.loop-state-init
loop-state-init c =
    (refl, c.masks_for-masks.ensures, turning-start (rw c.if-unfit.false at c.unfit.ensures) c.starts_at-starts.ensures)

pub returns-in-Rests : goal.returns-in-Rests
returns-in-Rests c =
    let v = c.loop-state.invariant.2 in
    let w = turned _ _ _ _ _ _ _ _ _ _ v c.seek-seen.ensures c.in-Rests.ensures in
    gone v.asks w.0 w.1

pub overflow_sub-left : goal.overflow_sub-left
overflow_sub-left c =
    (turned _ _ _ _ _ _ _ _ _ _ c.loop-state.invariant.2 c.seek-seen.ensures c.in-Tries.ensures).some

pub loop-state-preserved : goal.loop-state-preserved
loop-state-preserved c =
    let v = c.loop-state.invariant in
    let j = c.judge-fate.auto in
    let w = turned _ _ _ _ _ _ _ _ _ _ v.2 c.seek-seen.ensures c.in-Tries.ensures in (
      j.rows ∙ v.0,
      v.1,
      rw c.after-state.ensures
          (turn-after _ _ _ _ _ _ _ _ _ _ w (masked _ _ v.1) (omega (arith, v.0))
          c.judge-fate.ensures
          (record { codes = j.codes; lefts = j.lefts; rights = j.rights; sizes = j.sizes; matrices = j.matrices })),
    )
