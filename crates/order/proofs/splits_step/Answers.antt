-- The goals of `splits_step` that the search leaves.
use mathlib.Core.Path.{refl, sym, ap, ◌∙◌}
use Prim.Native.Nat.{ℕ, ◌+◌}
use native.Mathlib.Omega.{arith}
use Rattle.split.specs.declared.Cursor.{Cursor}
use Rattle.order.specs.Size.{layer_of}
use Rattle.order.specs.Ahead.{parts_ahead}
use Rattle.order.specs.Inner.{part_of, part_start}
use Rattle.split.specs.Split.{Takes}
use Rattle.split.proofs.Takes.{ended, carried}
use Rattle.order.proofs.Sizes.{parts_out, parts-done, parts-step}
use Rattle.order.proofs.splits_step.Goals as goal

pub returns-then-is_some : goal.returns-then-is_some
returns-then-is_some c =
    record {
      takes = λ m constants. carried (c.loop-i.invariant.1 m constants) (parts-step
          (layer_of _ _ m constants _ _) c.loop-i.here (omega (arith, c.loop-i.invariant.0)) (sym c.is_some.ensures ∙ c.if-is_some.true)
          (rw (c.part_of.ensures ∙ ap (part_of c.args.starts.now c.args.s) (sym c.loop-i.invariant.0)) at c.split_step-step.ensures));
    }

pub loop-i-preserved : goal.loop-i-preserved
loop-i-preserved c = (
  ap (λ (at : Cursor). at.split) c.part_start-here.ensures,
  λ m constants.
      c.loop-i.invariant.1 m constants
      ∙ parts-done (layer_of _ _ m constants _ _) c.loop-i.here (ended (sym c.is_some.ensures ∙ c.if-is_some.false)
      (rw (c.part_of.ensures ∙ ap (part_of c.args.starts.now c.args.s) (sym c.loop-i.invariant.0)) at c.split_step-step.ensures))
      ∙ ap (parts_ahead (layer_of _ _ m constants _ _)) (ap (λ (i : ℕ). part_start c.args.starts.now c.args.s (i + 1)) c.loop-i.invariant.0 ∙ sym c.part_start-here.ensures),
)

pub returns : goal.returns
returns c = record { takes = λ m constants. Takes.ends (c.loop-i.invariant.1 m constants ∙ parts_out (layer_of _ _ m constants _ _) _ (omega arith)) refl }
