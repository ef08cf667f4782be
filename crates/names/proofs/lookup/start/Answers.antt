-- The goals of `start` that the search leaves.
use Prim.Native.Nat.{ℕ, min}
use mathlib.Core.Path.{sym, ap, ◌∙◌}
use native.Mathlib.Omega.{arith}
use borrow.Author.Tests.{eqb-false}
use lib.ListN.{length}
use Rattle.names.specs.Lookup.{walk_end}
use Rattle.names.proofs.Lookups.{first-start, start-turn}
use Rattle.names.proofs.lookup.start.Goals as goal

pub loop-init : goal.loop-init
loop-init c = first-start c.args.section.now (eqb-false _ _ (sym c.if-is_empty.ensures))

pub loop-preserved : goal.loop-preserved
loop-preserved c = start-turn c.args.section.now c.loop.counter c.loop.invariant c.next-at.ensures

pub returns : goal.returns
returns c =
    let s = c.args.section.now in
    c.loop.invariant ∙ ap (λ (k : ℕ). min (length s) (walk_end s k 1)) (omega (arith, c.loop-test.false, c.loop.auto.counter-end))
