-- The goals of `fill_bytes` that the search leaves.
use mathlib.Core.Path.{◌≡◌, refl}
use Prim.Native.Nat.{◌/◌, ◌%◌}
use native.Mathlib.Omega.{arith}
use Rattle.reader.proofs.Unpacking.{filled_more, filled-length, filled-all}
use Rattle.reader.proofs.fill.fill_bytes.Goals as goal

pub loop-i-init : goal.loop-i-init
loop-i-init c = refl

pub bounds-to-i : goal.bounds-to-i
bounds-to-i c =
    let l = c.loop-i in
    omega (arith, c.loop-i-test.true, c.requires.2, filled-length (λ e. e / c.args.unit % 256) c.args.scratch.now c.args.to.now l.i l.invariant)

pub loop-i-preserved : goal.loop-i-preserved
loop-i-preserved c =
    let l = c.loop-i in
    filled_more (λ e. e / c.args.unit % 256) c.args.scratch.now _ l.i (omega (arith, c.loop-i-test.true, c.requires.1)) l.invariant

pub shape_of-to : goal.shape_of-to
shape_of-to c =
    let l = c.loop-i in
    filled-length (λ e. e / c.args.unit % 256) c.args.scratch.now c.args.to.now l.i l.invariant

pub returns : goal.returns
returns c =
    let l = c.loop-i in
    let z : l.i ≡ c.args.n = omega (arith, c.loop-i-test.false) in
    filled-all (λ e. e / c.args.unit % 256) c.args.scratch.now _ z l.invariant
