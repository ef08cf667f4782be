-- The goals of `known_name` that the search leaves.
use Prim.Native.Nat.{ℕ, ◌+◌, ◌-◌}
use mathlib.Core.Path.{◌≡◌, sym, ◌∙◌}
use native.Mathlib.Omega.{arith}
use lib.ListN.{get_or, take, drop}
use mathlib.Core.Bool.{Bool}
use mathlib.Core.List.{List}
use Rattle.names.specs.Names.{same_bytes}
use Rattle.names.proofs.Walks.{known_start, known-room, known-turn, known-here, known-end}
use Rattle.names.proofs.known.known_name.Goals as goal

cut : (file : List ℕ) (at n p : ℕ) {b : Bool} → same_bytes (take (at + n - at) (drop at file)) (take (p + 1 + get_or file p 0 - (p + 1)) (drop (p + 1) file)) ≡ b
    → same_bytes (take n (drop at file)) (take (get_or file p 0) (drop (p + 1) file)) ≡ b
cut file at n p e =
    let k : at + n - at ≡ n = omega arith in
    let l : p + 1 + get_or file p 0 - (p + 1) ≡ get_or file p 0 = omega arith in
    rw (k, l) at e

pub loop-init : goal.loop-init
loop-init c = known_start _ _ _

pub overflow_add-from : goal.overflow_add-from
overflow_add-from c = omega (arith, known-room _ _ _ c.loop.invariant c.loop-test.true)

pub bounds-file-p : goal.bounds-file-p
bounds-file-p c = omega (arith, known-room _ _ _ c.loop.invariant c.loop-test.true)

pub overflow_add-to : goal.overflow_add-to
overflow_add-to c = omega (arith, known-room _ _ _ c.loop.invariant c.loop-test.true)

pub slice_bounds-same-end-in-loop : goal.slice_bounds-same-end-in-loop
slice_bounds-same-end-in-loop c = omega (arith, known-room _ _ _ c.loop.invariant c.loop-test.true)

pub returns-then-same : goal.returns-then-same
returns-then-same c =
    let a = c.args in
    known-here _ _ _ c.loop.invariant c.loop-test.true (cut a.file.now a.at a.n c.loop.p (sym c.same.ensures ∙ c.if-same.true))

pub loop-preserved : goal.loop-preserved
loop-preserved c =
    let a = c.args in
    known-turn _ _ _ c.loop.invariant c.loop-test.true (cut a.file.now a.at a.n c.loop.p (sym c.same.ensures ∙ c.if-same.false))

pub returns : goal.returns
returns c = known-end _ _ _ c.loop.invariant c.loop-test.false
