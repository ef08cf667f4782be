-- `put_name` meets its contract: the letters of the name, out of the section.
use mathlib.Core.Path.{subst}
use mathlib.Core.List.{List}
use Prim.Native.Nat.{ℕ}
use native.Mathlib.Omega.{arith}
use Rattle.writing.specs.Writing.{Wrote}
use Rattle.names.proofs.Lookups.{span-order}
use Rattle.names.proofs.Starts.{letters-are-name}
use Rattle.text.proofs.text.put_name.Goals as goal

pub slice_bounds-put-count : goal.slice_bounds-put-count
slice_bounds-put-count c = let o = span-order c.args.names.now c.args.p c.letters-l.ensures in omega (arith, o.0, o.1)

pub slice_bounds-put-start : goal.slice_bounds-put-start
slice_bounds-put-start c = let o = span-order c.args.names.now c.args.p c.letters-l.ensures in omega (arith, o.0, o.1)

pub slice_bounds-put-end : goal.slice_bounds-put-end
slice_bounds-put-end c = let o = span-order c.args.names.now c.args.p c.letters-l.ensures in omega (arith, o.0, o.1)

pub returns : goal.returns
returns c =
    let a = c.args in
    subst (λ (l : List ℕ). Wrote a.room.now a.at l c.put.new.text c.put.result)
    (letters-are-name a.names.now c.requires.0 a.p c.requires.1 c.letters-l.ensures) c.put.ensures
