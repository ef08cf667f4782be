-- The goals of `first_equal` that the search leaves.
use mathlib.Core.Path.{sym, subst}
use Prim.Native.Nat.{ℕ, ◌<◌}
use native.Mathlib.Omega.{arith}
use native.Mathlib.Nat.{zero-mul}
use borrow.Author.Count.{below_more}
use borrow.Author.Rules.{rules}
use Rattle.rules.specs.Limits.{most_sessions, most_room}
use Rattle.comparison.specs.Compare.{Same}
use Rattle.rows.proofs.Parts.{part-long}
use Rattle.comparison.proofs.Differences.{same-below, unequal}
use Rattle.leaves.proofs.Products.{place_end, next_row, at_most}
use Rattle.comparison.proofs.comparing.first_equal.Goals as goal

pub loop-p-init : goal.loop-p-init
loop-p-init c = (omega (arith, zero-mul c.args.r), λ q h e. absurd (omega arith))

pub offset_bounds-matrices-from : goal.offset_bounds-matrices-from
offset_bounds-matrices-from c =
    let a = c.args in
    omega (arith, place_end c.loop-p.p a.kept a.r (omega arith), at_most a.kept most_room a.r most_sessions (omega arith) (omega arith))

pub slice_bounds-compare_at-count : goal.slice_bounds-compare_at-count
slice_bounds-compare_at-count c = let a = c.args in omega (arith, place_end c.loop-p.p a.kept a.r (omega arith))

pub slice_bounds-compare_at-start : goal.slice_bounds-compare_at-start
slice_bounds-compare_at-start c = let a = c.args in omega (arith, place_end c.loop-p.p a.kept a.r (omega arith))

pub compare_at-compared-requires : goal.compare_at-compared-requires
compare_at-compared-requires c =
    let a = c.args in
    let v = c.loop-p in
    (omega arith, part-long a.matrices.now v.from a.r (omega (arith, place_end v.p a.kept a.r (omega arith))), omega arith)

pub returns-in-Equal : goal.returns-in-Equal
returns-in-Equal c =
    let a = c.args in
    let v = c.loop-p in
    let w = rw (c.in-Equal.is, v.invariant.0) at c.compare_at-compared.ensures in
    let end = place_end v.p a.kept a.r (omega arith) in
    let same = same-below a.r v.p a.matrices.now a.rows.now (omega (arith, end, c.requires.matrices-there)) a.r (omega arith) w.1 in
    let z = subst (λ (n : ℕ). (n < a.kept) × Same a.r a.matrices.now a.rows.now n a.r × ((q : ℕ) → q < n → Same a.r a.matrices.now a.rows.now q a.r → ⊥))
    (sym w.0) (omega arith, same, v.invariant.1) in
    (c.requires, z.0, z.1, z.2)

pub overflow_add-from : goal.overflow_add-from
overflow_add-from c =
    let a = c.args in
    omega (arith, at_most c.loop-p.p most_room a.r most_sessions (omega arith) (omega arith))

pub loop-p-preserved : goal.loop-p-preserved
loop-p-preserved c =
    let a = c.args in
    let v = c.loop-p in
    let end = place_end v.p a.kept a.r (omega arith) in (
      omega (arith, v.invariant.0, next_row v.p a.r),
      below_more _ _ v.invariant.1
          (unequal a.r v.p a.matrices.now a.rows.now (omega (arith, end, c.requires.matrices-there)) c.compare_at-compared.result (search rules)
          (rw v.invariant.0 at c.compare_at-compared.ensures)),
    )
