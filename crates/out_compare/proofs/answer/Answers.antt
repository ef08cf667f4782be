-- `answer` meets its contract: where nothing is refused, what the core says of the first matrix from the place on is said of the place.
use native.Mathlib.Omega.{arith}
use Rattle.out_compare.proofs.Comparing.{lent, answers}
use Rattle.out_compare.proofs.answer.Goals as goal

pub overflow_mul-from : goal.overflow_mul-from
overflow_mul-from c = let a = c.args in let l = lent a.r a.place a.matrices.now a.words.now a.out c.in_ok-check.ensures in omega (arith, l.there)

pub offset_bounds-matrices-from : goal.offset_bounds-matrices-from
offset_bounds-matrices-from c = let a = c.args in let l = lent a.r a.place a.matrices.now a.words.now a.out c.in_ok-check.ensures in omega (arith, l.there)

pub slice_bounds-compare-count : goal.slice_bounds-compare-count
slice_bounds-compare-count c = let a = c.args in let l = lent a.r a.place a.matrices.now a.words.now a.out c.in_ok-check.ensures in omega (arith, l.there)

pub slice_bounds-compare-start : goal.slice_bounds-compare-start
slice_bounds-compare-start c = let a = c.args in let l = lent a.r a.place a.matrices.now a.words.now a.out c.in_ok-check.ensures in omega (arith, l.there)

pub returns : goal.returns
returns c = let a = c.args in answers a.r a.place a.matrices.now a.words.now a.out c.in_ok-check.ensures c.compare.result c.compare.ensures
