-- `put_none` writes the words that the answer names: one store a word, in their order.
use native.Mathlib.Omega.{arith}
use lib.ListN.{length-set}
use Rattle.out_search.proofs.put_none.Goals as goal

pub bounds-out-2 : goal.bounds-out-2
bounds-out-2 c = simp length-set (omega arith)

pub bounds-out-3 : goal.bounds-out-3
bounds-out-3 c = simp length-set (omega arith)

pub bounds-out-8 : goal.bounds-out-8
bounds-out-8 c = simp length-set (omega arith)
