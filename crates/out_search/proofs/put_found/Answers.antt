-- `put_found` writes the words that the answer names: one store a word, in their order.
use native.Mathlib.Omega.{arith}
use lib.ListN.{length-set}
use Rattle.out_search.proofs.put_found.Goals as goal

pub bounds-out-1 : goal.bounds-out-1
bounds-out-1 c = simp length-set (omega arith)

pub bounds-out-2 : goal.bounds-out-2
bounds-out-2 c = simp length-set (omega arith)

pub bounds-out-3 : goal.bounds-out-3
bounds-out-3 c = simp length-set (omega arith)

pub bounds-out-4 : goal.bounds-out-4
bounds-out-4 c = simp length-set (omega arith)

pub bounds-out-5 : goal.bounds-out-5
bounds-out-5 c = simp length-set (omega arith)

pub bounds-out-6 : goal.bounds-out-6
bounds-out-6 c = simp length-set (omega arith)

pub bounds-out-7 : goal.bounds-out-7
bounds-out-7 c = simp length-set (omega arith)

pub bounds-out-8 : goal.bounds-out-8
bounds-out-8 c = simp length-set (omega arith)
