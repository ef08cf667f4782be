-- `tell_found` writes the words of FOUND: one store a word, in their order.
use native.Mathlib.Omega.{arith}
use lib.ListN.{length-set}
use Rattle.out_resume.proofs.tell_found.Goals as goal

pub bounds-out-1 : goal.bounds-out-1
bounds-out-1 c = simp length-set (omega arith)

pub bounds-out-4 : goal.bounds-out-4
bounds-out-4 c = simp length-set (omega arith)

pub bounds-out-5 : goal.bounds-out-5
bounds-out-5 c = simp length-set (omega arith)

pub bounds-out-6 : goal.bounds-out-6
bounds-out-6 c = simp length-set (omega arith)

pub bounds-out-7 : goal.bounds-out-7
bounds-out-7 c = simp length-set (omega arith)
