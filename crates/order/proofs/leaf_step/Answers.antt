-- `leaf_step` meets its contract.
use native.Mathlib.Omega.{arith}
use Rattle.order.proofs.Leaves.{leaf-proposition, leaf-none, leaf-past, leaf-constant}
use Rattle.order.proofs.leaf_step.Goals as goal

pub returns-then-o-m : goal.returns-then-o-m
returns-then-o-m c = leaf-proposition _ _ _ (omega arith) (rw (c.leaf.ensures, c.to_left.ensures))

pub returns-then-constants-ne1 : goal.returns-then-constants-ne1
returns-then-constants-ne1 c = leaf-none _ _ _ c.if-constants-ne1.true (omega arith)

pub returns-then-o-m-2 : goal.returns-then-o-m-2
returns-then-o-m-2 c = leaf-constant _ _ _ 0 (omega arith) (omega arith) (omega arith) (rw c.leaf-then-o-m-2.ensures)

pub returns-then-o-m-3 : goal.returns-then-o-m-3
returns-then-o-m-3 c = leaf-constant _ _ _ 1 (omega arith) (omega arith) (omega arith) (rw c.leaf-then-o-m-3.ensures)

pub returns : goal.returns
returns c = leaf-past _ _ _ (omega arith) (omega arith)
