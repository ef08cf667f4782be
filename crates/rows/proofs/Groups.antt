-- A code is of one group: no two of a unary operator, a binary one and a leaf have one code.
-- Assumes nothing.
use mathlib.Core.Path.{◌≡◌, sym, ap, ◌∙◌}
use mathlib.Core.Bool.{true, false}
use Prim.Native.Nat.{◌≤◌}
use native.Mathlib.Omega.{arith}
use lib.Dec.{lit≤}
use Rattle.sequence.specs.Operators.{Unary, Binary, unary_code, binary_code, unary_of, binary_of}
use Rattle.sequence.proofs.Groups.{unary-below, binary-between}
use Rattle.formula.specs.Formula.{Leaf, proposition, constant}
use Rattle.formula.specs.Nodes.{leaf_code}
use Rattle.sequence.proofs.Decoding.{unary-of, binary-of}

leaf-from : (c : Leaf) → 16 ≤ leaf_code c
leaf-from (proposition p) = lit≤ tt
leaf-from (constant false) = lit≤ tt
leaf-from (constant true) = lit≤ tt

pub unary-or-binary : (op : Unary) (bop : Binary) → unary_code op ≡ binary_code bop → ⊥
unary-or-binary op bop e = omega (arith, unary-below op, (binary-between bop).0)

pub unary-or-leaf : (op : Unary) (c : Leaf) → unary_code op ≡ leaf_code c → ⊥
unary-or-leaf op c e = omega (arith, unary-below op, leaf-from c)

pub binary-or-leaf : (op : Binary) (c : Leaf) → binary_code op ≡ leaf_code c → ⊥
binary-or-leaf op c e = omega (arith, (binary-between op).1, leaf-from c)

-- and of one operator
pub unary-same : (a b : Unary) → unary_code a ≡ unary_code b → a ≡ b
unary-same a b e = sym (unary-of a) ∙ ap unary_of e ∙ unary-of b

pub binary-same : (a b : Binary) → binary_code a ≡ binary_code b → a ≡ b
binary-same a b e = sym (binary-of a) ∙ ap binary_of e ∙ binary-of b
