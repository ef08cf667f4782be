-- The evaluation falls by place: a node reaches one above its highest child, a leaf, which has none, nowhere; and a node of the list no further than its own place.
-- Assumes nothing.
use mathlib.Core.Path.{◌≡◌, refl, sym, ap, ◌∙◌, subst}
use mathlib.Core.Logic.{◌⊎◌, inl, inr}
use mathlib.Core.Bool.{true, false}
use mathlib.Core.List.{List}
use Prim.Native.Nat.{ℕ, ◌+◌, ◌≤◌, ◌<◌, max}
use native.Mathlib.Omega.{arith}
use Rattle.sequence.specs.Operators.{Unary, Binary, Coded, unary, binary, neither, unary_code, binary_code, decode}
use Rattle.sequence.proofs.Decoding.{decode-unary, decode-binary}
use Rattle.formula.specs.Formula.{Leaf, proposition, constant}
use Rattle.formula.specs.Nodes.{Node, leaf_code}
use Rattle.formula.specs.Rule.{IsUnary, IsBinary}
use Rattle.formula.specs.Faultless.{Fits}
use Rattle.formula.specs.Faultless.Fits.{leaf as leaf-fits, unary as unary-fits, binary as binary-fits}

abbrev up_to : Coded → ℕ → ℕ → ℕ
up_to (unary op) left right = 1 + left
up_to (binary op) left right = 1 + max left right
up_to neither left right = 0

abbrev pub reach : Node → ℕ
reach nd = up_to (decode nd.code) nd.left nd.right

decode-leaf : (c : Leaf) → decode (leaf_code c) ≡ neither
unfolding decode
decode-leaf (proposition p) = refl
decode-leaf (constant true) = refl
decode-leaf (constant false) = refl

module _ (nd : Node) where
  of-unary : (op : Unary) → unary_code op ≡ nd.code → decode nd.code ≡ unary op
  of-unary op e = ap decode (sym e) ∙ decode-unary op

  of-binary : (op : Binary) → binary_code op ≡ nd.code → decode nd.code ≡ binary op
  of-binary op e = ap decode (sym e) ∙ decode-binary op

  pub reaches-left : IsUnary nd.code ⊎ IsBinary nd.code → nd.left < reach nd
  reaches-left (inl (op, e)) = subst (λ (c : Coded). nd.left < up_to c nd.left nd.right) (sym (of-unary op e)) (omega arith)
  reaches-left (inr (op, e)) = subst (λ (c : Coded). nd.left < up_to c nd.left nd.right) (sym (of-binary op e)) (omega arith)

  pub reaches-right : IsBinary nd.code → nd.right < reach nd
  reaches-right (op, e) = subst (λ (c : Coded). nd.right < up_to c nd.left nd.right) (sym (of-binary op e)) (omega arith)

  pub reach-low : {m : ℕ} {k : List Node} {at : ℕ} → Fits m k at nd → reach nd ≤ at
  reach-low {m} {k} {at} (leaf-fits c e l i t z) = subst (λ (c : Coded). up_to c nd.left nd.right ≤ at) (sym (ap decode e ∙ decode-leaf c)) (omega arith)
  reach-low {m} {k} {at} (unary-fits op e l t z v) = subst (λ (c : Coded). up_to c nd.left nd.right ≤ at) (sym (of-unary op (sym e))) (omega arith)
  reach-low {m} {k} {at} (binary-fits op e l t z v) = subst (λ (c : Coded). up_to c nd.left nd.right ≤ at) (sym (of-binary op (sym e))) (omega arith)
