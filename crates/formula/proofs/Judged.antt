-- What the tests of one node say of it. They are made at once: what passes all of them fits, and any that fails is a fault of 01's list.
-- Assumes nothing.
use mathlib.Core.Path.{◌≡◌, refl, sym}
use mathlib.Core.Bool.{Bool, true, false, ◌&&◌, ◌||◌, not}
use mathlib.Core.List.{List}
use Prim.Native.Nat.{ℕ, ◌+◌}
use native.Mathlib.Nat.{lt_of_not-le}
use native.Mathlib.Omega.{arith}
use lib.Dec.{ltb, leb, eqb}
use borrow.Author.Tests.{ltb-true, ltb-false, leb-true, leb-false, eqb-true, eqb-false}
use Rattle.rules.specs.Limits.{most_size}
use Rattle.formula.specs.Formula.{proposition}
use Rattle.formula.specs.Nodes.{Node, node_at}
use Rattle.formula.specs.Rule.{IsUnary, IsBinary}
use Rattle.formula.specs.Rule.Fault.{unary_place, left_place, right_place, unknown_code, no_proposition, left_unused, right_unused, leaf_size, unary_size, binary_size, too_large}
use Rattle.formula.specs.Faultless.Fits.{leaf, unary, binary}
use Rattle.formula.specs.Inner.{NodeJudged}
use Rattle.formula.proofs.Faults.{not-both, is_leaf, unknown, constant-fits}

-- four tests at once
four : (P : Bool → Type 0) (a b c d : Bool) → (a ≡ true → b ≡ true → c ≡ true → d ≡ true → P true)
    → (a ≡ false → P false) → (b ≡ false → P false) → (c ≡ false → P false) → (d ≡ false → P false) → P (((a && b) && c) && d)
four P true true true true t f g h i = t refl refl refl refl
four P true true true false t f g h i = i refl
four P true true false d t f g h i = h refl
four P true false c d t f g h i = g refl
four P false b c d t f g h i = f refl

-- four, and the sixth or the seventh by the fifth
by-fifth : (P : Bool → Type 0) (a b c d p u z : Bool) → (a ≡ false → P false) → (b ≡ false → P false) → (c ≡ false → P false)
    → (a ≡ true → b ≡ true → d ≡ false → P false)
    → (c ≡ true → d ≡ true → p ≡ true → u ≡ true → P true) → (p ≡ true → u ≡ false → P false)
    → (a ≡ true → b ≡ true → c ≡ true → d ≡ true → p ≡ false → z ≡ true → P true) → (a ≡ true → b ≡ true → p ≡ false → z ≡ false → P false)
    → P ((((a && b) && c) && d) && ((p && u) || (not p && z)))
by-fifth P true true true true true true z f g h i j k l o = j refl refl refl refl
by-fifth P true true true true true false z f g h i j k l o = k refl refl
by-fifth P true true true true false u true f g h i j k l o = l refl refl refl refl refl refl
by-fifth P true true true true false u false f g h i j k l o = o refl refl refl refl
by-fifth P true true true false p u z f g h i j k l o = i refl refl refl
by-fifth P true true false d p u z f g h i j k l o = h refl
by-fifth P true false c d p u z f g h i j k l o = g refl
by-fifth P false b c d p u z f g h i j k l o = f refl

module _ (m : ℕ) (k : List Node) (below : ℕ) (n : Node) where
  pub unary-judged : (l : ℕ) → IsUnary n.code → (node_at k n.left).size ≡ l
      → NodeJudged m k below n (((ltb n.left below && eqb n.right 0) && eqb n.size (1 + l)) && leb n.size most_size)
  unary-judged l op e =
      four (NodeJudged m k below n) (ltb n.left below) (eqb n.right 0) (eqb n.size (1 + l)) (leb n.size most_size)
      (λ a b c d. unary op.0 (sym op.1) (ltb-true _ _ a) (eqb-true _ _ b) (omega (arith, eqb-true)) (leb-true _ _ d))
      (λ a. unary_place op (ltb-false _ _ a))
      (λ b. right_unused (not-both _ op) (eqb-false _ _ b))
      (λ c. unary_size op (λ s. eqb-false n.size (1 + l) c (omega arith)))
      (λ d. too_large (leb-false _ _ d))

  pub binary-judged : (l r : ℕ) → IsBinary n.code → (node_at k n.left).size ≡ l → (node_at k n.right).size ≡ r
      → NodeJudged m k below n (((ltb n.left below && ltb n.right below) && eqb n.size (1 + l + r)) && leb n.size most_size)
  binary-judged l r op e f =
      four (NodeJudged m k below n) (ltb n.left below) (ltb n.right below) (eqb n.size (1 + l + r)) (leb n.size most_size)
      (λ a b c d. binary op.0 (sym op.1) (ltb-true _ _ a) (ltb-true _ _ b) (omega (arith, eqb-true)) (leb-true _ _ d))
      (λ a. left_place op (ltb-false _ _ a))
      (λ b. right_place op (ltb-false _ _ b))
      (λ c. binary_size op (λ s. eqb-false n.size (1 + l + r) c (omega arith)))
      (λ d. too_large (leb-false _ _ d))

  pub leaf-judged : (IsUnary n.code → ⊥) → (IsBinary n.code → ⊥)
      → NodeJudged m k below n ((((leb 16 n.code && leb n.code 18) && eqb n.right 0) && eqb n.size 1)
      && ((eqb n.code 16 && ltb n.left m) || (not (eqb n.code 16) && eqb n.left 0)))
  leaf-judged nu nb =
      by-fifth (NodeJudged m k below n) (leb 16 n.code) (leb n.code 18) (eqb n.right 0) (eqb n.size 1) (eqb n.code 16) (ltb n.left m) (eqb n.left 0)
      (λ a. unknown_code (unknown n.code nu nb (λ l h. omega (arith, leb-false))))
      (λ b. unknown_code (unknown n.code nu nb (λ l h. omega (arith, leb-false))))
      (λ c. right_unused nb (eqb-false _ _ c))
      (λ a b d. leaf_size (is_leaf n.code (leb-true _ _ a) (leb-true _ _ b)) (eqb-false _ _ d))
      (λ c d p u. leaf (proposition n.left) (eqb-true _ _ p) refl (ltb-true _ _ u) (eqb-true _ _ c) (eqb-true _ _ d))
      (λ p u. no_proposition (eqb-true _ _ p) (ltb-false _ _ u))
      (λ a b c d p z. let q : n.code ≡ 16 → ⊥ = eqb-false _ _ p in
      constant-fits m k below n (lt_of_not-le λ h. q (omega (arith, leb-true))) (leb-true _ _ b) (eqb-true _ _ z) (eqb-true _ _ c) (eqb-true _ _ d))
      (λ a b p z. left_unused (is_leaf n.code (leb-true _ _ a) (leb-true _ _ b)) (eqb-false _ _ p) (eqb-false _ _ z))
