-- A node fits exactly where it has no fault, and a list is not broken exactly where it is short and all of it fits.
-- Assumes nothing.
use mathlib.Core.Path.{◌≡◌, refl, sym, ap, ◌∙◌, subst}
use mathlib.Core.Logic.{◌⊎◌, inl, inr, ⊎_elim}
use mathlib.Core.Bool.{true, false}
use mathlib.Core.List.{List}
use Prim.Native.Nat.{ℕ, ◌+◌, ◌≤◌, ◌<◌}
use native.Mathlib.Decide.{ℕ_discrete, dec_lt, dec_le}
use native.Mathlib.Omega.{arith}
use lib.Dec.{lit≤}
use lib.ListN.{length}
use Rattle.operators.specs.declared.Operator.{Operator}
use Rattle.operators.specs.Table.{Listed, no_row}
use Rattle.operators.specs.Table.Listed.{unary as unary-row, binary as binary-row, neither as no-row}
use Rattle.sequence.proofs.Groups.{unary-below, binary-between}
use Rattle.operators.proofs.Table.{row_at}
use Rattle.formula.specs.Formula.{Leaf, proposition, constant}
use Rattle.formula.specs.Nodes.{Node, node_at, leaf_code, leaf_number}
use Rattle.rules.specs.Limits.{most_size, most_room}
use Rattle.formula.specs.Rule.{IsUnary, IsBinary, IsLeaf, Known, Fault, Broken, proposition_code}
use Rattle.formula.specs.Rule.Fault.{unary_place, left_place, right_place, unknown_code, no_proposition, left_unused, right_unused, leaf_size, unary_size, binary_size, too_large}
use Rattle.formula.specs.Rule.Broken.{too_many, listed, rooted}
use Rattle.formula.specs.Faultless.{LeafIn, Fits, AllFit}
use Rattle.formula.specs.Faultless.Fits.{leaf, unary, binary}

-- ---- codes

pub leaf-between : (c : Leaf) → (16 ≤ leaf_code c) × (leaf_code c ≤ 18)
leaf-between (proposition p) = (lit≤ tt, lit≤ tt)
leaf-between (constant false) = (lit≤ tt, lit≤ tt)
leaf-between (constant true) = (lit≤ tt, lit≤ tt)

pub is_leaf : (c : ℕ) → 16 ≤ c → c ≤ 18 → IsLeaf c
is_leaf c l h =
    elim (ℕ_discrete c 16) [
      | yes e ↦ (proposition 0, sym e)
      | no a ↦ elim (ℕ_discrete c 17) [ yes e ↦ (constant false, sym e) | no b ↦ (constant true, omega arith) ]
    ]

pub not-both : (c : ℕ) → IsUnary c → IsBinary c → ⊥
not-both c u b = let x = unary-below u.0 in let y = binary-between b.0 in omega (arith, u.1, b.1)

pub not-unary-leaf : (c : ℕ) → IsUnary c → IsLeaf c → ⊥
not-unary-leaf c u b = let x = unary-below u.0 in let y = leaf-between b.0 in omega (arith, u.1, b.1)

pub not-binary-leaf : (c : ℕ) → IsBinary c → IsLeaf c → ⊥
not-binary-leaf c u b = let x = binary-between u.0 in let y = leaf-between b.0 in omega (arith, u.1, b.1)

pub unknown : (c : ℕ) → (IsUnary c → ⊥) → (IsBinary c → ⊥) → (16 ≤ c → c ≤ 18 → ⊥) → Known c → ⊥
unknown c u b l (inl x) = u x
unknown c u b l (inr (inl x)) = b x
unknown c u b l (inr (inr x)) = let y = leaf-between x.0 in l (omega (arith, x.1)) (omega (arith, x.1))

-- a leaf by its code
pub leaf-is : (c : Leaf) → leaf_code c ≡ proposition_code → (p : ℕ) × (c ≡ proposition p)
leaf-is (proposition p) e = (p, refl)
leaf-is (constant false) e = absurd (omega arith)
leaf-is (constant true) e = absurd (omega arith)

-- which one a code is
pub data Sort (c : ℕ) : Type 0 where
  a-unary : IsUnary c → Sort c
  a-binary : IsBinary c → Sort c
  a-leaf : IsLeaf c → Sort c
  none : (Known c → ⊥) → Sort c

pub sort : (c : ℕ) → Sort c
sort c =
    elim (dec_lt c 11) [
      | yes h ↦ low h (row_at no_row c h)
      | no h ↦ elim (dec_le 16 c) [
        | yes l ↦ elim (dec_le c 18) [ yes g ↦ a-leaf (is_leaf c l g) | no g ↦ none (unknown c (high-unary h) (high-binary h) (λ a b. g b)) ]
        | no l ↦ none (unknown c (high-unary h) (high-binary h) (λ a b. l a))
      ]
    ]
  where
    high-unary : (c < 11 → ⊥) → IsUnary c → ⊥
    high-unary h u = let x = unary-below u.0 in omega (arith, u.1)

    high-binary : (c < 11 → ⊥) → IsBinary c → ⊥
    high-binary h u = let x = binary-between u.0 in omega (arith, u.1)

    low : c < 11 → {r : Operator} → Listed c r → Sort c
    low h (unary-row op e q) = a-unary (op, e)
    low h (binary-row op e q) = a-binary (op, e)
    low h (no-row m n q) = none (unknown c (λ u. m u.0 u.1) (λ b. n b.0 b.1) (λ a b. omega arith))

-- ---- one node

module _ (m : ℕ) (k : List Node) (b : ℕ) (n : Node) where
  pub judge : Fits m k b n ⊎ Fault m k b n
  judge = by (sort n.code)
    where
      as-leaf : (c : Leaf) → leaf_code c ≡ n.code → n.right ≡ 0 → n.size ≡ 1 → Fits m k b n ⊎ Fault m k b n
      as-leaf (proposition p) e r s =
          elim (dec_lt n.left m) [ yes h ↦ inl (leaf (proposition n.left) (sym e) refl h r s) | no h ↦ inr (no_proposition (sym e) (omega arith)) ]
      as-leaf (constant false) e r s =
          elim (ℕ_discrete n.left 0) [ yes h ↦ inl (leaf (constant false) (sym e) h tt r s) | no h ↦ inr (left_unused (constant false, e) (λ z. omega arith) h) ]
      as-leaf (constant true) e r s =
          elim (ℕ_discrete n.left 0) [ yes h ↦ inl (leaf (constant true) (sym e) h tt r s) | no h ↦ inr (left_unused (constant true, e) (λ z. omega arith) h) ]

      as-unary : (u : IsUnary n.code) → n.left < b → n.right ≡ 0 → Fits m k b n ⊎ Fault m k b n
      as-unary u l r =
          elim (ℕ_discrete n.size (1 + (node_at k n.left).size)) [
            | yes s ↦ elim (dec_le n.size most_size) [ yes h ↦ inl (unary u.0 (sym u.1) l r s h) | no h ↦ inr (too_large (omega arith)) ]
            | no s ↦ inr (unary_size u s)
          ]

      as-binary : (u : IsBinary n.code) → n.left < b → n.right < b → Fits m k b n ⊎ Fault m k b n
      as-binary u l r =
          elim (ℕ_discrete n.size (1 + (node_at k n.left).size + (node_at k n.right).size)) [
            | yes s ↦ elim (dec_le n.size most_size) [ yes h ↦ inl (binary u.0 (sym u.1) l r s h) | no h ↦ inr (too_large (omega arith)) ]
            | no s ↦ inr (binary_size u s)
          ]

      by : Sort n.code → Fits m k b n ⊎ Fault m k b n
      by (a-unary u) =
          elim (dec_lt n.left b) [
            | yes l ↦ elim (ℕ_discrete n.right 0) [ yes r ↦ as-unary u l r | no r ↦ inr (right_unused (not-both n.code u) r) ]
            | no l ↦ inr (unary_place u (omega arith))
          ]
      by (a-binary u) =
          elim (dec_lt n.left b) [
            | yes l ↦ elim (dec_lt n.right b) [ yes r ↦ as-binary u l r | no r ↦ inr (right_place u (omega arith)) ]
            | no l ↦ inr (left_place u (omega arith))
          ]
      by (a-leaf u) =
          elim (ℕ_discrete n.right 0) [
            | yes r ↦ elim (ℕ_discrete n.size 1) [ yes s ↦ as-leaf u.0 u.1 r s | no s ↦ inr (leaf_size u s) ]
            | no r ↦ inr (right_unused (λ v. not-binary-leaf n.code v u) r)
          ]
      by (none u) = inr (unknown_code u)

  pub fits-no-fault : Fits m k b n → Fault m k b n → ⊥
  fits-no-fault (leaf c e l i r s) (unary_place u h) = not-unary-leaf n.code u (c, sym e)
  fits-no-fault (leaf c e l i r s) (left_place u h) = not-binary-leaf n.code u (c, sym e)
  fits-no-fault (leaf c e l i r s) (right_place u h) = not-binary-leaf n.code u (c, sym e)
  fits-no-fault (leaf c e l i r s) (unknown_code u) = u (inr (inr (c, sym e)))
  fits-no-fault (leaf c e l i r s) (no_proposition u h) =
      let p = leaf-is c (sym e ∙ u) in
      let w = subst (LeafIn m) p.1 i in
      omega (arith, l ∙ ap leaf_number p.1)
  fits-no-fault (leaf (proposition p) e l i r s) (left_unused u v h) = v e
  fits-no-fault (leaf (constant c) e l i r s) (left_unused u v h) = h l
  fits-no-fault (leaf c e l i r s) (right_unused u h) = h r
  fits-no-fault (leaf c e l i r s) (leaf_size u h) = h s
  fits-no-fault (leaf c e l i r s) (unary_size u h) = not-unary-leaf n.code u (c, sym e)
  fits-no-fault (leaf c e l i r s) (binary_size u h) = not-binary-leaf n.code u (c, sym e)
  fits-no-fault (leaf c e l i r s) (too_large h) = omega arith
  fits-no-fault (unary op e l r s q) (unary_place u h) = omega arith
  fits-no-fault (unary op e l r s q) (left_place u h) = omega arith
  fits-no-fault (unary op e l r s q) (right_place u h) = not-both n.code (op, sym e) u
  fits-no-fault (unary op e l r s q) (unknown_code u) = u (inl (op, sym e))
  fits-no-fault (unary op e l r s q) (no_proposition u h) = omega (arith, unary-below op)
  fits-no-fault (unary op e l r s q) (left_unused u v h) = not-unary-leaf n.code (op, sym e) u
  fits-no-fault (unary op e l r s q) (right_unused u h) = h r
  fits-no-fault (unary op e l r s q) (leaf_size u h) = not-unary-leaf n.code (op, sym e) u
  fits-no-fault (unary op e l r s q) (unary_size u h) = h s
  fits-no-fault (unary op e l r s q) (binary_size u h) = not-both n.code (op, sym e) u
  fits-no-fault (unary op e l r s q) (too_large h) = omega arith
  fits-no-fault (binary op e l r s q) (unary_place u h) = omega arith
  fits-no-fault (binary op e l r s q) (left_place u h) = omega arith
  fits-no-fault (binary op e l r s q) (right_place u h) = omega arith
  fits-no-fault (binary op e l r s q) (unknown_code u) = u (inr (inl (op, sym e)))
  fits-no-fault (binary op e l r s q) (no_proposition u h) = let x = binary-between op in omega arith
  fits-no-fault (binary op e l r s q) (left_unused u v h) = not-binary-leaf n.code (op, sym e) u
  fits-no-fault (binary op e l r s q) (right_unused u h) = u (op, sym e)
  fits-no-fault (binary op e l r s q) (leaf_size u h) = not-binary-leaf n.code (op, sym e) u
  fits-no-fault (binary op e l r s q) (unary_size u h) = not-both n.code u (op, sym e)
  fits-no-fault (binary op e l r s q) (binary_size u h) = h s
  fits-no-fault (binary op e l r s q) (too_large h) = omega arith

  pub fits-small : Fits m k b n → n.size ≤ most_size
  fits-small (leaf c e l i r s) = omega arith
  fits-small (unary op e l r s q) = q
  fits-small (binary op e l r s q) = q

  -- the number of a proposition that fits
  pub proposition-under : Fits m k b n → n.code ≡ proposition_code → n.left < m
  proposition-under (leaf c f l i t z) e = let q = leaf-is c (sym f ∙ e) in let v = subst (LeafIn m) q.1 i in omega (arith, l ∙ ap leaf_number q.1)
  proposition-under (unary op f l t z v) e = absurd (omega (arith, unary-below op))
  proposition-under (binary op f l t z v) e = let x = binary-between op in absurd (omega arith)

  -- a leaf that is neither a proposition nor false
  pub true-code : Fits m k b n → (IsUnary n.code → ⊥) → (IsBinary n.code → ⊥) → (n.code ≡ proposition_code → ⊥) → (n.code ≡ 17 → ⊥) → n.code ≡ 18
  true-code (leaf c q l i t z) u v e f = let x = leaf-between c in omega arith
  true-code (unary op q l t z w) u v e f = absurd (u (op, sym q))
  true-code (binary op q l t z w) u v e f = absurd (v (op, sym q))

-- a leaf that is no proposition
pub constant-fits : (m : ℕ) (k : List Node) (b : ℕ) (n : Node) → 17 ≤ n.code → n.code ≤ 18 → n.left ≡ 0 → n.right ≡ 0 → n.size ≡ 1 → Fits m k b n
constant-fits m k b n l h e r s =
    elim (ℕ_discrete n.code 17) [ yes c ↦ leaf (constant false) c e tt r s | no c ↦ leaf (constant true) (omega arith) e tt r s ]

-- ---- children

module _ (m : ℕ) (k : List Node) (all : AllFit m k (length k)) where
  -- a node that fits below its own place fits in the whole list
  listed-fits : (p : ℕ) → p < length k → Fits m k (length k) (node_at k p)
  listed-fits p h = later (all p h)
    where
      later : Fits m k p (node_at k p) → Fits m k (length k) (node_at k p)
      later (leaf c e l i r s) = leaf c e l i r s
      later (unary op e l r s q) = unary op e (omega arith) r s q
      later (binary op e l r s q) = binary op e (omega arith) (omega arith) s q

  -- a child fits as its node does, and is smaller
  pub left-fits : (n : Node) → Fits m k (length k) n → IsUnary n.code ⊎ IsBinary n.code
      → Fits m k (length k) (node_at k n.left) × ((node_at k n.left).size < n.size)
  left-fits n (leaf c e l i t z) (inl v) = absurd (not-unary-leaf n.code v (c, sym e))
  left-fits n (leaf c e l i t z) (inr v) = absurd (not-binary-leaf n.code v (c, sym e))
  left-fits n (unary op e l t z v) w = (listed-fits n.left l, omega arith)
  left-fits n (binary op e l t z v) w = (listed-fits n.left l, omega arith)

  pub right-fits : (n : Node) → Fits m k (length k) n → IsBinary n.code → Fits m k (length k) (node_at k n.right) × ((node_at k n.right).size < n.size)
  right-fits n (leaf c e l i t z) u = absurd (not-binary-leaf n.code u (c, sym e))
  right-fits n (unary op e l t z v) u = absurd (not-both n.code (op, sym e) u)
  right-fits n (binary op e l t z v) u = (listed-fits n.right t, omega arith)

-- ---- the whole list

module _ (m : ℕ) (k : List Node) (root : Node) where
  pub whole-fits : (Broken m k root → ⊥) → AllFit m k (length k) × Fits m k (length k) root
  whole-fits u = (
    λ p h. ⊎_elim (λ f. f) (λ f. absurd (u (listed p h f))) (judge m k p (node_at k p)),
    ⊎_elim (λ f. f) (λ f. absurd (u (rooted f))) (judge m k (length k) root),
  )

  pub fits_whole : length k ≤ most_room → AllFit m k (length k) → Fits m k (length k) root → Broken m k root → ⊥
  fits_whole h a f (too_many l) = omega arith
  fits_whole h a f (listed p l e) = fits-no-fault m k p (node_at k p) (a p l) e
  fits_whole h a f (rooted e) = fits-no-fault m k (length k) root f e
