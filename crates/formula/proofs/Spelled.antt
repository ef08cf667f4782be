-- A list that passes the rule: each of its nodes, and the root, spells exactly one formula, and one of size at most 31.
-- Assumes nothing.
use mathlib.Core.Path.{◌≡◌, refl, sym, ap, ap₂, ◌∙◌}
use mathlib.Core.Bool.{true, false}
use mathlib.Core.List.{List}
use Prim.Native.Nat.{ℕ, zero, suc, ◌≤◌, ◌<◌}
use native.Mathlib.Omega.{arith}
use lib.ListN.{length}
use Rattle.sequence.specs.Operators.{Unary, Binary, unary_of, binary_of, decode}
use Rattle.sequence.proofs.Decoding.{unary-of, binary-of, group_of, unary-group, binary-group}
use Rattle.formula.specs.Formula.{size, Leaf, proposition, constant, Formula}
use Rattle.formula.specs.Formula.Tree.{leaf, unary, binary}
use Rattle.formula.specs.Nodes.{Node, node_at, Spells, codes, leaf_code, leaf_number}
use Rattle.rules.specs.Limits.{most_size}
use Rattle.formula.proofs.Trees.{spells-size}
use Rattle.formula.specs.Rule.{Broken}
use Rattle.formula.specs.Faultless.{Fits, AllFit}
use Rattle.formula.specs.Faultless.Fits.{leaf as a-leaf, unary as a-unary, binary as a-binary}
use Rattle.formula.specs.Promises.{OneFormula}
use Rattle.formula.proofs.Faults.{fits-small, whole-fits}

-- ---- one formula at most: the codes tell leaves, unary and binary operators apart, and each operator and leaf from the others

leaf-one : (c d : Leaf) → leaf_code c ≡ leaf_code d → leaf_number c ≡ leaf_number d → c ≡ d
leaf-one (proposition p) (proposition q) e f = ap proposition f
leaf-one (proposition p) (constant false) e f = absurd (omega arith)
leaf-one (proposition p) (constant true) e f = absurd (omega arith)
leaf-one (constant false) (proposition q) e f = absurd (omega arith)
leaf-one (constant true) (proposition q) e f = absurd (omega arith)
leaf-one (constant false) (constant false) e f = refl
leaf-one (constant false) (constant true) e f = absurd (omega arith)
leaf-one (constant true) (constant false) e f = absurd (omega arith)
leaf-one (constant true) (constant true) e f = refl

leaf-group : (c : Leaf) → group_of (decode (leaf_code c)) ≡ 2
unfolding decode
leaf-group (proposition p) = refl
leaf-group (constant false) = refl
leaf-group (constant true) = refl

-- one code is of one group
one-group : {a b c : ℕ} → c ≡ a → c ≡ b → group_of (decode a) ≡ group_of (decode b)
one-group p q = ap (λ (x : ℕ). group_of (decode x)) (sym p ∙ q)

pub one-formula : OneFormula
one-formula k n (leaf c) (leaf d) s r = ap leaf (leaf-one c d (sym s.0 ∙ r.0) (sym s.1 ∙ r.1))
one-formula k n (leaf c) (unary op t) s r = absurd (omega (arith, leaf-group c, unary-group op, one-group s.0 r.0))
one-formula k n (leaf c) (binary op t u) s r = absurd (omega (arith, leaf-group c, binary-group op, one-group s.0 r.0))
one-formula k n (unary op t) (leaf c) s r = absurd (omega (arith, leaf-group c, unary-group op, one-group s.0 r.0))
one-formula k n (unary op t) (unary op' u) s r =
    ap₂ (λ (o : Unary) (x : Formula). unary o x) (sym (unary-of op) ∙ ap unary_of (sym s.0 ∙ r.0) ∙ unary-of op')
    (one-formula k (node_at k n.left) t u s.4 r.4)
one-formula k n (unary op t) (binary op' u v) s r = absurd (omega (arith, unary-group op, binary-group op', one-group s.0 r.0))
one-formula k n (binary op t u) (leaf c) s r = absurd (omega (arith, leaf-group c, binary-group op, one-group s.0 r.0))
one-formula k n (binary op t u) (unary op' v) s r = absurd (omega (arith, unary-group op', binary-group op, one-group s.0 r.0))
one-formula k n (binary op t u) (binary op' v w) s r =
    let o : op ≡ op' = sym (binary-of op) ∙ ap binary_of (sym s.0 ∙ r.0) ∙ binary-of op' in
    let l = one-formula k (node_at k n.left) t v s.3 r.3 in
    let q = one-formula k (node_at k n.right) u w s.5 r.5 in
    ap₂ (λ (p : Binary) (x : Formula). binary p x u) o l ∙ ap (binary op' v) q

-- ---- and one there is

module _ (m : ℕ) (k : List Node) (all : AllFit m k (length k)) where
  -- a formula at any place below d
  spelled-below : (d b : ℕ) → b ≤ d → b ≤ length k → (n : Node) → Fits m k b n → (t : Formula) × Spells codes k n t
  spelled-below zero b h g n (a-leaf c e l i r s) = (leaf c, (e, l, r, s))
  spelled-below zero b h g n (a-unary op e l r s q) = absurd (omega arith)
  spelled-below zero b h g n (a-binary op e l r s q) = absurd (omega arith)
  spelled-below (suc d) b h g n (a-leaf c e l i r s) = (leaf c, (e, l, r, s))
  spelled-below (suc d) b h g n (a-unary op e l r s q) =
      let x = spelled-below d n.left (omega arith) (omega arith) (node_at k n.left) (all n.left (omega arith)) in
      let p = spells-size codes k (node_at k n.left) x.0 x.1 in
      (unary op x.0, (e, r, omega (arith, s), omega arith, x.1))
  spelled-below (suc d) b h g n (a-binary op e l r s q) =
      let x = spelled-below d n.left (omega arith) (omega arith) (node_at k n.left) (all n.left (omega arith)) in
      let y = spelled-below d n.right (omega arith) (omega arith) (node_at k n.right) (all n.right (omega arith)) in
      let p = spells-size codes k (node_at k n.left) x.0 x.1 in
      let q = spells-size codes k (node_at k n.right) y.0 y.1 in
      (binary op x.0 y.0, (e, omega (arith, s), omega arith, x.1, omega arith, y.1))

  pub spelled : (b : ℕ) → b ≤ length k → (n : Node) → Fits m k b n → (t : Formula) × Spells codes k n t
  spelled b h n f = spelled-below b b (omega arith) h n f

-- exactly one formula, and a small one
pub record SpellsOne (k : List Node) (n : Node) : Type 0 where
  pub formula : Formula
  pub spelled : Spells codes k n formula
  pub only : (u : Formula) → Spells codes k n u → u ≡ formula
  pub small : size formula ≤ most_size

one : (m : ℕ) (k : List Node) (b : ℕ) (n : Node) → AllFit m k (length k) → b ≤ length k → Fits m k b n → SpellsOne k n
one m k b n all h f =
    let t = spelled m k all b h n f in
    let e = spells-size codes k n t.0 t.1 in
    record {
      formula = t.0;
      spelled = t.1;
      only = λ u s. one-formula k n u t.0 s t.1;
      small = omega (arith, fits-small m k b n f);
    }

-- A LIST THAT IS NOT BROKEN: its root and each of its nodes spell exactly one formula, of size at most 31
pub list-spells : (m : ℕ) (k : List Node) (root : Node) → (Broken m k root → ⊥) → SpellsOne k root × ((p : ℕ) → p < length k → SpellsOne k (node_at k p))
list-spells m k root u =
    let w = whole-fits m k root u in
    (one m k (length k) root w.0 (omega arith) w.1, λ p h. one m k p (node_at k p) w.0 (omega arith) (w.0 p h))
