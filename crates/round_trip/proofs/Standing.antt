-- The nodes of a formula, written from a place of a list on, spell it: its root is the last of them.
-- Assumes nothing.
use mathlib.Core.Path.{◌≡◌, refl, sym, ap, subst, ◌∙◌}
use mathlib.Core.List.{List, [], ◌∷◌, ◌++◌, append_assoc, append-nil}
use Prim.Native.Nat.{ℕ, ◌+◌, ◌-◌, ◌≤◌, ◌<◌}
use native.Mathlib.Omega.{arith}
use lib.ListN.{length, length-append}
use lib.Seq.{get_or_at}
use Rattle.sequence.specs.Operators.{Unary, Binary, unary_code, binary_code}
use native.Mathlib.Decide.{dec_lt}
use Rattle.formula.specs.Formula.{leaf, unary, binary, size, Leaf, proposition, constant, Formula}
use Rattle.rules.specs.Limits.{most_size}
use Rattle.text.specs.Tokens.{Named}
use Rattle.formula.specs.Rule.{Broken}
use Rattle.formula.specs.Faultless.{LeafIn, Fits}
use Rattle.formula.specs.Faultless.Fits.{leaf as leaf_fits, unary as unary_fits, binary as binary_fits}
use Rattle.formula.proofs.Trees.{size-pos}
use Rattle.formula.proofs.Faults.{fits_whole}
use Rattle.formula.specs.Nodes.{Node, node_at, Spells, codes}
use Rattle.grammar.specs.Nodes.{leaf_node, nodes_of}
use Rattle.formula.specs.Kinds.{node}
use Rattle.reader.proofs.Scratch.{nodes-length}

abbrev none : Node
none = node 0 0 0 0

-- a formula's own node, and those before it
abbrev own : ℕ → Formula → Node
own p (leaf c) = leaf_node codes c
own p (unary u t) = node (unary_code u) (p + size t - 1) 0 (1 + size t)
own p (binary o l r) = node (binary_code o) (p + size l - 1) (p + size l + size r - 1) (1 + size l + size r)

abbrev others : ℕ → Formula → List Node
others p (leaf c) = []
others p (unary u t) = nodes_of codes p t
others p (binary o l r) = nodes_of codes p l ++ nodes_of codes (p + size l) r

own-last : (p : ℕ) (t : Formula) → nodes_of codes p t ≡ others p t ++ (own p t ∷ [])
unfolding nodes_of
own-last p (leaf c) = refl
own-last p (unary u t) = refl
own-last p (binary o l r) = sym (append_assoc (nodes_of codes p l) (nodes_of codes (p + size l) r) (own p (binary o l r) ∷ []))

-- its nodes stand in a list from a place on
pub record Stands (k : List Node) (p : ℕ) (t : Formula) : Type 0 where
  pub before : List Node
  pub after : List Node
  pub place : length before ≡ p
  pub is : k ≡ before ++ (nodes_of codes p t ++ after)

module _ {k : List Node} where
  inside : {p : ℕ} {t : Formula} → Stands k p t → p + size t ≤ length k
  inside {p} {t} s =
      let e = ap length s.is in
      let a = length-append s.before (nodes_of codes p t ++ s.after) in
      let b = length-append (nodes_of codes p t) s.after in
      let n = nodes-length codes p t in
      omega (arith, s.place)

  at_last : {p : ℕ} {t : Formula} → Stands k p t → node_at k (p + size t - 1) ≡ own p t
  at_last {p} {t} s =
      let front = s.before ++ others p t in
      let e : k ≡ front ++ (own p t ∷ s.after) =
      s.is ∙ ap (λ (l : List Node). s.before ++ (l ++ s.after)) (own-last p t)
      ∙ ap (λ (l : List Node). s.before ++ l) (append_assoc (others p t) (own p t ∷ []) s.after)
      ∙ sym (append_assoc s.before (others p t) (own p t ∷ s.after)) in
      let n : length front ≡ p + size t - 1 =
      (let a = length-append s.before (others p t) in
      let b = length-append (others p t) (own p t ∷ []) in
      let c = ap length (own-last p t) in
      let d = nodes-length codes p t in
      omega (arith, s.place)) in
      ap (λ (l : List Node). node_at l (p + size t - 1)) e ∙ get_or_at front (own p t) s.after none (p + size t - 1) n

  -- the operands' nodes stand there too

  operand : {p : ℕ} (u : Unary) (t : Formula) → Stands k p (unary u t) → Stands k p t
  unfolding nodes_of
  operand {p} u t s = record {
    before = s.before;
    after = own p (unary u t) ∷ s.after;
    place = s.place;
    is = s.is ∙ ap (λ (l : List Node). s.before ++ l) (append_assoc (nodes_of codes p t) (own p (unary u t) ∷ []) s.after);
  }

  module _ {p : ℕ} (o : Binary) (l r : Formula) (s : Stands k p (binary o l r)) where
    abbrev ls : List Node
    ls = nodes_of codes p l

    abbrev rest : List Node
    rest = own p (binary o l r) ∷ s.after

    all : k ≡ s.before ++ (ls ++ (nodes_of codes (p + size l) r ++ rest))
    unfolding nodes_of
    all =
        let rs = nodes_of codes (p + size l) r in
        let n = own p (binary o l r) ∷ [] in
        let e : (ls ++ (rs ++ n)) ++ s.after ≡ ls ++ (rs ++ rest) = append_assoc ls (rs ++ n) s.after ∙ ap (λ (x : List Node). ls ++ x) (append_assoc rs n s.after) in
        s.is ∙ ap (λ (x : List Node). s.before ++ x) e

    left : Stands k p l
    left = record { before = s.before; after = nodes_of codes (p + size l) r ++ rest; place = s.place; is = all }

    right : Stands k (p + size l) r
    right = record {
      before = s.before ++ ls;
      after = rest;
      place = (let a = length-append s.before ls in let b = nodes-length codes p l in omega (arith, s.place));
      is = all ∙ sym (append_assoc s.before ls (nodes_of codes (p + size l) r ++ rest));
    }

  pub spells : (p : ℕ) (t : Formula) → Stands k p t → Spells codes k (node_at k (p + size t - 1)) t
  spells p (leaf c) s = rw (at_last s) (refl, refl, refl, refl)
  spells p (unary u t) s =
      let h = inside (operand u t s) in
      let m = size-pos t in
      rw (at_last s) (refl, refl, refl, omega arith, spells p t (operand u t s))
  spells p (binary o l r) s =
      let h = inside (left o l r s) in
      let g = inside (right o l r s) in
      let i = size-pos l in
      let j = size-pos r in
      rw (at_last s) (refl, refl, omega arith, spells p l (left o l r s), omega arith, spells (p + size l) r (right o l r s))

-- "its nodes written left child, right child, parent": in the list of its nodes the last one spells the formula
pub nodes-spell : (t : Formula) → Spells codes (nodes_of codes 0 t) (node_at (nodes_of codes 0 t) (size t - 1)) t
nodes-spell t =
    let s : Stands (nodes_of codes 0 t) 0 t = record { before = []; after = []; place = refl; is = sym (append-nil (nodes_of codes 0 t)) } in
    let z : 0 + size t - 1 ≡ size t - 1 = omega arith in
    rw z at (spells 0 t s)

-- ---- number 9

leaf-in : (m : ℕ) (c : Leaf) → Named m (leaf c) → LeafIn m c
leaf-in m (proposition p) h = h
leaf-in m (constant b) h = tt

own-size : (p : ℕ) (t : Formula) → (own p t).size ≡ size t
own-size p (leaf c) = refl
own-size p (unary u t) = refl
own-size p (binary o l r) = refl

module _ (m : ℕ) {k : List Node} where
  leaf-fits : (p q : ℕ) (c : Leaf) → LeafIn m c → node_at k q ≡ leaf_node codes c → Fits m k q (node_at k q)
  leaf-fits p q c h e = rw e (leaf_fits c refl refl h refl refl)

  -- each of its nodes is without fault
  all_fit : (p : ℕ) (t : Formula) → Stands k p t → Named m t → size t ≤ most_size → (q : ℕ) → p ≤ q → q < p + size t → Fits m k q (node_at k q)
  unfolding nodes_of
  all_fit p (leaf c) s w h q g l =
      let z : q ≡ p + 1 - 1 = omega arith in
      leaf-fits p q c (leaf-in m c w) (ap (node_at k) z ∙ at_last s)
  all_fit p (unary u t) s w h q g l =
      let below = operand u t s in
      let m1 = size-pos t in
      elim (dec_lt q (p + size t)) [
        | yes a ↦ all_fit p t below w (omega arith) q g a
        | no a ↦
            let z : q ≡ p + (1 + size t) - 1 = omega arith in
            let e : node_at k q ≡ own p (unary u t) = ap (node_at k) z ∙ at_last s in
            let c : (node_at k (p + size t - 1)).size ≡ size t = ap (λ (n : Node). n.size) (at_last below) ∙ own-size p t in
            rw e (unary_fits u refl (omega arith) refl (omega arith) (omega arith))
      ]
  all_fit p (binary o l r) s w h q g b =
      let i = size-pos l in
      let j = size-pos r in
      elim (dec_lt q (p + size l)) [
        | yes a ↦ all_fit p l (left o l r s) w.0 (omega arith) q g a
        | no a ↦
            elim (dec_lt q (p + size l + size r)) [
              | yes d ↦ all_fit (p + size l) r (right o l r s) w.1 (omega arith) q (omega arith) d
              | no d ↦
                  let z : q ≡ p + (1 + size l + size r) - 1 = omega arith in
                  let f : node_at k q ≡ own p (binary o l r) = ap (node_at k) z ∙ at_last s in
                  let x : (node_at k (p + size l - 1)).size ≡ size l = ap (λ (v : Node). v.size) (at_last (left o l r s)) ∙ own-size p l in
                  let y : (node_at k (p + size l + size r - 1)).size ≡ size r = ap (λ (v : Node). v.size) (at_last (right o l r s)) ∙ own-size (p + size l) r in
                  rw f (binary_fits o refl (omega arith) (omega arith) (omega arith) (omega arith))
            ]
      ]

-- a node that fits at a place fits as a root
root-fits : (m : ℕ) (k : List Node) (q : ℕ) {n : Node} → q ≤ length k → Fits m k q n → Fits m k (length k) n
root-fits m k q h (leaf_fits c a b d e f) = leaf_fits c a b d e f
root-fits m k q h (unary_fits u a b c d e) = unary_fits u a (omega arith) c d e
root-fits m k q h (binary_fits o a b c d e) = binary_fits o a (omega arith) (omega arith) d e

-- what is read passes number 9: the list of the nodes, with the last of them as root
pub nodes-good : (m : ℕ) (t : Formula) → Named m t → size t ≤ most_size → Broken m (nodes_of codes 0 t) (node_at (nodes_of codes 0 t) (size t - 1)) → ⊥
nodes-good m t w h =
    let k = nodes_of codes 0 t in
    let s : Stands k 0 t = record { before = []; after = []; place = refl; is = sym (append-nil k) } in
    let n = nodes-length codes 0 t in
    let i = size-pos t in
    let all : (q : ℕ) → q < length k → Fits m k q (node_at k q) = λ q g. all_fit m 0 t s w h q (omega arith) (omega arith) in
    fits_whole m k (node_at k (size t - 1)) (omega arith) all (root-fits m k (size t - 1) (omega arith) (all (size t - 1) (omega arith)))
