-- A list of nodes and the four lists of its fields.
-- Assumes nothing.
use mathlib.Core.Path.{◌≡◌, refl, sym, ap, ◌∙◌, subst}
use mathlib.Core.List.{List, [], ◌∷◌, map}
use Prim.Native.Nat.{ℕ, zero, suc, ◌+◌, ◌<◌}
use native.Mathlib.Omega.{arith}
use lib.ListN.{length, get_or, set, take, length-map, length-set, get_or-map}
use Rattle.formula.specs.declared.kinds.Node.{Node}
use Rattle.nodes_in.specs.Arrays.{FieldsFilled}
use Rattle.formula.specs.Kinds.{no_node}
use Rattle.nodes_in.proofs.Filling.{one_more}

-- ---- filled node by node

pub filled_none : (list : List Node) {c l r s : List ℕ} → length c ≡ length list → length l ≡ length list → length r ≡ length list → length s ≡ length list → FieldsFilled list 0 c l r s
filled_none list hc hl hr hs = record {
  codes-long = hc;
  lefts-long = hl;
  rights-long = hr;
  sizes-long = hs;
  codes-are = refl;
  lefts-are = refl;
  rights-are = refl;
  sizes-are = refl;
}

abbrev node : List Node → ℕ → Node
node list i = get_or list i no_node

-- one field of node i is stored at i
field-more : (f : Node → ℕ) (list : List Node) (ys : List ℕ) (i : ℕ) → i < length list → length ys ≡ length list
    → take i ys ≡ take i (map f list) → take (i + 1) (set ys i (f (node list i))) ≡ take (i + 1) (map f list)
field-more f list ys i less l t =
    one_more (f no_node) (map f list) ys i (f (node list i)) (omega (arith, length-map list f)) (omega arith) (get_or-map f list i no_node) t

pub filled_more : (list : List Node) (i : ℕ) {c l r s : List ℕ} → i < length list → FieldsFilled list i c l r s
    → FieldsFilled list (i + 1) (set c i (node list i).code) (set l i (node list i).left.0) (set r i (node list i).right.0) (set s i (node list i).size)
filled_more list i {c} {l} {r} {s} less f = record {
  codes-long = length-set c i (node list i).code ∙ f.codes-long;
  lefts-long = length-set l i (node list i).left.0 ∙ f.lefts-long;
  rights-long = length-set r i (node list i).right.0 ∙ f.rights-long;
  sizes-long = length-set s i (node list i).size ∙ f.sizes-long;
  codes-are = field-more (λ m. m.code) list c i less f.codes-long f.codes-are;
  lefts-are = field-more (λ m. m.left.0) list l i less f.lefts-long f.lefts-are;
  rights-are = field-more (λ m. m.right.0) list r i less f.rights-long f.rights-are;
  sizes-are = field-more (λ m. m.size) list s i less f.sizes-long f.sizes-are;
}

-- ---- the other way, nodes made of their fields

abbrev made : ℕ → ℕ → ℕ → ℕ → Node
made c l r s = record { code = c; left = record { 0 = l }; right = record { 0 = r }; size = s }

map-set : (f : Node → ℕ) (list : List Node) (i : ℕ) (n : Node) → map f (set list i n) ≡ set (map f list) i (f n)
map-set f [] i n = refl
map-set f (x ∷ list) zero n = refl
map-set f (x ∷ list) (suc i) n = ap (λ (m : List ℕ). f x ∷ m) (map-set f list i n)

-- node i has element i of a field's list
taken_more : (f : Node → ℕ) (list : List Node) (ys : List ℕ) (i : ℕ) (n : Node) → i < length list → length ys ≡ length list → get_or ys i 0 ≡ f n
    → take i ys ≡ take i (map f list) → take (i + 1) ys ≡ take (i + 1) (map f (set list i n))
taken_more f list ys i n less l e t =
    sym (ap (λ (m : List ℕ). take (i + 1) m) (map-set f list i n) ∙ one_more 0 ys (map f list) i (f n) (omega arith) (omega (arith, length-map list f)) e (sym t))

pub packed_more : (list : List Node) (i : ℕ) {c l r s : List ℕ} → i < length list → FieldsFilled list i c l r s
    → FieldsFilled (set list i (made (get_or c i 0) (get_or l i 0) (get_or r i 0) (get_or s i 0))) (i + 1) c l r s
packed_more list i {c} {l} {r} {s} less f =
    let n : Node = made (get_or c i 0) (get_or l i 0) (get_or r i 0) (get_or s i 0) in
    record {
      codes-long = f.codes-long ∙ sym (length-set list i n);
      lefts-long = f.lefts-long ∙ sym (length-set list i n);
      rights-long = f.rights-long ∙ sym (length-set list i n);
      sizes-long = f.sizes-long ∙ sym (length-set list i n);
      codes-are = taken_more (λ m. m.code) list c i n less f.codes-long refl f.codes-are;
      lefts-are = taken_more (λ m. m.left.0) list l i n less f.lefts-long refl f.lefts-are;
      rights-are = taken_more (λ m. m.right.0) list r i n less f.rights-long refl f.rights-are;
      sizes-are = taken_more (λ m. m.size) list s i n less f.sizes-long refl f.sizes-are;
    }

pub filled-to : (list : List Node) (i n : ℕ) {c l r s : List ℕ} → i ≡ n → FieldsFilled list i c l r s → FieldsFilled list n c l r s
filled-to list i n {c} {l} {r} {s} e f = subst (λ (m : ℕ). FieldsFilled list m c l r s) e f

-- ---- the first of a list's fields

pub map-take : {A B : Type 0} (f : A → B) (n : ℕ) (l : List A) → map f (take n l) ≡ take n (map f l)
map-take f zero l = refl
map-take f (suc n) [] = refl
map-take {B = B} f (suc n) (x ∷ l) = ap (λ (r : List B). f x ∷ r) (map-take f n l)
