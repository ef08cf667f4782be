-- Nodes unpacked into the lent slices: each field is what was packed.
-- Assumes nothing.
use mathlib.Core.Path.{◌≡◌, refl, sym, ap, ap₂, ◌∙◌}
use mathlib.Core.Bool.{true, false}
use mathlib.Core.List.{List, [], ◌∷◌, ◌++◌, map, map-append}
use Prim.Native.Nat.{ℕ, suc, ◌+◌, ◌-◌, ◌*◌, ◌/◌, ◌%◌, ◌≤◌, ◌<◌}
use native.Mathlib.Omega.{arith}
use native.Mathlib.Numerals.{add-one}
use lib.ListN.{length, take, drop, get_or, set, length-map, length-take}
use lib.Seq.{sets, length-sets, sets-eq, take-suc, take_at, length-take-le}
use Rattle.sequence.specs.Operators.{Unary, Binary, unary_code, binary_code}
use Rattle.sequence.specs.Operators.Unary.{not as negation, weak_next, strong_next, finally, globally}
use Rattle.sequence.specs.Operators.Binary.{or, and, until, release, implies, equiv}
use Rattle.rules.specs.Answers.{over}
use Rattle.formula.specs.Formula.{leaf, unary, binary, size}
use Rattle.formula.specs.Nodes.{Node}
use Rattle.writing.proofs.Writing.{sets-both}
use Rattle.grammar.specs.Token.{Atom, name, constant, Typed}
use Rattle.grammar.specs.Nodes.{nodes_of}
use Rattle.names.specs.Names.{names_in, GoodNames}
use Rattle.descent.specs.Packed.{codes_by, atom_code, pack, packs}
use Rattle.descent.proofs.Lookup.{field-small}

module _ (f : ℕ → ℕ) (scratch : List ℕ) where
  -- the first i are there, and one more
  pub filled_more : (old : List ℕ) {to : List ℕ} (i : ℕ) → i < length scratch → to ≡ sets old 0 (map f (take i scratch)) → set to i (f (get_or scratch i 0)) ≡ sets old 0 (map f (take (i + 1) scratch))
  filled_more old {to} i h e =
      let x = get_or scratch i 0 in
      let t : take (i + 1) scratch ≡ take i scratch ++ (x ∷ []) = ap (λ (n : ℕ). take n scratch) (add-one i) ∙ take-suc scratch i 0 h in
      let l : length (map f (take i scratch)) ≡ i = length-map (take i scratch) f ∙ length-take-le i scratch (omega arith) in
      let z : i ≡ 0 + length (map f (take i scratch)) = omega arith in
      ap (λ (v : List ℕ). set v i (f x)) e
      ∙ ap (λ (n : ℕ). set (sets old 0 (map f (take i scratch))) n (f x)) z
      ∙ sym (sets-both old 0 (map f (take i scratch)) (f x ∷ []))
      ∙ ap (sets old 0) (sym (map-append f (take i scratch) (x ∷ [])) ∙ ap (map f) (sym t))

  pub filled-length : (old : List ℕ) {to : List ℕ} (i : ℕ) → to ≡ sets old 0 (map f (take i scratch)) → length to ≡ length old
  filled-length old i e = ap length e ∙ length-sets old 0 (map f (take i scratch))

  pub filled-all : (old : List ℕ) {to : List ℕ} {i n : ℕ} → i ≡ n → to ≡ sets old 0 (map f (take i scratch)) → to ≡ sets old 0 (map f (take n scratch))
  filled-all old z e = e ∙ ap (λ (k : ℕ). sets old 0 (map f (take k scratch))) z

-- ---- what was packed

pub record InRange (n : Node) : Type 0 where
  pub code : n.code < 256
  pub left : n.left < 65536
  pub right : n.right < 65536
  pub size : n.size < 256

abbrev pub unit : ℕ → ℕ → ℕ → ℕ
unit u most e = e / u % most

module _ (n : Node) (r : InRange n) where
  code-back : unit 1 256 (pack n) ≡ n.code
  unfolding pack
  code-back = omega (arith, r.code)

  left_back : unit 256 65536 (pack n) ≡ n.left
  unfolding pack
  left_back = omega (arith, r.code, r.left)

  right-back : unit 16777216 65536 (pack n) ≡ n.right
  unfolding pack
  right-back = omega (arith, r.code, r.left, r.right)

  size_back : unit 1099511627776 256 (pack n) ≡ n.size
  unfolding pack
  size_back = omega (arith, r.code, r.left, r.right, r.size)

pub AllInRange : List Node → Type 0
AllInRange [] = Unit
AllInRange (n ∷ ns) = InRange n × AllInRange ns

all_back : (g : ℕ → ℕ) (f : Node → ℕ) → ((n : Node) → InRange n → g (pack n) ≡ f n) → (ns : List Node) → AllInRange ns → map g (packs ns) ≡ map f ns
unfolding AllInRange
all_back g f h [] r = refl
all_back g f h (n ∷ ns) r = ap₂ (λ x xs. x ∷ xs) (h n r.0) (all_back g f h ns r.1)

range-both : (xs ys : List Node) → AllInRange xs → AllInRange ys → AllInRange (xs ++ ys)
unfolding AllInRange
range-both [] ys a b = b
range-both (x ∷ xs) ys a b = (a.0, range-both xs ys a.1 b)

unary-code : (u : Unary) → unary_code u < 256
unary-code negation = omega arith
unary-code weak_next = omega arith
unary-code strong_next = omega arith
unary-code finally = omega arith
unary-code globally = omega arith

binary-code : (o : Binary) → binary_code o < 256
binary-code or = omega arith
binary-code and = omega arith
binary-code until = omega arith
binary-code release = omega arith
binary-code implies = omega arith
binary-code equiv = omega arith

atom-code : (l : Atom) → atom_code l < 256
atom-code (name w) = omega arith
atom-code (constant true) = omega arith
atom-code (constant false) = omega arith

-- the nodes of a tree of at most 31 nodes
pub nodes-range : (file : List ℕ) → GoodNames file → (p : ℕ) (t : Typed) → p + size t ≤ 31 → AllInRange (nodes_of (codes_by (names_in file)) p t)
unfolding nodes_of AllInRange
nodes-range file g p (leaf l) h = (record { code = atom-code l; left = field-small file g l; right = omega arith; size = omega arith }, tt)
nodes-range file g p (unary u t) h =
    let C = codes_by (names_in file) in
    range-both (nodes_of C p t) _ (nodes-range file g p t (omega arith)) (record { code = unary-code u; left = omega arith; right = omega arith; size = omega arith }, tt)
nodes-range file g p (binary o l r) h =
    let C = codes_by (names_in file) in
    range-both (nodes_of C p l) _ (nodes-range file g p l (omega arith))
    (range-both (nodes_of C (p + size l) r) _ (nodes-range file g (p + size l) r (omega arith)) (record { code = binary-code o; left = omega arith; right = omega arith; size = omega arith }, tt))

-- ---- a lent slice, filled

module _ (scratch new : List ℕ) (ns : List Node) (e : new ≡ sets scratch 0 (packs ns)) (h : length ns ≤ length scratch) where
  pub unpacked : take (length ns) new ≡ packs ns
  unpacked =
      let l : length (packs ns) ≡ length ns = length-map ns pack in
      let z : 0 + length (packs ns) ≡ length (packs ns) = omega arith in
      let q : new ≡ packs ns ++ drop (length (packs ns)) scratch = e ∙ sets-eq (packs ns) scratch 0 (omega arith) ∙ ap (λ (n : ℕ). packs ns ++ drop n scratch) z in
      ap (take (length ns)) q ∙ take_at (packs ns) (drop (length (packs ns)) scratch) (length ns) l

  column : (g : ℕ → ℕ) (f : Node → ℕ) → ((n : Node) → InRange n → g (pack n) ≡ f n) → AllInRange ns → (old : List ℕ) {to : List ℕ} → length ns ≤ length old
      → to ≡ sets old 0 (map g (take (length ns) new)) → to ≡ over (map f ns) old
  column g f back r old room q =
      let l : length (map f ns) ≡ length ns = length-map ns f in
      let z : 0 + length (map f ns) ≡ length (map f ns) = omega arith in
      q ∙ ap (λ (x : List ℕ). sets old 0 (map g x)) unpacked ∙ ap (sets old 0) (all_back g f back ns r)
      ∙ sets-eq (map f ns) old 0 (omega arith) ∙ ap (λ (n : ℕ). map f ns ++ drop n old) z

  module _ (r : AllInRange ns) (old : List ℕ) {to : List ℕ} (room : length ns ≤ length old) where
    pub codes-filled : to ≡ sets old 0 (map (unit 1 256) (take (length ns) new)) → to ≡ over (map (λ n. n.code) ns) old
    codes-filled q = column (unit 1 256) (λ n. n.code) code-back r old room q

    pub lefts-filled : to ≡ sets old 0 (map (unit 256 65536) (take (length ns) new)) → to ≡ over (map (λ n. n.left) ns) old
    lefts-filled q = column (unit 256 65536) (λ n. n.left) left_back r old room q

    pub rights-filled : to ≡ sets old 0 (map (unit 16777216 65536) (take (length ns) new)) → to ≡ over (map (λ n. n.right) ns) old
    rights-filled q = column (unit 16777216 65536) (λ n. n.right) right-back r old room q

    pub sizes-filled : to ≡ sets old 0 (map (unit 1099511627776 256) (take (length ns) new)) → to ≡ over (map (λ n. n.size) ns) old
    sizes-filled q = column (unit 1099511627776 256) (λ n. n.size) size_back r old room q
