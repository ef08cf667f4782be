-- A candidate's rows by the group of its code: what each group reads, what a row is, and that what a group wrote is the candidate's.
-- Assumes nothing.
use mathlib.Core.Path.{◌≡◌, sym, ap, ◌∙◌, subst}
use mathlib.Core.Bool.{Bool, true, false}
use mathlib.Core.List.{List, []}
use Prim.Native.Nat.{ℕ, ◌+◌, ◌*◌, ◌≤◌, ◌<◌, min}
use native.Mathlib.Omega.{arith}
use lib.ListN.{length, get_or}
use Rattle.words.specs.Masked.{PlacesOn}
use Rattle.words.specs.Word.{width, At, Means}
use Rattle.sequence.specs.Operators.{Unary, Binary, unary_code, binary_code}
use Rattle.sequence.specs.Masked.{unary_masked, binary_masked}
use Rattle.rules.specs.Limits.{most_sessions, most_propositions}
use Rattle.formula.specs.Formula.{Leaf}
use Rattle.formula.specs.Nodes.{leaf_code}
use Rattle.formula.specs.Rule.{IsUnary, IsBinary}
use Rattle.loops.specs.Loops.{Filled, Told, UnaryRow, BinaryRow}
use Rattle.rows.specs.Rows.{ReadThere, RowIs, RowsAsk, RowsAnswer}
use Rattle.rows.specs.Inner.{words_from, UnaryRowsAnswer, BinaryRowsAnswer, LeafAnswer}
use Rattle.loops.proofs.Filling.{filled-as}
use Rattle.rows.proofs.Parts.{part_at}
use Rattle.rows.proofs.Groups.{unary-or-binary, unary-or-leaf, binary-or-leaf, unary-same, binary-same}

-- w is a leaf's word of session j
abbrev pub LeafWord : ℕ → List ℕ → List ℕ → ℕ → ℕ → Leaf → ℕ → Type 0
LeafWord m masks words left j (Leaf.proposition p) w = w ≡ get_or words (j * m + left) 0
LeafWord m masks words left j (Leaf.constant false) w = w ≡ 0
LeafWord m masks words left j (Leaf.constant true) w = Means width w (PlacesOn (At (get_or masks j 0)))

module _ {r m : ℕ} {masks words matrices : List ℕ} {code left right : ℕ} where
  -- ---- what is read

  pub unary-reads : IsUnary code → ReadThere r m masks words matrices code left right → left * r + r ≤ length matrices
  unary-reads u (ReadThere.unary op e h) = h
  unary-reads u (ReadThere.binary op e h l) = absurd (unary-or-binary u.0 op (u.1 ∙ sym e))
  unary-reads u (ReadThere.proposition e a b c) = absurd (unary-or-leaf u.0 (Leaf.proposition left) (u.1 ∙ sym e))
  unary-reads u (ReadThere.constant b e) = absurd (unary-or-leaf u.0 (Leaf.constant b) (u.1 ∙ sym e))

  pub binary-reads : IsBinary code → ReadThere r m masks words matrices code left right → (left * r + r ≤ length matrices) × (right * r + r ≤ length matrices)
  binary-reads u (ReadThere.unary op e h) = absurd (unary-or-binary op u.0 (e ∙ sym u.1))
  binary-reads u (ReadThere.binary op e h l) = (h, l)
  binary-reads u (ReadThere.proposition e a b c) = absurd (binary-or-leaf u.0 (Leaf.proposition left) (u.1 ∙ sym e))
  binary-reads u (ReadThere.constant b e) = absurd (binary-or-leaf u.0 (Leaf.constant b) (u.1 ∙ sym e))

  pub proposition-reads : (IsUnary code → ⊥) → (IsBinary code → ⊥) → code ≡ 16 → ReadThere r m masks words matrices code left right
      → (m ≤ most_propositions) × (left < m) × (m * r ≤ length words)
  proposition-reads u v p (ReadThere.unary op e h) = absurd (u (op, e))
  proposition-reads u v p (ReadThere.binary op e h l) = absurd (v (op, e))
  proposition-reads u v p (ReadThere.proposition e a b c) = (a, b, c)
  proposition-reads u v p (ReadThere.constant false e) = absurd (omega arith)
  proposition-reads u v p (ReadThere.constant true e) = absurd (omega arith)

  pub no-leaf : (IsUnary code → ⊥) → (IsBinary code → ⊥) → (code ≡ 16 → ⊥) → (code ≡ 17 → ⊥) → (code ≡ 18 → ⊥) → ReadThere r m masks words matrices code left right → ⊥
  no-leaf u v p q s (ReadThere.unary op e h) = u (op, e)
  no-leaf u v p q s (ReadThere.binary op e h l) = v (op, e)
  no-leaf u v p q s (ReadThere.proposition e a b c) = p (sym e)
  no-leaf u v p q s (ReadThere.constant false e) = q (sym e)
  no-leaf u v p q s (ReadThere.constant true e) = s (sym e)

  -- ---- what a row is

  module _ {j w : ℕ} where
    pub unary-is : (op : Unary) → unary_code op ≡ code → RowIs r m masks words matrices code left right j w
        → Means width w (unary_masked op (At (get_or masks j 0)) (At (get_or matrices (left * r + j) 0)))
    unary-is op e (RowIs.unary o f p) =
        subst (λ (a : Unary). Means width w (unary_masked a (At (get_or masks j 0)) (At (get_or matrices (left * r + j) 0)))) (unary-same o op (f ∙ sym e)) p
    unary-is op e (RowIs.binary o f p) = absurd (unary-or-binary op o (e ∙ sym f))
    unary-is op e (RowIs.proposition f p) = absurd (unary-or-leaf op (Leaf.proposition left) (e ∙ sym f))
    unary-is op e (RowIs.none f p) = absurd (unary-or-leaf op (Leaf.constant false) (e ∙ sym f))
    unary-is op e (RowIs.all f p) = absurd (unary-or-leaf op (Leaf.constant true) (e ∙ sym f))

    pub binary-is : (op : Binary) → binary_code op ≡ code → RowIs r m masks words matrices code left right j w
        → Means width w (binary_masked op (At (get_or masks j 0)) (At (get_or matrices (left * r + j) 0)) (At (get_or matrices (right * r + j) 0)))
    binary-is op e (RowIs.unary o f p) = absurd (unary-or-binary o op (f ∙ sym e))
    binary-is op e (RowIs.binary o f p) =
        subst (λ (a : Binary). Means width w (binary_masked a (At (get_or masks j 0)) (At (get_or matrices (left * r + j) 0)) (At (get_or matrices (right * r + j) 0))))
        (binary-same o op (f ∙ sym e)) p
    binary-is op e (RowIs.proposition f p) = absurd (binary-or-leaf op (Leaf.proposition left) (e ∙ sym f))
    binary-is op e (RowIs.none f p) = absurd (binary-or-leaf op (Leaf.constant false) (e ∙ sym f))
    binary-is op e (RowIs.all f p) = absurd (binary-or-leaf op (Leaf.constant true) (e ∙ sym f))

    pub leaf-is : (c : Leaf) → leaf_code c ≡ code → RowIs r m masks words matrices code left right j w → LeafWord m masks words left j c w
    leaf-is c e (RowIs.unary o f p) = absurd (unary-or-leaf o c (f ∙ sym e))
    leaf-is c e (RowIs.binary o f p) = absurd (binary-or-leaf o c (f ∙ sym e))
    leaf-is (Leaf.proposition q) e (RowIs.proposition f p) = p
    leaf-is (Leaf.constant false) e (RowIs.proposition f p) = absurd (omega arith)
    leaf-is (Leaf.constant true) e (RowIs.proposition f p) = absurd (omega arith)
    leaf-is (Leaf.proposition q) e (RowIs.none f p) = absurd (omega arith)
    leaf-is (Leaf.constant false) e (RowIs.none f p) = p
    leaf-is (Leaf.constant true) e (RowIs.none f p) = absurd (omega arith)
    leaf-is (Leaf.proposition q) e (RowIs.all f p) = absurd (omega arith)
    leaf-is (Leaf.constant false) e (RowIs.all f p) = absurd (omega arith)
    leaf-is (Leaf.constant true) e (RowIs.all f p) = p

  -- ---- what was written

  module _ {old new : List ℕ} where
    pub proposition-told : {p : ℕ} → code ≡ 16 → m ≤ most_propositions → left < m → m * r ≤ length words → p ≡ min left 255
        → Filled r old (λ j w. w ≡ get_or words (j * m + p) 0) new → Told (ReadThere r m masks words matrices code left right)
        (Filled r old (RowIs r m masks words matrices code left right) new) (new ≡ old) true
    proposition-told {p} e a b c q f =
        let n : p ≡ left = omega arith in
        (ReadThere.proposition (sym e) a b c, filled-as (λ j w l h. RowIs.proposition (sym e) (h ∙ ap (λ (x : ℕ). get_or words (j * m + x) 0) n)) f)

    pub false-told : code ≡ 17 → Filled r old (λ j w. w ≡ 0) new → Told (ReadThere r m masks words matrices code left right)
        (Filled r old (RowIs r m masks words matrices code left right) new) (new ≡ old) true
    false-told e f = (ReadThere.constant false (sym e), filled-as (λ j w l h. RowIs.none (sym e) h) f)

    pub true-told : code ≡ 18 → Filled r old (λ j w. Means width w (PlacesOn (At (get_or masks j 0)))) new → Told
        (ReadThere r m masks words matrices code left right) (Filled r old (RowIs r m masks words matrices code left right) new) (new ≡ old) true
    true-told e f = (ReadThere.constant true (sym e), filled-as (λ j w l h. RowIs.all (sym e) h) f)

-- ---- from the groups to the candidate

module _ (r m : ℕ) (masks words matrices : List ℕ) (code left right : ℕ) (old new : List ℕ) (s : r ≤ most_sessions) (k : r ≤ length masks) (o : r ≤ length old) where
  abbrev Is : ℕ → ℕ → Type 0
  Is = RowIs r m masks words matrices code left right

  abbrev Answer : Bool → Type 0
  Answer = RowsAnswer r m masks words matrices code left right old new

  asks : ReadThere r m masks words matrices code left right → RowsAsk r m masks words matrices code left right old
  asks q = record { sessions-in = s; masks-there = k; rows-there = o; reads = q }

  unary-row : IsUnary code → left * r + r ≤ length matrices → (j w : ℕ) → j < r → UnaryRow code masks (words_from matrices (left * r)) j w → Is j w
  unary-row u h j w l (op, e, p) =
      RowIs.unary op e (subst (λ (x : ℕ). Means width w (unary_masked op (At (get_or masks j 0)) (At x))) (part_at matrices (left * r) j (omega arith)) p)

  pub unary-told : IsUnary code → (b : Bool) → UnaryRowsAnswer r masks matrices code left old new b → Answer b
  unary-told u true g = (asks (ReadThere.unary u.0 u.1 g.0), filled-as (unary-row u g.0) g.1)
  unary-told u false g = (λ a. g.0 (unary-reads u a.reads), g.1)

  binary-row : IsBinary code → left * r + r ≤ length matrices → right * r + r ≤ length matrices → (j w : ℕ) → j < r
      → BinaryRow code masks (words_from matrices (left * r)) (words_from matrices (right * r)) j w → Is j w
  binary-row u h h' j w l (op, e, p) =
      RowIs.binary op e
      (subst (λ (x : ℕ). Means width w (binary_masked op (At (get_or masks j 0)) (At x) (At (get_or matrices (right * r + j) 0)))) (part_at matrices (left * r) j (omega arith))
      (subst (λ (y : ℕ). Means width w (binary_masked op (At (get_or masks j 0)) (At (get_or (words_from matrices (left * r)) j 0)) (At y))) (part_at matrices (right * r) j (omega arith)) p))

  pub binary-told : IsBinary code → (b : Bool) → BinaryRowsAnswer r masks matrices code left right old new b → Answer b
  binary-told u true g = (asks (ReadThere.binary u.0 u.1 g.0.0 g.0.1), filled-as (binary-row u g.0.0 g.0.1) g.1)
  binary-told u false g = (λ a. g.0 (binary-reads u a.reads), g.1)

  module _ (u : IsUnary code → ⊥) (v : IsBinary code → ⊥) where
    leaf-row : (j w : ℕ) → RowIs r m masks words [] code left 0 j w → Is j w
    leaf-row j w (RowIs.unary op e p) = absurd (u (op, e))
    leaf-row j w (RowIs.binary op e p) = absurd (v (op, e))
    leaf-row j w (RowIs.proposition e p) = RowIs.proposition e p
    leaf-row j w (RowIs.none e p) = RowIs.none e p
    leaf-row j w (RowIs.all e p) = RowIs.all e p

    leaf-reads : ReadThere r m masks words [] code left 0 → ReadThere r m masks words matrices code left right
    leaf-reads (ReadThere.unary op e h) = absurd (u (op, e))
    leaf-reads (ReadThere.binary op e h l) = absurd (v (op, e))
    leaf-reads (ReadThere.proposition e a b c) = ReadThere.proposition e a b c
    leaf-reads (ReadThere.constant b e) = ReadThere.constant b e

    read-leaf : ReadThere r m masks words matrices code left right → ReadThere r m masks words [] code left 0
    read-leaf (ReadThere.unary op e h) = absurd (u (op, e))
    read-leaf (ReadThere.binary op e h l) = absurd (v (op, e))
    read-leaf (ReadThere.proposition e a b c) = ReadThere.proposition e a b c
    read-leaf (ReadThere.constant b e) = ReadThere.constant b e

    pub leaf-told : (b : Bool) → LeafAnswer r m masks words code left old new b → Answer b
    leaf-told true g = (asks (leaf-reads g.0), filled-as (λ j w l p. leaf-row j w p) g.1)
    leaf-told false g = (λ a. g.0 (read-leaf a.reads), g.1)
