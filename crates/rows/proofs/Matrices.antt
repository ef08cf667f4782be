-- A candidate's rows as a list: for an input that passes, they are the walk's matrix.
-- Assumes nothing.
use mathlib.Core.Path.{◌≡◌, refl, sym, ap, ap₂, ◌∙◌, subst}
use mathlib.Core.Bool.{true, false, true≢false}
use mathlib.Core.List.{List, [], ◌∷◌, map}
use Prim.Native.Nat.{ℕ, zero, suc, ◌+◌, ◌*◌, ◌≤◌, ◌<◌}
use native.Mathlib.Omega.{arith}
use lib.ListN.{length, get_or, take}
use lib.Seq.{ext_get_or, length-take-le, get_or-take}
use Rattle.words.specs.Masked.{PlacesOn}
use Rattle.words.specs.Word.{width, At, WfComputed, Means}
use Rattle.words.proofs.Bits.{bit-zero}
use Rattle.words.proofs.At.{means-unique, means, recorded-computed}
use Rattle.words.proofs.Lengths.{Mask, places-cut}
use Rattle.sequence.specs.Operators.{Unary, Binary, unary_code, binary_code}
use Rattle.sequence.proofs.Masked.{unary-cut, binary-cut}
use Rattle.formula.specs.Formula.{Leaf, proposition, constant}
use Rattle.formula.specs.Nodes.{leaf_code, leaf_number}
use Rattle.rules.specs.Lists.{count}
use Rattle.walk.specs.Rows.{unary_row, binary_row, constant_row}
use Rattle.walk.specs.Input.{Input, Passes, row, rows, leaf_row}
use Rattle.session.specs.Recording.{length_of, word_of}
use Rattle.walk.specs.Kept.{Table}
use Rattle.walk.proofs.Reading.{row-rows}
use Rattle.walk.proofs.Rows.{unary-row-means, binary-row-means, constant-row-means, unary-row-only, binary-row-only}
use Rattle.loops.specs.Loops.{Filled}
use Rattle.rows.specs.Rows.{ReadThere, RowIs, RowsAsk}
use Rattle.rows.specs.Formulas.{matrix_at, Makes, made, Fine, Stored, Masks}
use Rattle.rows.specs.Promises.{MasksMade, RowsMade, MadeFine}
use Rattle.rows.proofs.Candidates.{unary-is, binary-is, leaf-is}
use Rattle.leaves.proofs.Products.{place_end}

-- ---- the rows

pub length-map : {A B : Type 0} (f : A → B) (l : List A) → length (map f l) ≡ length l
length-map f [] = refl
length-map f (x ∷ l) = ap suc (length-map f l)

length-count : (a n : ℕ) → length (count a n) ≡ n
unfolding count
length-count a zero = refl
length-count a (suc n) = ap suc (length-count (suc a) n)

length-rows : (r : ℕ) (f : ℕ → ℕ) → length (rows r f) ≡ r
length-rows r f = length-map f (count 0 r) ∙ length-count 0 r

take-rows : (r : ℕ) (f : ℕ → ℕ) (xs : List ℕ) → r ≤ length xs → ((j : ℕ) → j < r → get_or xs j 0 ≡ f j) → take r xs ≡ rows r f
take-rows r f xs h e =
    ext_get_or 0 (take r xs) (rows r f) (length-take-le r xs h ∙ sym (length-rows r f))
    (λ j l. let w : j < r = omega (arith, length-take-le r xs h) in get_or-take r xs j 0 w ∙ e j w ∙ sym (row-rows r f j w))

-- ---- the masks

pub masks-made : MasksMade
masks-made i ok old new true h a = (refl, record { there = omega (arith, a.1.long); are = a.1.words })
masks-made i ok old new false h a = absurd (a.0 (record { sessions-in = ok.sessions-in.1; lengths-there = ok.lengths-there; masks-there = h }))

-- ---- one word

false-row : (n : ℕ) → n ≤ width → 0 ≡ constant_row false n
false-row n h = means-unique (means h (λ i a. absurd (omega (arith, bit-zero i))) (λ i l q. absurd (true≢false (sym q)))) (constant-row-means false h)

true-row : (n m w : ℕ) → n ≤ width → Mask n m → Means width w (PlacesOn (At m)) → w ≡ constant_row true n
true-row n m w h k p = means-unique (places-cut h k p (λ i. refl)) (constant-row-means true h)

module _ {i : Input} (ok : Passes i) {k : Table} {masks matrices : List ℕ} (ms : Masks i masks) (st : Stored i k matrices) where
  abbrev r : ℕ
  r = i.recording.sessions

  -- a child's word is well formed
  child : (p j : ℕ) → p < length k → j < r → WfComputed (length_of i.recording j) (get_or matrices (p * r + j) 0)
  child p j h l = subst (WfComputed (length_of i.recording j)) (sym (st.words p j h l)) ((st.fine p h).formed j l)

  abbrev Is : ℕ → ℕ → ℕ → ℕ → ℕ → Type 0
  Is code left right j w = RowIs r i.recording.propositions masks i.recording.words matrices code left right j w

  module _ {code left right j w : ℕ} (l : j < r) where
    unary-word : (op : Unary) → unary_code op ≡ code → left < length k → Is code left right j w → w ≡ unary_row op (length_of i.recording j) (row (matrix_at k left) j)
    unary-word op e h x =
        unary-row-only op _ _ _ (unary-cut op (ms.are j l) (child left j h l) (unary-is op e x)) ∙ ap (unary_row op (length_of i.recording j)) (st.words left j h l)

    binary-word : (op : Binary) → binary_code op ≡ code → left < length k → right < length k → Is code left right j w
        → w ≡ binary_row op (length_of i.recording j) (row (matrix_at k left) j) (row (matrix_at k right) j)
    binary-word op e h h' x =
        binary-row-only op _ _ _ _ (binary-cut op (ms.are j l) (child left j h l) (child right j h' l) (binary-is op e x))
        ∙ ap₂ (binary_row op (length_of i.recording j)) (st.words left j h l) (st.words right j h' l)

    leaf-word : (c : Leaf) → leaf_code c ≡ code → leaf_number c ≡ left → Is code left right j w → w ≡ leaf_row i c j
    leaf-word (proposition q) e n x = leaf-is (proposition q) e x ∙ ap (word_of i.recording j) (sym n)
    leaf-word (constant false) e n x = leaf-is (constant false) e x ∙ false-row (length_of i.recording j) (ok.short j l)
    leaf-word (constant true) e n x = true-row (length_of i.recording j) _ _ (ok.short j l) (ms.are j l) (leaf-is (constant true) e x)

  -- ---- the matrix

  module _ {code left right : ℕ} (c : Makes i.recording.propositions (length k) code left right) where
    reads : Makes i.recording.propositions (length k) code left right → ReadThere r i.recording.propositions masks i.recording.words matrices code left right
    reads (Makes.leaf (proposition p) e n z h) =
        ReadThere.proposition (ap (λ (q : ℕ). leaf_code (proposition q)) (sym n) ∙ e) ok.propositions-in.1 (omega arith) ok.words-there
    reads (Makes.leaf (constant b) e n z h) = ReadThere.constant b e
    reads (Makes.unary op e h z) = ReadThere.unary op e (omega (arith, place_end left (length k) r h, st.there))
    reads (Makes.binary op e h h') = ReadThere.binary op e (omega (arith, place_end left (length k) r h, st.there)) (omega (arith, place_end right (length k) r h', st.there))

    module _ {old : List ℕ} (o : r ≤ length old) where
      asks : RowsAsk r i.recording.propositions masks i.recording.words matrices code left right old
      asks = record { sessions-in = ok.sessions-in.1; masks-there = ms.there; rows-there = o; reads = reads c }

      module _ {new : List ℕ} (f : Filled r old (RowIs r i.recording.propositions masks i.recording.words matrices code left right) new) where
        written : (c : Makes i.recording.propositions (length k) code left right) → take r new ≡ made i k c
        written (Makes.leaf c e n z h) = take-rows r _ new (omega (arith, f.long)) (λ j l. leaf-word l c e n (f.words j l))
        written (Makes.unary op e h z) = take-rows r _ new (omega (arith, f.long)) (λ j l. unary-word l op e h (f.words j l))
        written (Makes.binary op e h h') = take-rows r _ new (omega (arith, f.long)) (λ j l. binary-word l op e h h' (f.words j l))

pub rows_made : RowsMade
rows_made i ok k masks matrices old new ms st o code left right c true a = (refl, a.1.long, written ok ms st c o a.1 c)
rows_made i ok k masks matrices old new ms st o code left right c false a = absurd (a.0 (asks ok ms st c o))

-- ---- it has a well-formed word for each session

fine-rows : (i : Input) (f : ℕ → ℕ) → ((j : ℕ) → j < i.recording.sessions → WfComputed (length_of i.recording j) (f j)) → Fine i (rows i.recording.sessions f)
fine-rows i f h = record {
  long = length-rows i.recording.sessions f;
  formed = λ j l. subst (WfComputed (length_of i.recording j)) (sym (row-rows i.recording.sessions f j l)) (h j l);
}

pub made-fine : MadeFine
made-fine i ok k m kept code left right (Makes.leaf (proposition p) e n z h) le = fine-rows i _ (λ j l. recorded-computed (ok.well-formed j p l (omega arith)))
made-fine i ok k m kept code left right (Makes.leaf (constant b) e n z h) le = fine-rows i _ (λ j l. (constant-row-means b (ok.short j l)).wf)
made-fine i ok k m kept code left right (Makes.unary op e h z) le = fine-rows i _ (λ j l. (unary-row-means op (row (matrix_at k left) j) (ok.short j l)).wf)
made-fine i ok k m kept code left right (Makes.binary op e h h') le =
    fine-rows i _ (λ j l. (binary-row-means op (row (matrix_at k left) j) (row (matrix_at k right) j) (ok.short j l)).wf)
