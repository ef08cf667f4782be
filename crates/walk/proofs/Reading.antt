-- From words to the reading, once: row j of a formula's matrix has bit p set exactly where the formula holds at p of session j. So a matrix
-- agrees with the marks exactly if its formula separates, and two formulas have one matrix exactly if they are alike.
-- Assumes nothing.
use mathlib.Core.Path.{◌≡◌, refl, sym, ap, ap₂, ◌∙◌, subst, fun_ext}
use mathlib.Core.Logic.{◌↔◌, ◌⊎◌, ⊎_elim}
use mathlib.Core.Bool.{Bool, true, false, ◌&&◌, beq, true≢false}
use mathlib.Core.List.Memᴰ
use mathlib.Core.List.{List, [], ◌∷◌, map}
use Prim.Native.Nat.{ℕ, zero, suc, ◌+◌, ◌-◌, ◌<◌}
use native.Mathlib.Omega.{arith}
use lib.ListN.{length, get_or}
use lib.Seq.{ext_get_or}
use lib.Dec.{eqb}
use borrow.Author.Tests.{eqb-true, eq-eqb}
use Rattle.words.specs.Word.{bit, At, Means}
use Rattle.words.proofs.At.{means-unique, recorded-computed}
use Rattle.sequence.specs.Operators.{unary_code, binary_code, unary_of, binary_of}
use Rattle.formula.specs.Formula.{leaf, unary, binary, Leaf, proposition, constant, Formula, Holds, Accepts, Separates, LeafOffered, Offered}
use Rattle.session.specs.Recording.{mark_of, length_of}
use Rattle.formula.specs.Recorded.{marked_trace, marked_traces}
use Rattle.sequence.proofs.Decoding.{unary-of, binary-of}
use Rattle.sequence.proofs.Agreeing.{means-agree, unary-agree, binary-agree}
use Rattle.walk.specs.Walk.{matrix}
use Rattle.rules.specs.Lists.{count, ◌∈◌}
use Rattle.walk.specs.Rows.{unary_row, binary_row, accepts_row}
use Rattle.walk.specs.Input.{Input, Passes, language, rows, row, same_rows, every, constants_if, leaves, leaf_row, separating, offer}
use Rattle.walk.specs.Promises.{Alike, RowMeans}
use Rattle.walk.proofs.Members.{in_count, from-count}
use Rattle.walk.proofs.Trees.{From, Lawful}
use Rattle.walk.proofs.Rows.{unary-row-means, binary-row-means, constant-row-means, binary-row-comm, and-on, beq-on}

-- ---- the rows of a matrix

length-rows : (a r : ℕ) (f : ℕ → ℕ) → length (map f (count a r)) ≡ r
unfolding count
length-rows a zero f = refl
length-rows a (suc r) f = ap suc (length-rows (suc a) r f)

row_from : (a r : ℕ) (f : ℕ → ℕ) (j : ℕ) → j < r → get_or (map f (count a r)) j 0 ≡ f (a + j)
unfolding count
row_from a zero f j h = absurd (omega arith)
row_from a (suc r) f zero h = ap f (let e : a ≡ a + 0 = omega arith in e)
row_from a (suc r) f (suc j) h = row_from (suc a) r f j (omega arith) ∙ ap f (let e : suc a + j ≡ a + suc j = omega arith in e)

pub row-rows : (r : ℕ) (f : ℕ → ℕ) (j : ℕ) → j < r → row (rows r f) j ≡ f j
row-rows r f j h = row_from 0 r f j h ∙ ap f (let e : 0 + j ≡ j = omega arith in e)

-- ---- equal in every row

same_true : (x y : List ℕ) → same_rows x y ≡ true → x ≡ y
unfolding same_rows
same_true [] [] e = refl
same_true [] (b ∷ y) e = absurd (true≢false (sym e))
same_true (a ∷ x) [] e = absurd (true≢false (sym e))
same_true (a ∷ x) (b ∷ y) e = go _ refl e (λ h. same_true x y h)
  where
    go : (t : Bool) → eqb a b ≡ t → (t && same_rows x y) ≡ true → (same_rows x y ≡ true → x ≡ y) → a ∷ x ≡ b ∷ y
    go true w h r = ap₂ (λ (p : ℕ) (q : List ℕ). p ∷ q) (eqb-true a b w) (r h)
    go false w h r = absurd (true≢false (sym h))

same_refl : (x : List ℕ) → same_rows x x ≡ true
unfolding same_rows
same_refl [] = refl
same_refl (a ∷ x) = rw (eq-eqb a a refl) (same_refl x)

module _ (i : Input) where
  -- the comparison is exact and the commuting marks are right
  pub lawful : Lawful (offer i)
  lawful = record {
    same_true = same_true;
    same_false = λ x y e q. true≢false (sym (same_refl x) ∙ ap (same_rows x) q ∙ e);
    commute = λ op e x y. ap (rows i.recording.sessions) (fun_ext λ j. binary-row-comm op e (length_of i.recording j) (row x j) (row y j));
  }

  -- ---- what is offered

  leaf-from : (c : Leaf) → LeafOffered (language i) c → c ∈ leaves i
  leaf-from (proposition p) h = Memᴰ.append_left _ (Memᴰ.map proposition (in_count 0 i.recording.propositions p (omega arith) (omega arith)))
  leaf-from (constant b) h =
      Memᴰ.append_right (map proposition (count 0 i.recording.propositions))
      (subst (λ (t : Bool). constant b ∈ constants_if t) (sym (eq-eqb i.constants 1 h)) (either b))
    where
      either : (b : Bool) → constant b ∈ constants_if true
      either false = Memᴰ.head refl
      either true = Memᴰ.tail (Memᴰ.head refl)

  pub from-leaf : (c : Leaf) → c ∈ leaves i → LeafOffered (language i) c
  from-leaf c m =
      ⊎_elim
      (λ h. let w = Memᴰ.of_map proposition (count 0 i.recording.propositions) h in
      let v = from-count 0 i.recording.propositions w.0 w.1 in
      subst (LeafOffered (language i)) w.2 (omega arith))
      (λ h. given (eqb i.constants 1) refl h) (Memᴰ.append_cases (map proposition (count 0 i.recording.propositions)) m)
    where
      given : (t : Bool) → eqb i.constants 1 ≡ t → c ∈ constants_if t → LeafOffered (language i) c
      given true e h =
          ⊎_elim (λ q. subst (LeafOffered (language i)) (sym q) (eqb-true i.constants 1 e))
          (λ h'. subst (LeafOffered (language i)) (sym (eq-one h')) (eqb-true i.constants 1 e)) (Memᴰ.cases_cons h)
        where
          eq-one : c ∈ (constant true ∷ []) → c ≡ constant true
          eq-one h = mathlib.Core.List.Memᴰ.eq_of_singleton h
      given false e h = absurd (Memᴰ.not-nil h)

-- an operator is among those of the codes exactly if its code is among them, where each code is an operator's
module _ {A : Type 0} (of : ℕ → A) (code : A → ℕ) (back : (op : A) → of (code op) ≡ op) where
  pub coded_in : (op : A) (cs : List ℕ) → code op ∈ cs → op ∈ map of cs
  coded_in op cs m = Memᴰ.cast (sym (back op)) (Memᴰ.map of m)

  pub in-coded : (op : A) (cs : List ℕ) → ((c : ℕ) → c ∈ cs → (o : A) × (code o ≡ c)) → op ∈ map of cs → code op ∈ cs
  in-coded op cs h m =
      let (c, hc, e) = Memᴰ.of_map of cs m in
      let (o, eo) = h c hc in
      Memᴰ.cast (ap code (sym e ∙ ap of (sym eo) ∙ back o) ∙ eo) hc

module _ (i : Input) (ok : Passes i) where
  pub from-offered : (t : Formula) → Offered (language i) t → From (offer i) t
  from-offered (leaf c) h = leaf-from i c h
  from-offered (unary op t) h = (coded_in unary_of unary_code unary-of op i.unary h.0, from-offered t h.1)
  from-offered (binary op l r) h = (coded_in binary_of binary_code binary-of op i.binary h.0, from-offered l h.1, from-offered r h.2)

  pub offered-from : (t : Formula) → From (offer i) t → Offered (language i) t
  offered-from (leaf c) h = from-leaf i c h
  offered-from (unary op t) h = (in-coded unary_of unary_code unary-of op i.unary ok.unary-in h.0, offered-from t h.1)
  offered-from (binary op l r) h =
      (in-coded binary_of binary_code binary-of op i.binary ok.binary-in h.0, offered-from l h.1, offered-from r h.2)

  -- ---- the step from words to the reading

  row-holds : (t : Formula) → Offered (language i) t → (j : ℕ) → j < i.recording.sessions
      → Means (length_of i.recording j) (row (matrix (offer i) t) j) (Holds (marked_trace i.recording j).trace t)
  row-holds (leaf (proposition p)) h j l =
      rw (row-rows i.recording.sessions (leaf_row i (proposition p)) j l) (record { wf = recorded-computed (ok.well-formed j p l h); holds = λ q m. (λ z. z, λ z. z) })
  row-holds (leaf (constant b)) h j l =
      rw (row-rows i.recording.sessions (leaf_row i (constant b)) j l) (constant-row-means b (ok.short j l))
  row-holds (unary op t) h j l =
      let m = row-holds t h.1 j l in
      rw (row-rows i.recording.sessions (λ j. unary_row op (length_of i.recording j) (row (matrix (offer i) t) j)) j l)
      (means-agree (unary-row-means op (row (matrix (offer i) t) j) (ok.short j l))
      (unary-agree op (length_of i.recording j) (At (row (matrix (offer i) t) j)) (Holds (marked_trace i.recording j).trace t) m.holds))
  row-holds (binary op a b) h j l =
      let m = row-holds a h.1 j l in
      let n = row-holds b h.2 j l in
      rw (row-rows i.recording.sessions (λ j. binary_row op (length_of i.recording j) (row (matrix (offer i) a) j) (row (matrix (offer i) b) j)) j l)
      (means-agree (binary-row-means op (row (matrix (offer i) a) j) (row (matrix (offer i) b) j) (ok.short j l))
      (binary-agree op (length_of i.recording j)
      (At (row (matrix (offer i) a) j)) (Holds (marked_trace i.recording j).trace a)
      (At (row (matrix (offer i) b) j)) (Holds (marked_trace i.recording j).trace b) m.holds n.holds))

  -- ---- acceptance

  accepts-row : (t : Formula) → Offered (language i) t → (j : ℕ) → j < i.recording.sessions
      → (accepts_row (row (matrix (offer i) t) j) ≡ true) ↔ Accepts (marked_trace i.recording j).trace t
  accepts-row t h j l =
      let x = row (matrix (offer i) t) j in
      let at = (row-holds t h j l).holds 0 (omega arith) in
      (λ p. at.0 (eqb-true (bit x 0) 1 p), λ p. eq-eqb (bit x 0) 1 (at.1 p))

  separates-each : (t : Formula) → Offered (language i) t → (js : List ℕ) → ((j : ℕ) → j ∈ js → j < i.recording.sessions)
      → (every js (λ j. beq (accepts_row (row (matrix (offer i) t) j)) (eqb (mark_of i.recording j) 1)) ≡ true) ↔ Separates (map (marked_trace i.recording) js) t
  unfolding every
  separates-each t h [] l = (λ p. tt, λ p. refl)
  separates-each t h (j ∷ js) l =
      let rest = separates-each t h js (λ k m. l k (Memᴰ.tail m)) in
      let a = accepts_row (row (matrix (offer i) t) j) in
      let both = and-on (beq a (eqb (mark_of i.recording j) 1)) (every js (λ j. beq (accepts_row (row (matrix (offer i) t) j)) (eqb (mark_of i.recording j) 1))) in
      let same = beq-on a (eqb (mark_of i.recording j) 1) in
      let acc = accepts-row t h j (l j (Memᴰ.head refl)) in (
        λ p. let q = both.0 p in
            let w = same.0 q.0 in
            ((λ g. acc.0 (w.1 (eq-eqb (mark_of i.recording j) 1 g)), λ g. eqb-true (mark_of i.recording j) 1 (w.0 (acc.1 g))), rest.0 q.1),
        λ p. both.1 (same.1 (λ g. eq-eqb (mark_of i.recording j) 1 (p.0.1 (acc.0 g)), λ g. acc.1 (p.0.0 (eqb-true (mark_of i.recording j) 1 g))), rest.1 p.1),
      )

  pub agrees-separates : (t : Formula) → Offered (language i) t → (separating i (matrix (offer i) t) ≡ true) ↔ Separates (marked_traces i.recording) t
  unfolding separating
  agrees-separates t h = separates-each t h (count 0 i.recording.sessions) (λ j m. let w = from-count 0 i.recording.sessions j m in omega arith)

  -- ---- alike

  pub length-matrix : (t : Formula) → length (matrix (offer i) t) ≡ i.recording.sessions
  length-matrix (leaf c) = length-rows 0 i.recording.sessions (leaf_row i c)
  length-matrix (unary op t) = length-rows 0 i.recording.sessions (λ j. unary_row op (length_of i.recording j) (row (matrix (offer i) t) j))
  length-matrix (binary op l r) =
      length-rows 0 i.recording.sessions (λ j. binary_row op (length_of i.recording j) (row (matrix (offer i) l) j) (row (matrix (offer i) r) j))

  pub alike-matrix : (t u : Formula) → Offered (language i) t → Offered (language i) u → Alike i t u → matrix (offer i) t ≡ matrix (offer i) u
  alike-matrix t u ht hu a =
      ext_get_or 0 (matrix (offer i) t) (matrix (offer i) u) (length-matrix t ∙ sym (length-matrix u))
      (λ j h. let l : j < i.recording.sessions = omega (arith, length-matrix t) in
      means-unique (means-agree (row-holds t ht j l) (λ p m. a j p l m)) (row-holds u hu j l))

pub row-means : RowMeans
row-means = row-holds
