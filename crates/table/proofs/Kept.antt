-- The kept formulas in the lent slices: where each one's words stand, and what a store at the next place makes of the table.
-- Assumes nothing.
use mathlib.Core.Path.{◌≡◌, refl, sym, ap, ap₂, ◌∙◌, subst}
use mathlib.Core.Bool.{true, false}
use mathlib.Core.List.{List, [], ◌∷◌, ◌++◌, map, flat_map, append_assoc, append-nil}
use Prim.Native.Nat.{ℕ, zero, suc, ◌+◌, ◌*◌, ◌≤◌, ◌<◌}
use native.Mathlib.Omega.{arith}
use native.Mathlib.Numerals.{add-one}
use native.Mathlib.Nat.{suc-mul, zero-mul}
use native.Mathlib.Decide.{dec_le}
use lib.ListN.{length, get_or, set, take, drop, length-append, length-drop, get_or-append}
use lib.Seq.{paste, drop-cons, set-append_seam, append_snoc, take_at, drop-append-add, drop-drop, length-take-le, get_or-append-add, get_or-append_seam}
use Rattle.rules.specs.Answers.{over}
use Rattle.walk.specs.Walk.{Candidate}
use Rattle.walk.specs.Input.{Input, row}
use Rattle.walk.specs.Kept.{Table}
use Rattle.table.specs.Slices.{Cols, table_over}
use Rattle.table.specs.Keep.{KeepAsk, kept_at}
use Rattle.rows.specs.Formulas.{no_candidate, matrix_at, Fine}
use Rattle.table.specs.Formulas.{HoldsKept, RoomAt}
use Rattle.table.specs.Promises.{HeldIsStored, KeepGrows}
use Rattle.rows.proofs.Matrices.{length-map}
use Rattle.leaves.proofs.Products.{place_end}

-- ---- contents at the front

over-push : (new old : List ℕ) (x : ℕ) → length new < length old → set (over new old) (length new) x ≡ over (new ++ (x ∷ [])) old
over-push new old x h =
    ap (λ (l : List ℕ). set (new ++ l) (length new) x) (drop-cons old (length new) 0 h)
    ∙ set-append_seam new (get_or old (length new) 0) (drop (suc (length new)) old) x
    ∙ sym (append_snoc new x (drop (suc (length new)) old))
    ∙ ap (λ (n : ℕ). (new ++ (x ∷ [])) ++ drop n old) (sym (length-append new (x ∷ []) ∙ add-one (length new)))

over-paste : (new old xs : List ℕ) (at r : ℕ) → length new ≡ at → r ≤ length xs → paste (over new old) at xs r ≡ over (new ++ take r xs) old
over-paste new old xs at r e h =
    ap₂ (λ (a b : List ℕ). (a ++ take r xs) ++ b) (take_at new (drop (length new) old) at e)
    (ap (λ (n : ℕ). drop (n + r) (over new old)) (sym e)
    ∙ drop-append-add new (drop (length new) old) r ∙ drop-drop r (length new) old
    ∙ ap (λ (n : ℕ). drop n old) (ap (λ (n : ℕ). length new + n) (sym (length-take-le r xs h)) ∙ sym (length-append new (take r xs))))

length_over : (new old : List ℕ) → length new ≤ length old → length (over new old) ≡ length old
length_over new old h = omega (arith, length-append new (drop (length new) old), length-drop (length new) old)

-- ---- one more formula

map_snoc : {A B : Type 0} (f : A → B) (k : List A) (x : A) → map f (k ++ (x ∷ [])) ≡ map f k ++ (f x ∷ [])
map_snoc f [] x = refl
map_snoc f (c ∷ k) x = ap (λ l. f c ∷ l) (map_snoc f k x)

abbrev flat : Table → List ℕ
flat k = flat_map (λ c. c.matrix) k

flat-snoc : (k : Table) (x : Candidate (List ℕ)) → flat (k ++ (x ∷ [])) ≡ flat k ++ x.matrix
unfolding flat_map
flat-snoc [] x = append-nil x.matrix
flat-snoc (c ∷ k) x = ap (λ (l : List ℕ). c.matrix ++ l) (flat-snoc k x) ∙ sym (append_assoc c.matrix (flat k) x.matrix)

abbrev AllFine : Input → Table → Type 0
AllFine i k = (p : ℕ) → p < length k → Fine i (matrix_at k p)

length-flat : (i : Input) (k : Table) → AllFine i k → length (flat k) ≡ length k * i.recording.sessions
unfolding flat_map
length-flat i [] f = sym (zero-mul i.recording.sessions)
length-flat i (c ∷ k) f =
    length-append c.matrix (flat k)
    ∙ ap₂ (λ (a b : ℕ). a + b) (f 0 (omega arith)).long (length-flat i k (λ p l. f (suc p) (omega arith)))
    ∙ (let e : i.recording.sessions + length k * i.recording.sessions ≡ suc (length k) * i.recording.sessions = omega (arith, suc-mul (length k) i.recording.sessions) in e)

flat-at : (i : Input) (k : Table) → AllFine i k → (p j : ℕ) → p < length k → j < i.recording.sessions → get_or (flat k) (p * i.recording.sessions + j) 0 ≡ row (matrix_at k p) j
unfolding flat_map
flat-at i [] f p j h l = absurd (omega arith)
flat-at i (c ∷ k) f zero j h l =
    ap (λ (n : ℕ). get_or (c.matrix ++ flat k) n 0) (let e : 0 * i.recording.sessions + j ≡ j = omega (arith, zero-mul i.recording.sessions) in e)
    ∙ get_or-append c.matrix (flat k) 0 j (omega (arith, (f 0 (omega arith)).long))
flat-at i (c ∷ k) f (suc p) j h l =
    ap (λ (n : ℕ). get_or (c.matrix ++ flat k) n 0)
    (let e : suc p * i.recording.sessions + j ≡ length c.matrix + (p * i.recording.sessions + j) = omega (arith, suc-mul p i.recording.sessions, (f 0 (omega arith)).long) in e)
    ∙ get_or-append-add c.matrix (flat k) (p * i.recording.sessions + j) 0 ∙ flat-at i k (λ p l. f (suc p) (omega arith)) p j (omega arith) l

pub held-is-stored : HeldIsStored
held-is-stored i k t₀ t h = record {
  there = omega (arith, ap (λ (c : Cols). length c.matrices) h.are, length-append (flat k) (drop (length (flat k)) t₀.matrices), length-flat i k h.fine);
  words = λ p j l m.
      ap (λ (c : Cols). get_or c.matrices (p * i.recording.sessions + j) 0) h.are
      ∙ get_or-append (flat k) (drop (length (flat k)) t₀.matrices) 0 (p * i.recording.sessions + j)
      (omega (arith, length-flat i k h.fine, place_end p (length k) i.recording.sessions l))
      ∙ flat-at i k h.fine p j l m;
  fine = h.fine;
}

-- ---- one more place

length-snoc : (k : Table) (x : Candidate (List ℕ)) → length (k ++ (x ∷ [])) ≡ length k + 1
length-snoc k x = length-append k (x ∷ [])

fine-snoc : (i : Input) (k : Table) (x : Candidate (List ℕ)) → AllFine i k → Fine i x.matrix → AllFine i (k ++ (x ∷ []))
fine-snoc i k x f w p l = elim (dec_le (suc p) (length k)) [
  | yes h ↦ subst (λ (c : Candidate (List ℕ)). Fine i c.matrix) (sym (get_or-append k (x ∷ []) no_candidate p h)) (f p h)
  | no h ↦ (
      let e : p ≡ length k = omega (arith, length-snoc k x) in
      subst (λ (c : Candidate (List ℕ)). Fine i c.matrix) (sym (ap (λ (n : ℕ). get_or (k ++ (x ∷ [])) n no_candidate) e ∙ get_or-append_seam k x [] no_candidate)) w)
]

module _ (k : Table) (f : Candidate (List ℕ) → ℕ) (old : List ℕ) (m : length k < length old) where
  col-long : length (over (map f k) old) ≡ length old
  col-long = length_over (map f k) old (omega (arith, length-map f k))

  push-col : (x : Candidate (List ℕ)) → set (over (map f k) old) (length k) (f x) ≡ over (map f (k ++ (x ∷ []))) old
  push-col x =
      ap (λ (p : ℕ). set (over (map f k) old) p (f x)) (sym (length-map f k)) ∙ over-push (map f k) old (f x) (omega (arith, length-map f k))
      ∙ ap (λ (l : List ℕ). over l old) (sym (map_snoc f k x))

module _ {i : Input} {k : Table} {t₀ t : Cols} (h : HoldsKept i k t₀ t) (room : RoomAt i (length k) t₀) (rows : List ℕ) (l : i.recording.sessions ≤ length rows) where
  there : (f : Cols → List ℕ) → length k < length (f t₀) → length (f (table_over k t₀)) ≡ length (f t₀) → length k < length (f t)
  there f m e = omega (arith, ap (λ (c : Cols). length (f c)) h.are)

  asked : i.recording.sessions ≤ 32 → KeepAsk i.recording.sessions rows (length k) t
  asked s = record {
    sessions-in = s;
    rows-there = l;
    codes-in = there (λ c. c.codes) room.codes (col-long k (λ c. c.node.code) t₀.codes room.codes);
    lefts_in = there (λ c. c.lefts) room.lefts (col-long k (λ c. c.node.left) t₀.lefts room.lefts);
    rights-in = there (λ c. c.rights) room.rights (col-long k (λ c. c.node.right) t₀.rights room.rights);
    sizes-in = there (λ c. c.sizes) room.sizes (col-long k (λ c. c.node.size) t₀.sizes room.sizes);
    matrix-in = omega (arith, ap (λ (c : Cols). length c.matrices) h.are, length_over (flat k) t₀.matrices (omega (arith, length-flat i k h.fine, room.matrices)), room.matrices);
  }

  module _ (x : Candidate (List ℕ)) (e : take i.recording.sessions rows ≡ x.matrix) (w : Fine i x.matrix) where
    matrices-push : paste (over (flat k) t₀.matrices) (length k * i.recording.sessions) rows i.recording.sessions ≡ over (flat (k ++ (x ∷ []))) t₀.matrices
    matrices-push =
        over-paste (flat k) t₀.matrices rows (length k * i.recording.sessions) i.recording.sessions (length-flat i k h.fine) l
        ∙ ap (λ (y : List ℕ). over (flat k ++ y) t₀.matrices) e ∙ ap (λ (y : List ℕ). over y t₀.matrices) (sym (flat-snoc k x))

    grown : {t' : Cols} → t' ≡ kept_at i.recording.sessions rows (length k) x.node t → HoldsKept i (k ++ (x ∷ [])) t₀ t'
    grown q = record {
      fine = fine-snoc i k x h.fine w;
      are = q ∙ ap (kept_at i.recording.sessions rows (length k) x.node) h.are
          ∙ (let a = push-col k (λ c. c.node.code) t₀.codes room.codes x in
          let b = push-col k (λ c. c.node.left) t₀.lefts room.lefts x in
          let c = push-col k (λ c. c.node.right) t₀.rights room.rights x in
          let d = push-col k (λ c. c.node.size) t₀.sizes room.sizes x in
          rw (a, b, c, d, matrices-push));
    }

pub keep-grows : KeepGrows
keep-grows i ok k t₀ t t' h room rows c l e w true a = (refl, grown h room rows l c e w a.1)
keep-grows i ok k t₀ t t' h room rows c l e w false a = absurd (a.0 (asked h room rows l ok.sessions-in.1))
