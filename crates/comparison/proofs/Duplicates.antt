-- A matrix that the table answers a place for is one that the walk knows, and no other.
-- Assumes nothing.
use mathlib.Core.Path.{◌≡◌, refl, sym, ap, ap₂, ◌∙◌, subst}
use mathlib.Core.Bool.{Bool, true, false, ◌||◌}
use mathlib.Core.List.{List, [], ◌∷◌, ◌++◌}
use Prim.Native.Nat.{ℕ, zero, suc, ◌+◌, ◌≤◌, ◌<◌}
use native.Mathlib.Omega.{arith}
use lib.ListN.{length, get_or, take, length-append}
use lib.Seq.{ext_get_or, length-take-le, get_or-take}
use Rattle.rules.specs.declared.kinds.Place.{Place}
use Rattle.walk.specs.Walk.{Candidate}
use Rattle.walk.specs.Walk as walk
use Rattle.walk.specs.Input.{Input, same_rows, offer}
use Rattle.walk.specs.Kept.{Table}
use Rattle.walk.specs.Promises.{SuperfluousBy}
use Rattle.walk.proofs.Promises.{kept-distinct}
use Rattle.walk.proofs.Dropped.{drops-front, dropped-by}
use Rattle.walk.proofs.Reading.{lawful}
use Rattle.std.specs.Prelude.{Option, Some, None}
use Rattle.comparison.specs.Compare.{Same, KnownAsk, KnownAnswer}
use Rattle.rows.specs.Formulas.{no_candidate, matrix_at, Stored}
use Rattle.comparison.specs.Promises.{KnownIsKnown, KnownBy}

module _ (i : Input) where
  same-yes : (x y : List ℕ) → x ≡ y → same_rows x y ≡ true
  same-yes x y q = go (same_rows x y) refl
    where
      go : (b : Bool) → same_rows x y ≡ b → b ≡ true
      go true e = refl
      go false e = absurd ((lawful i).same_false x y e q)

  same-no : (x y : List ℕ) → (x ≡ y → ⊥) → same_rows x y ≡ false
  same-no x y q = go (same_rows x y) refl
    where
      go : (b : Bool) → same_rows x y ≡ b → b ≡ false
      go true e = absurd (q ((lawful i).same_true x y e))
      go false e = refl

  or-true : (b : Bool) → (b || true) ≡ true
  or-true true = refl
  or-true false = refl

  known_some : (x : List ℕ) (k : Table) (p : ℕ) → p < length k → x ≡ matrix_at k p → walk.known (offer i) x k ≡ true
  unfolding walk.known
  known_some x [] p l q = absurd (omega arith)
  known_some x (c ∷ k) zero l q = ap (λ (b : Bool). b || walk.known (offer i) x k) (same-yes x c.matrix q)
  known_some x (c ∷ k) (suc p) l q = ap (λ (b : Bool). same_rows x c.matrix || b) (known_some x k p (omega arith) q) ∙ or-true (same_rows x c.matrix)

  known-none : (x : List ℕ) (k : Table) → ((p : ℕ) → p < length k → x ≡ matrix_at k p → ⊥) → walk.known (offer i) x k ≡ false
  unfolding walk.known
  known-none x [] h = refl
  known-none x (c ∷ k) h =
      ap₂ (λ (a b : Bool). a || b) (same-no x c.matrix (h 0 (omega arith))) (known-none x k (λ p l q. h (suc p) (omega arith) q))

module _ {i : Input} {k : Table} {matrices : List ℕ} (st : Stored i k matrices) (rows : List ℕ) (h : i.recording.sessions ≤ length rows) where
  equal-rows : (p : ℕ) → p < length k → Same i.recording.sessions matrices rows p i.recording.sessions → take i.recording.sessions rows ≡ matrix_at k p
  equal-rows p l q =
      ext_get_or 0 (take i.recording.sessions rows) (matrix_at k p) (length-take-le i.recording.sessions rows h ∙ sym (st.fine p l).long)
      (λ j w. let v : j < i.recording.sessions = omega (arith, length-take-le i.recording.sessions rows h) in get_or-take i.recording.sessions rows j 0 v ∙ q j v ∙ st.words p j l v)

  rows-equal : (p : ℕ) → p < length k → take i.recording.sessions rows ≡ matrix_at k p → Same i.recording.sessions matrices rows p i.recording.sessions
  rows-equal p l q j v = sym (get_or-take i.recording.sessions rows j 0 v) ∙ ap (λ (y : List ℕ). get_or y j 0) q ∙ sym (st.words p j l v)

pub known-is-known : KnownIsKnown
known-is-known i ok k matrices rows st c h (Some p) a = known_some i (take i.recording.sessions rows) k p.0 a.1 (equal-rows st rows h p.0 a.1 a.2)
known-is-known i ok k matrices rows st c h None a =
    let ask : KnownAsk i.recording.sessions matrices rows (length k) = record
    { sessions-in = ok.sessions-in.1; kept_in = omega (arith, ok.room_in.1); rows-there = h; matrices-there = st.there } in
    known-none i (take i.recording.sessions rows) k (λ p l q. a ask p l (rows-equal st rows h p l q))

-- ---- the one that makes a candidate superfluous

at_front : {A : Type 0} (xs ys : List A) (p : ℕ) (a b : A) → p < length xs → get_or (xs ++ ys) p a ≡ get_or xs p b
at_front [] ys p a b h = absurd (omega arith)
at_front (x ∷ xs) ys zero a b h = refl
at_front (x ∷ xs) ys (suc p) a b h = at_front xs ys p a b (omega arith)

-- the place that is answered has the candidate's matrix, and so has one only
pub known_by : KnownBy
known_by i ok e k n q before c d matrices rows st h m a w = go a w
  where
    longer : (new : Table) × (k ≡ d.so_far ++ new)
    longer = drops-front i e k n q before c d

    by : (place : ℕ) × (place < length d.so_far) × SuperfluousBy k before c place
    by = dropped-by i e k n q before c d

    -- the matrix at a place kept by then
    matrix-of : (p : ℕ) → p < length d.so_far → (get_or k p c).matrix ≡ matrix_at d.so_far p
    matrix-of p l =
        ap (λ (x : Table). (get_or x p c).matrix) longer.1
        ∙ ap (λ (x : Candidate (List ℕ)). x.matrix) (at_front d.so_far longer.0 p c no_candidate l)

    size : length k ≡ length d.so_far + length longer.0
    size = ap length longer.1 ∙ length-append d.so_far longer.0

    go : (a : Option Place) → KnownAnswer i.recording.sessions matrices rows (length d.so_far) a → (p : Place) × (a ≡ Some p) × SuperfluousBy k before c p.0
    go (Some p) w =
        let z = by.2.only p.0 (omega (arith, w.1, size)) (matrix-of p.0 w.1 ∙ sym (equal-rows st rows h p.0 w.1 w.2) ∙ m) in
        (p, refl, subst (SuperfluousBy k before c) (sym z) by.2)
    go None w =
        let ask : KnownAsk i.recording.sessions matrices rows (length d.so_far) = record {
          sessions-in = ok.sessions-in.1;
          kept_in = omega (arith, size, (kept-distinct i ok e k n q).room, ok.room_in.1);
          rows-there = h;
          matrices-there = st.there;
        } in
        absurd (w ask by.0 by.1 (rows-equal st rows h by.0 by.1 (m ∙ sym by.2.same ∙ matrix-of by.0 by.1)))
