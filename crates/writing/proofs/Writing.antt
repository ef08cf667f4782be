-- Bytes written one run after another, and a run written byte by byte. What doesn't fit is lost at the end, so the law of two runs needs no room.
-- Assumes nothing.
use mathlib.Core.Path.{◌≡◌, refl, sym, ap, ◌∙◌}
use mathlib.Core.List.{List, [], ◌∷◌, ◌++◌}
use Prim.Native.Nat.{ℕ, suc, ◌+◌, ◌-◌, ◌≤◌, ◌<◌}
use native.Mathlib.Decide.{dec_le}
use native.Mathlib.Nat.{lt_of_not-le}
use native.Mathlib.Omega.{arith}
use native.Mathlib.Numerals.{add-one}
use lib.ListN.{length, get_or, set, take, drop, length-append, take-append-drop, length-set}
use lib.Seq.{sets, set_out, length-sets, take-suc, take_all, length-take-le}
use Rattle.writing.specs.Writing.{Wrote}

pub sets-both : (l : List ℕ) (k : ℕ) (u v : List ℕ) → sets l k (u ++ v) ≡ sets (sets l k u) (k + length u) v
sets-both l k [] v = ap (λ (x : ℕ). sets l x v) (omega arith)
sets-both l k (a ∷ u) v = sets-both (set l k a) (suc k) u v ∙ ap (λ (x : ℕ). sets (sets (set l k a) (suc k) u) x v) (omega arith)

-- past the end nothing is written
pub sets-past : (l : List ℕ) (i : ℕ) (u : List ℕ) → length l ≤ i → sets l i u ≡ l
sets-past l i [] h = refl
sets-past l i (a ∷ u) h = sets-past (set l i a) (suc i) u (omega (arith, length-set l i a)) ∙ set_out l i a h

pub wrote-length : {l m : List ℕ} {at a : ℕ} (u : List ℕ) → Wrote l at u m a → length m ≡ length l
wrote-length {l} {m} {at} u p = ap length p.holds ∙ length-sets l at u

pub wrote-both : {l m n : List ℕ} {at a b : ℕ} (u v : List ℕ) → Wrote l at u m a → Wrote m a v n b → Wrote l at (u ++ v) n b
wrote-both {l} {m} {n} {at} {a} {b} u v p q =
    let k = wrote-length u p in
    let s = p.next in
    let t = q.next in
    record {
      next = omega (arith, length-append u v);
      holds = q.holds ∙ ap (λ (x : List ℕ). sets x a v) p.holds ∙ after ∙ sym (sets-both l at u v);
    }
  where
    after : sets (sets l at u) a v ≡ sets (sets l at u) (at + length u) v
    after =
        let s = p.next in
        let k = length-sets l at u in
        elim (dec_le (at + length u) (length l)) [
          | yes h ↦ let e : a ≡ at + length u = omega arith in ap (λ (x : ℕ). sets (sets l at u) x v) e
          | no h ↦
              let g = lt_of_not-le h in
              sets-past (sets l at u) a v (omega arith) ∙ sym (sets-past (sets l at u) (at + length u) v (omega arith))
        ]

-- where there is room for all, the place after it
pub wrote-whole : {l m : List ℕ} {at a : ℕ} (u : List ℕ) → Wrote l at u m a → at + length u ≤ length l → a ≡ at + length u
wrote-whole {l} {m} {at} {a} u p h = let s = p.next in omega arith

-- the contract leaves one answer and one later text
pub wrote-unique : {l m n : List ℕ} {at a b : ℕ} (u : List ℕ) → Wrote l at u m a → Wrote l at u n b → (a ≡ b) × (m ≡ n)
wrote-unique u p q = (p.next ∙ sym q.next, p.holds ∙ sym q.holds)

-- ---- byte by byte: i bytes are written, and p is the next place

pub record Written (l : List ℕ) (at : ℕ) (u m : List ℕ) (i p : ℕ) : Type 0 where
  pub upto : i ≤ length u
  pub room : i ≤ length l - at
  pub place : p ≡ at + i
  pub is : m ≡ sets l at (take i u)

module _ (l : List ℕ) (at : ℕ) (u : List ℕ) where
  pub none_written : Written l at u l 0 at
  none_written = record { upto = omega arith; room = omega arith; place = omega arith; is = refl }

  module _ {m : List ℕ} {i p : ℕ} (w : Written l at u m i p) where
    pub same-room : length m ≡ length l
    same-room = ap length w.is ∙ length-sets l at (take i u)

    pub one_written : i < length u → p < length m → Written l at u (set m p (get_or u i 0)) (i + 1) (p + 1)
    one_written h g =
        let k = same-room in
        let q = w.place in
        let x = get_or u i 0 in
        let e : take (i + 1) u ≡ take i u ++ (x ∷ []) = ap (λ (n : ℕ). take n u) (add-one i) ∙ take-suc u i 0 h in
        let j : p ≡ at + length (take i u) = omega (arith, length-take-le i u w.upto) in
        record {
          upto = omega arith;
          room = omega arith;
          place = omega arith;
          is = ap (λ (r : List ℕ). set r p x) w.is ∙ ap (λ (n : ℕ). set (sets l at (take i u)) n x) j ∙ sym (sets-both l at (take i u) (x ∷ [])) ∙ ap (sets l at) (sym e);
        }

    pub all-written : length u ≤ i → Wrote l at u m p
    all-written h =
        let q = w.place in
        let r = w.upto in
        let s = w.room in
        record { next = omega arith; holds = w.is ∙ ap (sets l at) (take_all i u h) }

    -- the text is full: the rest is lost
    pub cut_off : length m ≤ p → Wrote l at u m p
    cut_off h =
        let k = same-room in
        let q = w.place in
        let r = w.upto in
        let s = w.room in
        let rest = drop i u in
        let none : sets (sets l at (take i u)) (at + length (take i u)) rest ≡ sets l at (take i u) =
        sets-past (sets l at (take i u)) (at + length (take i u)) rest (omega (arith, length-sets l at (take i u), length-take-le i u w.upto)) in
        record {
          next = omega arith;
          holds = w.is ∙ sym none ∙ sym (sets-both l at (take i u) rest) ∙ ap (sets l at) (take-append-drop i u);
        }
