-- Words that are known, and the words that a pass over the text meets.
-- Assumes nothing.
use mathlib.Core.Path.{◌≡◌, sym, subst, ◌∙◌}
use mathlib.Core.Logic.{inl, inr, ⊎_elim}
use mathlib.Core.Bool.{Bool, true, false}
use mathlib.Core.List.{List, Memᴰ}
use Prim.Native.Nat.{ℕ, ◌+◌, ◌-◌, ◌≤◌, ◌<◌}
use native.Mathlib.Omega.{arith}
use native.Mathlib.Decide.{dec_lt}
use lib.ListN.{length, take, drop, get_or, get_or-eq_default}
use Rattle.reading.specs.Reading.{is_in}
use Rattle.reading.proofs.Lists.{true-false}
use Rattle.names.specs.Names.{is_name_byte, same_bytes}
use Rattle.names.specs.Reserved.{reserved}
use Rattle.names.specs.Lookup.{find_from}
use Rattle.names.proofs.Finding.{FoundIs, found-is, is-in, not-is-in}
use Rattle.std.proofs.Common.{Option, Some, None, is_some}
use Rattle.typed.specs.Words.{WordAt, UnknownAt, FirstUnknown}
use Rattle.typed.specs.Inner.{RunTo, KnownIs, Boundary, PassedIs}

-- ---- known words

module _ (names : List (List ℕ)) (w : List ℕ) where
  pub known-reserved : {b : Bool} → b ≡ true → b ≡ is_in same_bytes w reserved → KnownIs names w b
  known-reserved e q = let k : KnownIs names w true = inl (is-in w reserved (sym q ∙ e)) in subst (KnownIs names w) (sym e) k

  pub known-named : {b r : Bool} (f : Option ℕ) → b ≡ false → b ≡ is_in same_bytes w reserved → f ≡ find_from 0 w names → r ≡ is_some f → KnownIs names w r
  known-named (Some k) e q p d =
      let h : FoundIs w names 0 (Some k) = subst (FoundIs w names 0) (sym p) (found-is w names 0) in
      rw d (inr h.3)
  known-named None e q p d =
      let h : FoundIs w names 0 None = subst (FoundIs w names 0) (sym p) (found-is w names 0) in
      rw d (not-is-in w reserved (sym q ∙ e), h)

-- ---- runs

outside : (text : List ℕ) (i : ℕ) → length text ≤ i → is_name_byte (get_or text i 0) ≡ false
outside text i h = let z : get_or text i 0 ≡ 0 = get_or-eq_default text 0 h in rw z

-- a run so far
pub record Running (text : List ℕ) (start i : ℕ) : Type 0 where
  pub forward : start ≤ i
  pub within : i ≤ length text
  pub bytes : (j : ℕ) → start ≤ j → j < i → is_name_byte (get_or text j 0) ≡ true

pub run-start : (text : List ℕ) (start : ℕ) → start ≤ length text → Running text start start
run-start text start h = record { forward = omega arith; within = h; bytes = λ j g l. absurd (omega arith) }

module _ {text : List ℕ} {start i : ℕ} (r : Running text start i) where
  pub run-here : is_name_byte (get_or text i 0) ≡ false → RunTo text start i
  run-here e = record { forward = r.forward; within = r.within; bytes = r.bytes; ends = e }

  pub run-all : length text ≤ i → RunTo text start (length text)
  run-all h =
      record {
        forward = omega (arith, r.forward, r.within);
        within = omega arith;
        bytes = λ j g l. r.bytes j g (omega arith);
        ends = outside text (length text) (omega arith);
      }

  pub run_more : i < length text → is_name_byte (get_or text i 0) ≡ true → Running text start (i + 1)
  run_more h e = record { forward = let f = r.forward in omega arith; within = omega arith; bytes = λ j g l. elim (dec_lt j i) [ yes m ↦ r.bytes j g m | no m ↦ here j (omega arith) ] }
    where
      here : (j : ℕ) → j ≡ i → is_name_byte (get_or text j 0) ≡ true
      here j z = rw z e

module _ (text : List ℕ) where
  -- two words at one offset are one
  same_end : {k e r : ℕ} → WordAt text k e → RunTo text k r → e ≡ r
  same_end {k} {e} {r} w s =
      elim (dec_lt e r) [
        | yes h ↦ absurd (true-false (s.bytes e (let z = w.some in omega arith) h) w.ends)
        | no h ↦ elim (dec_lt r e) [ yes g ↦ absurd (true-false (w.bytes r s.forward g) s.ends) | no g ↦ omega arith ]
      ]

  module _ (names : List (List ℕ)) (i r : ℕ) (s : RunTo text i r) where
    -- no word's byte stands here
    pub pass-other : r ≡ i → i < length text → (i < i + 1) × (i + 1 ≤ length text) × Boundary text (i + 1) × ((k : ℕ) → i ≤ k → k < i + 1 → UnknownAt names text k → ⊥)
    pass-other e h =
        let n : is_name_byte (get_or text i 0) ≡ false = rw e at s.ends in (
          omega arith,
          omega arith,
          (λ j q b. let z : j ≡ i = omega arith in rw z n),
          λ k g l x. let z : k ≡ i = omega arith in true-false (x.word.bytes k (omega arith) x.word.some) (rw z n),
        )

    module _ (h : i < r) where
      -- a known word
      pub pass-known : KnownIs names (take (r - i) (drop i text)) true → (i < r) × (r ≤ length text) × Boundary text r × ((k : ℕ) → i ≤ k → k < r → UnknownAt names text k → ⊥)
      pass-known known = (h, s.within, (λ j q b. absurd (true-false b s.ends)), none)
        where
          none : (k : ℕ) → i ≤ k → k < r → UnknownAt names text k → ⊥
          none k g l x = elim (dec_lt i k) [
            | yes m ↦ true-false (s.bytes (k - 1) (omega arith) (omega arith)) (x.word.begins (k - 1) (omega arith))
            | no m ↦ here (omega arith)
          ]
            where
              here : k ≡ i → ⊥
              here z =
                  let y : UnknownAt names text i = rw z at x in
                  let e : y.end ≡ r = same_end y.word s in
                  let a : Memᴰ (take (r - i) (drop i text)) reserved → ⊥ = rw e at y.free in
                  let b : Memᴰ (take (r - i) (drop i text)) names → ⊥ = rw e at y.new in
                  ⊎_elim a b known

      pub pass-unknown : KnownIs names (take (r - i) (drop i text)) false → Boundary text i → UnknownAt names text i
      pass-unknown known b =
          record {
            end = r;
            word = record { some = h; within = s.within; bytes = s.bytes; begins = λ j q. b j q (s.bytes i (omega arith) h); ends = s.ends };
            free = known.0;
            new = known.1;
          }

-- ---- the pass over a text

pub record Met (names : List (List ℕ)) (text : List ℕ) (i : ℕ) : Type 0 where
  pub upto : i ≤ length text
  pub clean : Boundary text i
  pub none : (k : ℕ) → k < i → UnknownAt names text k → ⊥

module _ (names : List (List ℕ)) (text : List ℕ) where
  pub met_start : Met names text 0
  met_start = record { upto = omega arith; clean = λ j e b. absurd (omega arith); none = λ k h x. omega arith }

  module _ {i : ℕ} (m : Met names text i) where
    pub met-on : {p : Option ℕ} {next : ℕ} → p ≡ Some next → PassedIs names text i p → (i < next) × (next ≤ length text) × Met names text next
    met-on {p} {next} e s =
        let x : PassedIs names text i (Some next) = subst (PassedIs names text i) e s in
        (x.0, x.1, record { upto = x.1; clean = x.2; none = λ k h u. elim (dec_lt k i) [ yes g ↦ m.none k g u | no g ↦ x.3 k (omega arith) h u ] })

    pub met-here : {p : Option ℕ} → p ≡ None → PassedIs names text i p → FirstUnknown names text i
    met-here {p} e s =
        let x : PassedIs names text i None = subst (PassedIs names text i) e s in
        record { here = x m.clean; before = m.none }

    pub met_all : length text ≤ i → (k : ℕ) → UnknownAt names text k → ⊥
    met_all h k u = m.none k (let a = u.word.some in let b = u.word.within in omega arith) u
