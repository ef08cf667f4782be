-- The loops of the writing pass: what is written so far and what is left to write come to all that is to be written.
-- Assumes nothing.
use mathlib.Core.Path.{◌≡◌, refl, sym, ap, ◌∙◌}
use mathlib.Core.List.{List, ◌∷◌, ◌++◌}
use Prim.Native.Nat.{ℕ, zero, suc, ◌+◌, ◌-◌, ◌*◌, ◌≤◌, ◌<◌}
use native.Mathlib.Nat.{suc-mul, mul-suc}
use native.Mathlib.Numerals.{add-one}
use native.Mathlib.Omega.{arith}
use lib.ListN.{length, get_or, take, drop, set, length-set}
use lib.Seq.{sets, length-sets, drop-drop, get_or-drop}
use Rattle.writing.proofs.Writing.{sets-both}
use Rattle.file.specs.Offence.{number}
use Rattle.file.specs.Inner.{strided, words_at, session_words}

-- ---- bytes

module _ (to₀ file : List ℕ) (at stride n : ℕ) where
  pub record Strides (to : List ℕ) (i p : ℕ) : Type 0 where
    pub upto : i ≤ n
    pub long : length to ≡ length to₀
    pub room : p + (n - i) * stride ≤ length file
    pub is : sets to i (strided stride (n - i) (drop p file)) ≡ sets to₀ 0 (strided stride n (drop at file))

  pub strides-start : at + n * stride ≤ length file → Strides to₀ 0 at
  strides-start h = let z : n - 0 ≡ n = omega arith in record { upto = omega arith; long = refl; room = rw z h; is = rw z }

  module _ {to : List ℕ} {i p : ℕ} (s : Strides to i p) where
    pub strides-next : i < n → p + stride + (n - (i + 1)) * stride ≤ length file
    strides-next h =
        let m : n - i ≡ suc (n - (i + 1)) = omega arith in
        let r = s.room in
        let e : (n - i) * stride ≡ (n - (i + 1)) * stride + stride = rw m (suc-mul (n - (i + 1)) stride) in
        omega arith

    pub strides-turn : i < n → Strides (set to i (get_or file p 0)) (i + 1) (p + stride)
    unfolding strided
    strides-turn h =
        let m : n - i ≡ suc (n - (i + 1)) = omega arith in
        let z : p + 0 ≡ p = omega arith in
        let step : strided stride (n - i) (drop p file) ≡ get_or file p 0 ∷ strided stride (n - (i + 1)) (drop (p + stride) file) = rw (m, get_or-drop p file 0 0, z, drop-drop stride p file) in
        let turned : sets to i (strided stride (n - i) (drop p file)) ≡ sets (set to i (get_or file p 0)) (i + 1) (strided stride (n - (i + 1)) (drop (p + stride) file)) = rw (step, add-one i) in
        record { upto = omega arith; long = length-set to i (get_or file p 0) ∙ s.long; room = strides-next h; is = sym turned ∙ s.is }

    pub strides-end : n ≤ i → to ≡ sets to₀ 0 (strided stride n (drop at file))
    unfolding strided
    strides-end h = let z : n - i ≡ zero = omega arith in rw z at s.is

-- ---- the words of a session

module _ (to₀ : List ℕ) (k : ℕ) (file : List ℕ) (at m : ℕ) where
  pub record Words (to : List ℕ) (i p : ℕ) : Type 0 where
    pub upto : i ≤ m
    pub long : length to ≡ length to₀
    pub room : p + 8 * (m - i) ≤ length file
    pub is : sets to (k + i) (words_at (m - i) (drop p file)) ≡ sets to₀ k (words_at m (drop at file))

  pub words-start : at + 8 * m ≤ length file → Words to₀ 0 (at + 8 * 0)
  words-start h =
      let z : m - 0 ≡ m = omega arith in
      let y : k + 0 ≡ k = omega arith in
      let x : at + 8 * 0 ≡ at = omega arith in
      record { upto = omega arith; long = refl; room = omega arith; is = rw (z, y, x) }

  module _ {to : List ℕ} {i : ℕ} (s : Words to i (at + 8 * i)) where
    pub words-turn : i < m → (w : ℕ) → w ≡ number (take 8 (drop (at + 8 * i) file)) → Words (set to (k + i) w) (i + 1) (at + 8 * (i + 1))
    unfolding words_at
    words-turn h w e =
        let l : m - i ≡ suc (m - (i + 1)) = omega arith in
        let y : suc (k + i) ≡ k + (i + 1) = omega arith in
        let x : at + 8 * i + 8 ≡ at + 8 * (i + 1) = omega arith in
        let step : words_at (m - i) (drop (at + 8 * i) file) ≡ w ∷ words_at (m - (i + 1)) (drop (at + 8 * (i + 1)) file) = rw (l, e, drop-drop 8 (at + 8 * i) file, x) in
        let turned : sets to (k + i) (words_at (m - i) (drop (at + 8 * i) file)) ≡ sets (set to (k + i) w) (k + (i + 1)) (words_at (m - (i + 1)) (drop (at + 8 * (i + 1)) file)) =
        ap (sets to (k + i)) step ∙ ap (λ (x : ℕ). sets (set to (k + i) w) x (words_at (m - (i + 1)) (drop (at + 8 * (i + 1)) file))) y in
        record { upto = omega arith; long = length-set to (k + i) w ∙ s.long; room = omega (arith, s.room); is = sym turned ∙ s.is }

    pub words-end : m ≤ i → to ≡ sets to₀ k (words_at m (drop at file))
    unfolding words_at
    words-end h = let z : m - i ≡ zero = omega arith in rw z at s.is

-- ---- the words of all sessions

pub length-words : (m : ℕ) (l : List ℕ) → length (words_at m l) ≡ m
unfolding words_at
length-words zero l = refl
length-words (suc m) l = ap suc (length-words m (drop 8 l))

module _ (to₀ file : List ℕ) (at m n : ℕ) where
  pub record Blocks (to : List ℕ) (i k p : ℕ) : Type 0 where
    pub upto : i ≤ n
    pub long : length to ≡ length to₀
    pub space : k + m * (n - i) ≤ length to₀
    pub room : p + (n - i) * (2 + 8 * m) ≤ length file
    pub is : sets to k (session_words m (n - i) (drop p file)) ≡ sets to₀ 0 (session_words m n (drop at file))

  pub blocks_start : m * n ≤ length to₀ → at + n * (2 + 8 * m) ≤ length file → Blocks to₀ 0 0 at
  blocks_start s h = let z : n - 0 ≡ n = omega arith in record { upto = omega arith; long = refl; space = rw z (omega arith); room = rw z h; is = rw z }

  module _ {to : List ℕ} {i k p : ℕ} (s : Blocks to i k p) where
    pub blocks-space : i < n → k + m + m * (n - (i + 1)) ≤ length to₀
    blocks-space h =
        let l : n - i ≡ suc (n - (i + 1)) = omega arith in
        let e : m * (n - i) ≡ m * (n - (i + 1)) + m = rw l (mul-suc m (n - (i + 1))) in
        omega (arith, s.space)

    pub blocks-next : i < n → p + 2 + 8 * m + (n - (i + 1)) * (2 + 8 * m) ≤ length file
    blocks-next h =
        let l : n - i ≡ suc (n - (i + 1)) = omega arith in
        let e : (n - i) * (2 + 8 * m) ≡ (n - (i + 1)) * (2 + 8 * m) + (2 + 8 * m) = rw l (suc-mul (n - (i + 1)) (2 + 8 * m)) in
        omega (arith, s.room)

    pub blocks-turn : i < n → (after : List ℕ) → after ≡ sets to k (words_at m (drop (p + 2) file)) → Blocks after (i + 1) (k + m) (p + 2 + 8 * m)
    unfolding session_words
    blocks-turn h after e =
        let l : n - i ≡ suc (n - (i + 1)) = omega arith in
        let y : p + (2 + 8 * m) ≡ p + 2 + 8 * m = omega arith in
        let words = words_at m (drop (p + 2) file) in
        let rest = session_words m (n - (i + 1)) (drop (p + 2 + 8 * m) file) in
        let step : session_words m (n - i) (drop p file) ≡ words ++ rest = rw (l, drop-drop 2 p file, drop-drop (2 + 8 * m) p file, y) in
        let turned : sets to k (session_words m (n - i) (drop p file)) ≡ sets after (k + m) rest =
        ap (sets to k) step ∙ sets-both to k words rest ∙ ap (λ (x : ℕ). sets (sets to k words) (k + x) rest) (length-words m (drop (p + 2) file)) ∙ ap (λ (x : List ℕ). sets x (k + m) rest) (sym e) in
        record {
          upto = omega arith;
          long = ap length e ∙ length-sets to k words ∙ s.long;
          space = blocks-space h;
          room = blocks-next h;
          is = sym turned ∙ s.is;
        }

    pub blocks_end : n ≤ i → to ≡ sets to₀ 0 (session_words m n (drop at file))
    unfolding session_words
    blocks_end h = let z : n - i ≡ zero = omega arith in rw z at s.is
