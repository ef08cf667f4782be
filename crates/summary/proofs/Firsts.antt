-- First snapshots by trailing zeros and counts by ones: a word's lowest set place goes by its digits, lowest first, and its ones by one place more.
-- Assumes nothing.
use mathlib.Core.Path.{◌≡◌, refl, sym, ap, ◌∙◌, subst}
use mathlib.Core.Logic.{◌↔◌, inl, inr, ⊎_elim}
use Prim.Native.Nat.{ℕ, zero, suc, ◌+◌, ◌-◌, ◌/◌, ◌%◌, ◌^◌, ◌≤◌, ◌<◌, min}
use native.Mathlib.Nat.{lt_of_not-le, lt_of_lt_of_le}
use native.Mathlib.Omega.{arith}
use lib.Bits.{bit_and}
use lib.Pow.{pow_pos, pow_mono}
use lib.Count.{count_trailing_zeros, under, ones, ones_in, ones_step}
use Rattle.words.specs.Ltlf.{Reading}
use Rattle.words.specs.Word.{width, bit, At, Means}
use Rattle.words.proofs.Bits.{bit-first, bit-rest, bit-zero, bits-ext}
use Rattle.words.proofs.At.{at-or-not, at-and, and_at, at-not, at-below, wf-lt, not_at}
use Rattle.std.specs.Prelude.{Option, Some, None}
use Rattle.summary.specs.declared.values.Summary.{Summary}
use Rattle.summary.specs.Values.{LeastIn, CountIn, Fails, Summed}

-- ---- trailing zeros

clear_step : (x d t : ℕ) → x % 2 ≡ d → ((p : ℕ) → p < t → bit (x / 2) p ≡ 0) → (p : ℕ) → p < under d t → bit x p ≡ 0
clear_step x zero t e rest zero h = bit-first x ∙ e
clear_step x zero t e rest (suc p) h = bit-rest x p ∙ rest p (omega arith)
clear_step x (suc d) t e rest p h = absurd (omega arith)

clear-below : (k x p : ℕ) → p < count_trailing_zeros k x → bit x p ≡ 0
unfolding count_trailing_zeros
clear-below zero x p h = absurd (omega arith)
clear-below (suc k) x p h = clear_step x (x % 2) (count_trailing_zeros k (x / 2)) refl (clear-below k (x / 2)) p h

set-step : (x d t k : ℕ) → x % 2 ≡ d → (t < k → bit (x / 2) t ≡ 1) → under d t < suc k → bit x (under d t) ≡ 1
set-step x zero t k e rest h = bit-rest x t ∙ rest (omega arith)
set-step x (suc d) t k e rest h = let b = bit-first x in omega arith

set_there : (k x : ℕ) → count_trailing_zeros k x < k → bit x (count_trailing_zeros k x) ≡ 1
unfolding count_trailing_zeros
set_there zero x h = absurd (omega arith)
set_there (suc k) x h = set-step x (x % 2) (count_trailing_zeros k (x / 2)) k refl (set_there k (x / 2)) h

pub lowest-there : (k x : ℕ) → x < 2 ^ k → (x ≡ 0 → ⊥) → count_trailing_zeros k x < k
lowest-there k x l n = lt_of_not-le λ g. n (bits-ext k x 0 l (pow_pos k) (λ p h. clear-below k x p (omega arith) ∙ sym (bit-zero p)))

-- THE LEAST PLACE THAT IS SET
pub lowest-least : (x : ℕ) → x < 2 ^ width → (x ≡ 0 → ⊥) → LeastIn width (At x) (Some (count_trailing_zeros width x))
lowest-least x l n = (lowest-there width x l n, set_there width x (lowest-there width x l n), λ p h a. omega (arith, clear-below width x p h))

pub none-set : (x : ℕ) → x ≡ 0 → LeastIn width (At x) None
none-set x e p h a = let b : bit x p ≡ 0 = ap (λ (y : ℕ). bit y p) e ∙ bit-zero p in omega arith

-- ---- ones

ones-in : (d x : ℕ) → x < 2 ^ d → ones x ≡ ones_in d x
unfolding ones ones_in
ones-in zero x h = let e : x ≡ 0 = omega arith in ap ones e
ones-in (suc d) x h = ones_step x ∙ ap (λ (n : ℕ). x % 2 + n) (ones-in d (x / 2) (omega arith))

ones-last : (d x : ℕ) → ones_in (suc d) x ≡ ones_in d x + bit x d
unfolding ones_in
ones-last zero x = omega (arith, bit-first x)
ones-last (suc d) x = omega (arith, ones-last d (x / 2), bit-rest x d)

counted-in : (f : Reading) (x n : ℕ) → ((p : ℕ) → p < n → At x p ↔ f p) → CountIn n f (ones_in n x)
unfolding ones_in
counted-in f x zero same = refl
counted-in f x (suc n) same =
    let rest = counted-in f x n (λ p h. same p (omega arith)) in
    let last = ones-last n x in
    ⊎_elim
    (λ a. inl ((same n (omega arith)).0 a, (ones_in n x, omega (arith, last, a), rest)))
    (λ a. inr (λ q. a ((same n (omega arith)).1 q), subst (CountIn n f) (let z = not_at x n a in let e : ones_in n x ≡ ones_in (suc n) x = omega arith in e) rest))
    (at-or-not x n)

-- ---- of a masked word

module _ (f : Reading) {n : ℕ} (x : ℕ) (short : n ≤ width) (inside : (p : ℕ) → At x p → p < n) (same : (p : ℕ) → p < n → At x p ↔ f p) where
  least_on : (r : Option ℕ) → LeastIn width (At x) r → LeastIn n f r
  least_on None l = λ p h a. l p (omega arith) ((same p h).1 a)
  least_on (Some q) l =
      let h = inside q l.1 in
      (h, (same q h).0 l.1, λ p g a. l.2 p g ((same p (omega arith)).1 a))

module _ (length w m : ℕ) (l : w < 2 ^ width) (mask : Means width m (λ p. p < length)) where
  inner : (x p : ℕ) → At (bit_and x m) p → (p < min length width) × At x p
  inner x p a =
      let b = at-and x m p a in
      let h = at-below mask.wf p b.1 in
      let g = (mask.holds p h).0 b.1 in
      (omega arith, b.0)

  masked : (p : ℕ) → p < min length width → At m p
  masked p h = (mask.holds p (omega arith)).1 (omega arith)

  holding : (p : ℕ) → p < min length width → At (bit_and w m) p ↔ At w p
  holding p h = (λ a. (inner w p a).1, λ a. and_at w m p a (masked p h))

  failing : (p : ℕ) → p < min length width → At (bit_and (2 ^ width - 1 - w) m) p ↔ Fails (At w) p
  failing p h =
      let n = at-not width w p (omega arith) l in
      (λ a. n.0 (inner (2 ^ width - 1 - w) p a).1, λ a. and_at (2 ^ width - 1 - w) m p (n.1 a) (masked p h))

  pub least-holds : (r : Option ℕ) → LeastIn width (At (bit_and w m)) r → LeastIn (min length width) (At w) r
  least-holds r = least_on (At w) (bit_and w m) (omega arith) (λ p a. (inner w p a).0) holding r

  pub least-fails : (r : Option ℕ) → LeastIn width (At (bit_and (2 ^ width - 1 - w) m)) r → LeastIn (min length width) (Fails (At w)) r
  least-fails r = least_on (Fails (At w)) (bit_and (2 ^ width - 1 - w) m) (omega arith) (λ p a. (inner (2 ^ width - 1 - w) p a).0) failing r

  low : bit_and w m < 2 ^ min length width
  low = wf-lt (record { short = omega arith; clear = λ p h. not_at (bit_and w m) p (λ a. let i = (inner w p a).0 in omega arith) })

  pub masked_low : bit_and w m < 2 ^ width
  masked_low = lt_of_lt_of_le low (pow_mono {j = width} (omega arith))

  pub counts : CountIn (min length width) (At w) (ones (bit_and w m))
  counts = subst (CountIn (min length width) (At w)) (sym (ones-in (min length width) (bit_and w m) low)) (counted-in (At w) (bit_and w m) (min length width) holding)

-- ---- over a reading

module _ {n : ℕ} {f g : Reading} (same : (p : ℕ) → p < n → f p ↔ g p) where
  least-same : (r : Option ℕ) → LeastIn n f r → LeastIn n g r
  least-same None l = λ p h a. l p h ((same p h).1 a)
  least-same (Some q) l = (l.0, (same q l.0).0 l.1, λ p h a. let i = l.0 in l.2 p h ((same p (omega arith)).1 a))

count_same : {f g : Reading} (n c : ℕ) → ((p : ℕ) → p < n → f p ↔ g p) → CountIn n f c → CountIn n g c
count_same zero c same e = e
count_same (suc n) c same (inl (a, (b, e, rest))) = inl ((same n (omega arith)).0 a, (b, e, count_same n b (λ p h. same p (omega arith)) rest))
count_same (suc n) c same (inr (a, rest)) = inr (λ q. a ((same n (omega arith)).1 q), count_same n c (λ p h. same p (omega arith)) rest)

-- what is said of a word is said of what it means
pub summed_same : {n : ℕ} {f g : Reading} {s : Summary} → ((p : ℕ) → p < n → f p ↔ g p) → Summed n f s → Summed n g s
summed_same {n} {f} {g} {s} same a =
    record {
      holds = least-same same s.holds a.holds;
      fails = least-same {f = Fails f} {g = Fails g} (λ p h. (λ x y. x ((same p h).1 y), λ x y. x ((same p h).0 y))) s.fails a.fails;
      count = count_same n s.count same a.count;
    }
