-- Counting sizes: those below t + 1 are those below t and those that are t.
-- Assumes nothing.
use mathlib.Core.Path.{◌≡◌, refl, sym, ap, ◌∙◌}
use mathlib.Core.Bool.{Bool, true, false, cond}
use mathlib.Core.List.{List, [], ◌∷◌, ◌++◌, map}
use Prim.Native.Nat.{ℕ, zero, suc, ◌+◌, ◌-◌, ◌≤◌, ◌<◌, min}
use native.Mathlib.Omega.{arith}
use native.Mathlib.Numerals.{add-one}
use native.Mathlib.Decide.{dec_le, ℕ_discrete}
use lib.ListN.{length, get_or, take, set, replicate, length-set, length-map, length-take, get_or-replicate, length-replicate}
use lib.Seq.{take_all, take-suc, get_or-set_same, get_or-set_other, ext_get_or}
use lib.Dec.{eqb, ltb}
use borrow.Author.Tests.{lt-ltb, le-ltb, eq-eqb, ne_eqb}
use Rattle.rules.specs.Limits.{most_size}
use Rattle.rules.specs.Lists.{count}
use Rattle.starts.specs.Starts.{below, starts_of}
use Rattle.starts.specs.Inner.{exactly, SizesCounted}
use Rattle.starts.proofs.Numbers.{length-count, get_d-map-count}

exactly-more : (t x : ℕ) (xs : List ℕ) → exactly t (xs ++ (x ∷ [])) ≡ exactly t xs + cond (eqb x t) 1 0
unfolding exactly
exactly-more t x [] = go (eqb x t)
  where
    go : (b : Bool) → cond b 1 0 ≡ 0 + cond b 1 0
    go true = refl
    go false = refl
exactly-more t x (y ∷ xs) = go (eqb y t) (exactly-more t x xs)
  where
    go : (b : Bool) → exactly t (xs ++ (x ∷ [])) ≡ exactly t xs + cond (eqb x t) 1 0
        → cond b (suc (exactly t (xs ++ (x ∷ [])))) (exactly t (xs ++ (x ∷ []))) ≡ cond b (suc (exactly t xs)) (exactly t xs) + cond (eqb x t) 1 0
    go true e = omega arith
    go false e = e

one_more : (b : Bool) {m n : ℕ} → m ≤ n → cond b (suc m) m ≤ suc n
one_more true h = omega arith
one_more false h = omega arith

exactly-few : (t : ℕ) (xs : List ℕ) → exactly t xs ≤ length xs
unfolding exactly
exactly-few t [] = omega arith
exactly-few t (x ∷ xs) = one_more (eqb x t) (exactly-few t xs)

pub below-few : (t : ℕ) (xs : List ℕ) → below t xs ≤ length xs
unfolding below
below-few t [] = omega arith
below-few t (x ∷ xs) = one_more (ltb x t) (below-few t xs)

below-zero : (xs : List ℕ) → below 0 xs ≡ 0
unfolding below
below-zero [] = refl
below-zero (x ∷ xs) = rw (le-ltb x 0 (omega arith)) (below-zero xs)

below_next : (t : ℕ) (xs : List ℕ) → below (suc t) xs ≡ below t xs + exactly t xs
unfolding below exactly
below_next t [] = omega arith
below_next t (x ∷ xs) = elim (dec_le t x) [
  | yes h ↦ elim (dec_le (suc t) x) [
    | yes k ↦ rw (le-ltb x (suc t) k, le-ltb x t h, ne_eqb x t (λ e. omega arith)) (below_next t xs)
    | no k ↦ rw (lt-ltb x (suc t) (omega arith), le-ltb x t h, eq-eqb x t (omega arith)) (omega (arith, below_next t xs))
  ]
  | no h ↦ rw (lt-ltb x (suc t) (omega arith), lt-ltb x t (omega arith), ne_eqb x t (λ e. omega arith)) (omega (arith, below_next t xs))
]

-- ---- the sizes are counted, one by one

-- none is counted
pub counted_none : SizesCounted [] (replicate {A = ℕ} 33 0)
unfolding exactly
counted_none = record {
  long = length-replicate {A = ℕ} 33 0;
  none = get_or-replicate {A = ℕ} 33 0 0 0 (omega arith);
  some = λ t h. get_or-replicate {A = ℕ} 33 (suc t) 0 0 (omega arith);
}

-- after the first p of them, where there is one more
module _ (sizes : List ℕ) (p : ℕ) {counts : List ℕ} (w : SizesCounted (take p sizes) counts) (h : p < length sizes) where
  more : (t : ℕ) → exactly t (take (p + 1) sizes) ≡ exactly t (take p sizes) + cond (eqb (get_or sizes p 0) t) 1 0
  more t = rw (add-one p, take-suc sizes p 0 h) (exactly-more t (get_or sizes p 0) (take p sizes))

  -- a count fits where it is made
  pub counted-few : (t : ℕ) → t ≤ most_size → get_or counts (t + 1) 0 ≤ p
  counted-few t l = omega (arith, ap (λ (u : ℕ). get_or counts u 0) (add-one t), w.some t l, exactly-few t (take p sizes), length-take p sizes)

  -- one more is counted; or it is too large for any
  pub counted-more : get_or sizes p 0 < most_size + 1
      → SizesCounted (take (p + 1) sizes) (set counts (get_or sizes p 0 + 1) (get_or counts (get_or sizes p 0 + 1) 0 + 1))
  counted-more k = record {
    long = length-set counts _ _ ∙ w.long;
    none = get_or-set_other counts _ 0 _ 0 (λ e. omega arith) ∙ w.none;
    some = λ t l. elim (ℕ_discrete (get_or sizes p 0) t) [
      | yes e ↦ (
          let x = get_or sizes p 0 in
          ap (λ (u : ℕ). get_or (set counts (x + 1) (get_or counts (x + 1) 0 + 1)) u 0) (let f : suc t ≡ x + 1 = omega arith in f)
          ∙ get_or-set_same counts (x + 1) _ 0 (omega (arith, w.long))
          ∙ ap (λ (u : ℕ). get_or counts u 0 + 1) (let f : x + 1 ≡ suc t = omega arith in f)
          ∙ ap (λ (u : ℕ). u + 1) (w.some t l) ∙ sym (more t ∙ rw (eq-eqb x t e)))
      | no e ↦
          get_or-set_other counts _ (suc t) _ 0 (λ d. e (omega arith)) ∙ w.some t l
          ∙ sym (more t ∙ rw (ne_eqb (get_or sizes p 0) t e) (omega arith))
    ];
  }

  pub counted-out : most_size + 1 ≤ get_or sizes p 0 → SizesCounted (take (p + 1) sizes) counts
  counted-out k = record {
    long = w.long;
    none = w.none;
    some = λ t l. w.some t l ∙ sym (more t ∙ rw (ne_eqb (get_or sizes p 0) t (λ e. omega arith)) (omega arith));
  }

-- ---- what stands before is summed

-- of some sizes: what stands before t is summed, what stands from t on is still counts, and `sum` is the last of the sums
pub record Summed (xs : List ℕ) (t sum : ℕ) (starts : List ℕ) : Type 0 where
  pub long : length starts ≡ most_size + 2
  pub before : (u : ℕ) → u < t → get_or starts u 0 ≡ below u xs
  pub none : t ≡ 0 → get_or starts 0 0 ≡ 0
  pub ahead : (u : ℕ) → t ≤ suc u → u ≤ most_size → get_or starts (suc u) 0 ≡ exactly u xs
  pub sum-is : sum ≡ below (t - 1) xs

pub summed-none : {xs counts : List ℕ} → SizesCounted xs counts → Summed xs 0 0 counts
summed-none {xs} w = record {
  long = w.long;
  before = λ u h. absurd (omega arith);
  none = λ _. w.none;
  ahead = λ u h l. w.some u l;
  sum-is = sym (below-zero xs);
}

module _ {xs : List ℕ} {sum : ℕ} {starts : List ℕ} where
  -- the sum that stands at t
  pub summed-next : (t : ℕ) → Summed xs t sum starts → t < most_size + 2 → sum + get_or starts t 0 ≡ below t xs
  summed-next zero w high = omega (arith, w.sum-is, w.none refl)
  summed-next (suc t) w high =
      let e : suc t - 1 ≡ t = omega arith in
      omega (arith, w.sum-is, ap (λ (u : ℕ). below u xs) e, w.ahead t (omega arith) (omega arith), below_next t xs)

  module _ {t : ℕ} (w : Summed xs t sum starts) (high : t < most_size + 2) where
    -- the sum fits
    pub summed-few : sum + get_or starts t 0 ≤ length xs
    summed-few = omega (arith, summed-next t w high, below-few t xs)

    pub summed-more : Summed xs (t + 1) (sum + get_or starts t 0) (set starts t (sum + get_or starts t 0))
    summed-more = record {
      long = length-set starts t _ ∙ w.long;
      before = λ u h. elim (ℕ_discrete u t) [
        | yes e ↦ ap (λ (v : ℕ). get_or (set starts t (sum + get_or starts t 0)) v 0) e
            ∙ get_or-set_same starts t _ 0 (omega (arith, w.long)) ∙ summed-next t w high ∙ ap (λ (v : ℕ). below v xs) (sym e)
        | no e ↦ get_or-set_other starts t u _ 0 e ∙ w.before u (omega arith)
      ];
      none = λ e. absurd (omega arith);
      ahead = λ u h l. get_or-set_other starts t (suc u) _ 0 (λ e. omega arith) ∙ w.ahead u (omega arith) l;
      sum-is = summed-next t w high ∙ ap (λ (v : ℕ). below v xs) (let e : t ≡ t + 1 - 1 = omega arith in e);
    }

-- no more than there are
take-fewer : (sizes : List ℕ) (kept : ℕ) → take (min (length sizes) kept) sizes ≡ take kept sizes
take-fewer sizes kept = elim (dec_le kept (length sizes)) [
  | yes h ↦ ap (λ (n : ℕ). take n sizes) (let e : min (length sizes) kept ≡ kept = omega arith in e)
  | no h ↦ take_all (min (length sizes) kept) sizes (omega arith) ∙ sym (take_all kept sizes (omega arith))
]

-- all are summed
pub summed-all : (sizes : List ℕ) (kept : ℕ) {starts : List ℕ} {t sum : ℕ} → Summed (take (min (length sizes) kept) sizes) t sum starts → most_size + 2 ≤ t
    → starts ≡ starts_of sizes kept
unfolding starts_of
summed-all sizes kept {starts} w h =
    ext_get_or 0 starts (map (λ t. below t (take kept sizes)) (count 0 33)) (w.long ∙ sym (simp length-map (length-count 0 33)))
    (λ i l. w.before i (omega (arith, w.long)) ∙ ap (below i) (take-fewer sizes kept)
    ∙ sym (get_d-map-count (λ t. below t (take kept sizes)) 0 33 i 0 (omega (arith, w.long)) ∙ ap (λ (u : ℕ). below u (take kept sizes)) (let z : 0 + i ≡ i = omega arith in z)))

-- ---- what is known of `starts_of`

module _ (sizes : List ℕ) (kept : ℕ) where
  -- it is read at t
  pub starts-at : (t : ℕ) → t ≤ most_size + 1 → get_or (starts_of sizes kept) t 0 ≡ below t (take kept sizes)
  unfolding starts_of
  starts-at t h =
      get_d-map-count (λ t. below t (take kept sizes)) 0 33 t 0 (omega arith)
      ∙ ap (λ (u : ℕ). below u (take kept sizes)) (let z : 0 + t ≡ t = omega arith in z)

  pub starts-long : length (starts_of sizes kept) ≡ most_size + 2
  unfolding starts_of
  starts-long = simp length-map (length-count 0 33)

  below-rises : (t d : ℕ) (xs : List ℕ) → below t xs ≤ below (t + d) xs
  below-rises t zero xs = omega (arith, ap (λ (u : ℕ). below u xs) (let z : t + 0 ≡ t = omega arith in z))
  below-rises t (suc d) xs =
      let z : suc (t + d) ≡ t + suc d = omega arith in
      omega (arith, below-rises t d xs, below_next (t + d) xs, ap (λ (u : ℕ). below u xs) z)

  -- WHATEVER THE SIZES: it rises with t, and is at most `kept`
  pub starts-rise : (t u : ℕ) → t ≤ u → u ≤ most_size + 1 → get_or (starts_of sizes kept) t 0 ≤ get_or (starts_of sizes kept) u 0
  starts-rise t u h l =
      let z : t + (u - t) ≡ u = omega arith in
      omega (arith, starts-at t (omega arith), starts-at u l, below-rises t (u - t) (take kept sizes), ap (λ (v : ℕ). below v (take kept sizes)) z)

  pub starts-within : (t : ℕ) → t ≤ most_size + 1 → get_or (starts_of sizes kept) t 0 ≤ kept
  starts-within t h = omega (arith, starts-at t h, below-few t (take kept sizes), length-take kept sizes)
