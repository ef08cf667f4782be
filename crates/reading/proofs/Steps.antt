-- A sub-reader's step and the rule: what a step that read, or one that broke off, says of the rule; and a loop over items, one turn at a time.
-- Assumes nothing.
use mathlib.Core.Path.{◌≡◌, refl, sym, ap, ◌∙◌}
use mathlib.Core.Bool.{Bool}
use mathlib.Core.List.{List, [], ◌∷◌, ◌++◌}
use Prim.Native.Nat.{ℕ, zero, suc, ◌+◌, ◌-◌, ◌≤◌, ◌<◌}
use native.Mathlib.Omega.{arith}
use lib.ListN.{length, get_or, drop, length-append}
use Rattle.std.proofs.Common.{Result, Ok, Err}
use Rattle.reading.specs.declared.Read.{Read}
use Rattle.reading.specs.declared.Broken.{Broken}
use Rattle.reading.specs.Reading.{Got, got, bad, Reader, each_item, byte, within, counted, step_of}
use Rattle.reading.proofs.Spans.{head}
use Rattle.reading.proofs.Readers.{byte-sound}

module _ {A : Type 0} (value : A → ℕ) where
  pub step-read : (g : Got A) {s : Read} → Ok s ≡ step_of value g → (a : A) × (g ≡ got a s.next) × (value a ≡ s.value)
  step-read (got a next) {s} e =
      let q : s ≡ record { value = value a; next = next } = cc in
      (a, ap (λ (r : Read). got a r.next) (sym q), sym (ap (λ (r : Read). r.value) q))
  step-read (bad o) e = absurd (is-read e)
    where
      is-read : {s : Read} {o : Broken} → Ok s ≡ Err o → ⊥
      is-read e = let z : ◌≡◌ {A = ℕ} 0 1 = cc in omega arith

  pub step-broken : (g : Got A) {o : Broken} → Err o ≡ step_of value g → g ≡ bad o.0
  step-broken (got a next) {o} e = absurd (is-broken e)
    where
      is-broken : {s : Read} {o : Broken} → Err o ≡ Ok s → ⊥
      is-broken e = let z : ◌≡◌ {A = ℕ} 0 1 = cc in omega arith
  step-broken (bad k) {o} e =
      let q : o ≡ record { 0 = k } = cc in
      ap (λ (r : Broken). bad r.0) (sym q)

-- a byte's step hands up the byte
pub byte-read : (g : Got ℕ) {s : Read} → Ok s ≡ step_of (λ b. b) g → g ≡ got s.value s.next
byte-read g {s} e = let t = step-read (λ b. b) g e in t.1 ∙ ap (λ (x : ℕ). got x s.next) t.2

-- ---- a loop over items

module _ {A : Type 0} (item : List A → Reader A) (file : List ℕ) where
  pub on : (k : ℕ) (before : List A) (at : ℕ) {a : A} {next : ℕ} → item before file at ≡ got a next → each_item item (suc k) before file at ≡ each_item item k (before ++ (a ∷ [])) file next
  unfolding each_item
  on k before at e = rw e

  off : (k : ℕ) (before : List A) (at : ℕ) {o : ℕ} → item before file at ≡ bad o → each_item item (suc k) before file at ≡ bad o
  unfolding each_item
  off k before at e = rw e

  -- i of n items are read, and p is where the next one starts
  pub record Loop (at n i p : ℕ) : Type 0 where
    pub seen : List A
    pub count : length seen ≡ i
    pub upto : i ≤ n
    pub is : each_item item (n - i) seen file p ≡ each_item item n [] file at

  unfoldable pub start : (at n : ℕ) → Loop at n 0 at
  start at n = record { seen = []; count = refl; upto = omega arith; is = ap (λ (k : ℕ). each_item item k [] file at) (omega arith) }

  module _ {at n i p : ℕ} (l : Loop at n i p) where
    pub left : i < n → n - i ≡ suc (n - (i + 1))
    left h = omega arith

    unfoldable pub turn : {a : A} {next : ℕ} → i < n → item l.seen file p ≡ got a next → Loop at n (i + 1) next
    turn {a} {next} h e =
        record {
          seen = l.seen ++ (a ∷ []);
          count = omega (arith, length-append l.seen (a ∷ []), l.count);
          upto = omega arith;
          is = sym (on (n - (i + 1)) l.seen p e) ∙ ap (λ (k : ℕ). each_item item k l.seen file p) (sym (left h)) ∙ l.is;
        }

    pub broken : {o : Broken} → i < n → item l.seen file p ≡ bad o.0 → Err o ≡ step_of length (each_item item n [] file at)
    broken {o} h e =
        ap (step_of length) (sym (off (n - (i + 1)) l.seen p e) ∙ ap (λ (k : ℕ). each_item item k l.seen file p) (sym (left h)) ∙ l.is)

    pub all : n ≤ i → got l.seen p ≡ each_item item n [] file at
    unfolding each_item
    all h =
        let z : n - i ≡ zero = omega arith in
        let e : each_item item (n - i) l.seen file p ≡ got l.seen p = ap (λ (k : ℕ). each_item item k l.seen file p) z in
        sym e ∙ l.is

    pub done : n ≤ i → Ok (record { value = n; next = p }) ≡ step_of length (each_item item n [] file at)
    done h =
        let k : n ≡ length l.seen = omega (arith, l.count, l.upto) in
        ap (λ (x : ℕ). Ok (record { value = x; next = p })) k ∙ ap (step_of length) (all h)

-- ---- a section after its count

module _ {A : Type 0} (item : List A → Reader A) (file : List ℕ) (lo hi at : ℕ) where
  pub section-read : {s : Read} (r : Result Read Broken) → Ok s ≡ step_of (λ b. b) (byte (within lo hi) file at)
      → r ≡ step_of length (each_item item s.value [] file s.next) → r ≡ step_of length (counted lo hi item file at)
  section-read {s} r e p = p ∙ ap (step_of length) (sym whole)
    where
      whole : counted lo hi item file at ≡ each_item item s.value [] file s.next
      whole = rw (byte-read (byte (within lo hi) file at) e)

  pub section-broken : {o : Broken} → Err o ≡ step_of (λ b. b) (byte (within lo hi) file at) → Err o ≡ step_of length (counted lo hi item file at)
  section-broken {o} e = ap (step_of length) (sym whole)
    where
      whole : counted lo hi item file at ≡ bad o.0
      whole = rw (step-broken (λ b. b) (byte (within lo hi) file at) e)

-- a byte that was read is the one there
pub byte_next : (test : ℕ → Bool) (file : List ℕ) (at : ℕ) {b next : ℕ} → byte test file at ≡ got b next → (at < length file) × (next ≡ at + 1) × (get_or file at 0 ≡ b)
byte_next test file at {b} {next} e =
    let s = (byte-sound test file at e).1 in
    let h = head file at b (drop next file) s.is in
    (h.0, omega (arith, s.end), h.1)
