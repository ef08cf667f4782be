-- What passes the rule of the first offending byte, for the pieces that all sections are made of: one byte, items in a row, a section after its count.
-- Each law has two halves. Sound: what was read is fit, and its bytes stand there. Complete: the bytes of what is fit are read.
-- Assumes nothing.
use mathlib.Core.Path.{◌≡◌, refl, sym, ap, ◌∙◌, subst}
use mathlib.Core.Bool.{Bool, true, false, cond}
use mathlib.Core.List.{List, [], ◌∷◌, ◌++◌, flat_map, append_assoc, append-nil}
use Prim.Native.Nat.{ℕ, zero, suc, ◌+◌, ◌≤◌}
use native.Mathlib.Omega.{arith}
use borrow.Author.Tests.{ltb-true, lt-ltb}
use lib.Dec.{ltb}
use lib.ListN.{length, get_or, drop}
use Rattle.reading.specs.Reading.{section, one, Got, got, bad, Reader, and_then, each_item, byte, within, counted}
use Rattle.rules.specs.Lists.{Each}
use Rattle.reading.proofs.Spans.{Spans, none, both, first, second, head, one_byte}
use Rattle.reading.proofs.Lists.{within_low, within-high, within-is}

module _ {A : Type 0} where
  pub got-bad : {a : A} {next o : ℕ} → got a next ≡ bad o → ⊥
  got-bad e = let z : ◌≡◌ {A = ℕ} 0 1 = cc in omega arith

  pub got-value : {a b : A} {n m : ℕ} → got a n ≡ got b m → a ≡ b
  got-value e = cc

  pub got-next : {a b : A} {n m : ℕ} → got a n ≡ got b m → n ≡ m
  got-next e = cc

-- what came first was read, and then the rest
pub in-turn : {A B : Type 0} (g : Got A) (k : A → ℕ → Got B) {b : B} {next : ℕ} → and_then g k ≡ got b next → (a : A) × (n : ℕ) × (g ≡ got a n) × (k a n ≡ got b next)
in-turn (got a n) k e = (a, n, refl, e)
in-turn (bad o) k e = absurd (got-bad (sym e))

-- ---- one byte

module _ (test : ℕ → Bool) (file : List ℕ) (at : ℕ) where
  pub byte-sound : {b next : ℕ} → byte test file at ≡ got b next → (test b ≡ true) × Spans file at (one b) next
  unfolding byte
  byte-sound {b} {next} e = go (ltb at (length file)) (test (get_or file at 0)) refl refl e
    where
      go : (p q : Bool) → ltb at (length file) ≡ p → test (get_or file at 0) ≡ q
          → cond p (cond q (got (get_or file at 0) (at + 1)) (bad at)) (bad (length file)) ≡ got b next → (test b ≡ true) × Spans file at (one b) next
      go true true h t g =
          let v : get_or file at 0 ≡ b = got-value g in
          let n : at + 1 ≡ next = got-next g in
          (rw (← v) t, rw (← v, ← n) (one_byte file at (ltb-true at (length file) h)))
      go true false h t g = absurd (got-bad (sym g))
      go false q h t g = absurd (got-bad (sym g))

  pub byte-complete : (b : ℕ) {next : ℕ} → test b ≡ true → Spans file at (one b) next → byte test file at ≡ got b next
  unfolding byte
  byte-complete b {next} t s =
      let h = head file at b (drop next file) s.is in
      let n : at + 1 ≡ next = omega (arith, s.end) in
      rw (lt-ltb at (length file) h.0, h.1, t) (ap (λ (x : ℕ). got b x) n)

-- ---- items in a row

module _ {A : Type 0} (item : List A → Reader A) (fit : List A → A → Type 0) (bytes : A → List ℕ) (file : List ℕ) where
  abbrev pub Sound : Type 0
  Sound = (before : List A) (at : ℕ) (a : A) (next : ℕ) → item before file at ≡ got a next → fit before a × Spans file at (bytes a) next

  abbrev pub Complete : Type 0
  Complete = (before : List A) (at : ℕ) (a : A) (next : ℕ) → fit before a → Spans file at (bytes a) next → item before file at ≡ got a next

  -- what a row of items is read as
  pub record Row (k : ℕ) (before : List A) (at : ℕ) (all : List A) (next : ℕ) : Type 0 where
    pub new : List A
    pub is : all ≡ before ++ new
    pub count : length new ≡ k
    pub fits : Each fit before new
    pub spans : Spans file at (flat_map bytes new) next

  pub row-sound : Sound → (k : ℕ) (before : List A) (at : ℕ) {all : List A} {next : ℕ} → each_item item k before file at ≡ got all next → Row k before at all next
  unfolding each_item Each flat_map
  row-sound s zero before at {all} {next} e =
      let v : before ≡ all = got-value e in
      let n : at ≡ next = got-next e in
      record { new = []; is = sym v ∙ sym (append-nil before); count = refl; fits = tt; spans = subst (λ (x : ℕ). Spans file at [] x) n (none file at) }
  row-sound s (suc k) before at {all} {next} e =
      let t = in-turn (item before file at) (λ a n. each_item item k (before ++ (a ∷ [])) file n) e in
      let r = row-sound s k (before ++ (t.0 ∷ [])) t.1 t.3 in
      let f = s before at t.0 t.1 t.2 in
      record {
        new = t.0 ∷ r.new;
        is = r.is ∙ append_assoc before (t.0 ∷ []) r.new;
        count = ap suc r.count;
        fits = (f.0, r.fits);
        spans = both file (bytes t.0) (flat_map bytes r.new) f.1 r.spans;
      }

  pub row-complete : Complete → (new before : List A) (at : ℕ) {next : ℕ} → Each fit before new → Spans file at (flat_map bytes new) next → each_item item
      (length new) before file at ≡ got (before ++ new) next
  unfolding each_item Each flat_map
  row-complete c [] before at {next} f s =
      let n : at ≡ next = omega (arith, s.end) in
      rw append-nil (ap (λ (x : ℕ). got before x) n)
  row-complete c (a ∷ new) before at {next} f s =
      rw (c before at a (at + length (bytes a)) f.0 (first file (bytes a) (flat_map bytes new) s))
      (row-complete c new (before ++ (a ∷ [])) (at + length (bytes a)) f.1 (second file (bytes a) (flat_map bytes new) s)
      ∙ ap (λ (l : List A). got l next) (append_assoc before (a ∷ []) new))

  -- ---- a section after its count

  pub record Section (lo hi at : ℕ) (all : List A) (next : ℕ) : Type 0 where
    pub some : lo ≤ length all
    pub few : length all ≤ hi
    pub fits : Each fit [] all
    pub spans : Spans file at (section bytes all) next

  pub section-sound : Sound → (lo hi at : ℕ) {all : List A} {next : ℕ} → counted lo hi item file at ≡ got all next → Section lo hi at all next
  section-sound s lo hi at {all} {next} e =
      let t = in-turn (byte (within lo hi) file at) (λ k n. each_item item k [] file n) e in
      let b = byte-sound (within lo hi) file at t.2 in
      let r = row-sound s t.0 [] t.1 t.3 in
      let k : t.0 ≡ length all = sym (ap length r.is ∙ r.count) in
      let u : Spans file at (one (length all)) t.1 = subst (λ (n : ℕ). Spans file at (one n) t.1) k b.1 in
      let v : Spans file t.1 (flat_map bytes all) next = subst (λ (l : List A). Spans file t.1 (flat_map bytes l) next) (sym r.is) r.spans in
      record {
        some = omega (arith, within_low lo hi t.0 b.0);
        few = omega (arith, within-high lo hi t.0 b.0);
        fits = subst (Each fit []) (sym r.is) r.fits;
        spans = both file (one (length all)) (flat_map bytes all) u v;
      }

  pub section-complete : Complete → (lo hi at : ℕ) (all : List A) {next : ℕ} → Section lo hi at all next → counted lo hi item file at ≡ got all next
  section-complete c lo hi at all {next} w =
      rw (byte-complete (within lo hi) file at (length all) (within-is lo hi (length all) w.some w.few) (first file (one (length all)) (flat_map bytes all) w.spans))
      (row-complete c all [] (at + 1) w.fits (second file (one (length all)) (flat_map bytes all) w.spans))
