-- Two files that agree as far as the offending item are refused alike: item by item both are read the same, unless what is read of the first has left
-- the part that they share. There are two ways of leaving it: past the offset (no item that begins there at the latest has more than 17 bytes), and at
-- the end of a file of which the other is a continuation.
-- Assumes nothing.
use mathlib.Core.Path.{◌≡◌, refl, sym, ap, ◌∙◌, subst}
use mathlib.Core.Logic.{◌⊎◌, inl, inr, ⊎_elim}
use mathlib.Core.Bool.{Bool, true, false, cond}
use mathlib.Core.List.{List, [], ◌∷◌, ◌++◌}
use Prim.Native.Nat.{ℕ, zero, suc, ◌+◌, ◌^◌, ◌≤◌, ◌<◌}
use native.Mathlib.Decide.{dec_le}
use native.Mathlib.Omega.{arith}
use borrow.Author.Tests.{le-ltb, lt-leb, ne_eqb}
use lib.Dec.{eqb, leb, ltb}
use lib.ListN.{length, get_or, take, drop, length-take, length-append}
use lib.Seq.{take_all, take-append_seam}
use Rattle.words.specs.Word.{width}
use Rattle.names.specs.Names.{name_length, letter, name, is_taken, not_taken, names_up_to}
use Rattle.names.specs.Reserved.{reserved}
use Rattle.reading.specs.Reading.{Got, got, bad, Reader, and_then, each_item, byte, within, counted, at_end}
use Rattle.reading.proofs.Readers.{got-bad}
use Rattle.sections.specs.Numbers.{file_propositions, file_sessions}
use Rattle.rules.specs.Limits.{most_size}
use Rattle.file.specs.Format.{Parts}
use Rattle.file.specs.Offence.{number, eight_bytes, session, all_sessions, is_unary, is_binary, code, all_codes, settings, parts, whole_file}
use Rattle.file.specs.Promises.{StaysRefused, longest_item, RefusedAlike}
use Rattle.file.proofs.Prefix.{same_byte, same_name, same_word}

-- ---- two readings, from what is so of bytes, names and words

module _ (Gone Out : ℕ → Type 0) where
  -- reading went on to an offset that is gone, or was refused at one that is out
  abbrev Left : {A : Type 0} → Got A → Type 0
  Left (got a n) = Gone n
  Left (bad p) = Out p

  -- from an offset that isn't gone the two read the same, or the first has left; from one that is gone it has
  record Alike {A : Type 0} (x y : ℕ → Got A) : Type 0 where
    left : (at : ℕ) → Gone at → Left (x at)
    same : (at : ℕ) → (Gone at → ⊥) → (x at ≡ y at) ⊎ Left (x at)

  got-alike : {A : Type 0} (a : A) → Alike (got a) (got a)
  got-alike a = record { left = λ at h. h; same = λ at h. inl refl }

  module _ (known : (n : ℕ) → Gone n ⊎ (Gone n → ⊥)) where
    module _ {A B : Type 0} (x y : ℕ → Got A) (p q : A → ℕ → Got B) (w : Alike x y) (v : (a : A) → Alike (p a) (q a)) where
      left-then : (r : Got A) → Left r → Left (and_then r p)
      left-then (got a n) h = (v a).left n h
      left-then (bad b) h = h

      same_then : (r s : Got A) → r ≡ s → (and_then r p ≡ and_then s q) ⊎ Left (and_then r p)
      same_then (got a n) s e =
          subst (λ (z : Got A). (p a n ≡ and_then z q) ⊎ Left (p a n)) e (⊎_elim (λ h. inr ((v a).left n h)) (λ h. (v a).same n h) (known n))
      same_then (bad b) s e = inl (ap (λ (z : Got A). and_then z q) e)

      then-alike : Alike (λ at. and_then (x at) p) (λ at. and_then (y at) q)
      then-alike = record {
        left = λ at h. left-then (x at) (w.left at h);
        same = λ at h. ⊎_elim (λ e. same_then (x at) (y at) e) (λ l. inr (left-then (x at) l)) (w.same at h);
      }

    module _ (f g : List ℕ) where
      each-alike : {A : Type 0} (item : List A → Reader A) → ((before : List A) → Alike (item before f) (item before g)) → (n : ℕ) (before : List A)
          → Alike (each_item item n before f) (each_item item n before g)
      unfolding each_item
      each-alike item w zero before = got-alike before
      each-alike item w (suc n) before = then-alike (item before f) (item before g) _ _ (w before) (λ a. each-alike item w n (before ++ (a ∷ [])))

      module _ (bytes : (test : ℕ → Bool) → Alike (byte test f) (byte test g)) where
        counted-alike : {A : Type 0} (lo hi : ℕ) (item : List A → Reader A) → ((before : List A) → Alike (item before f) (item before g))
            → Alike (counted lo hi item f) (counted lo hi item g)
        counted-alike lo hi item w = then-alike (byte (within lo hi) f) (byte (within lo hi) g) _ _ (bytes (within lo hi)) (λ n. each-alike item w n [])

        settings-alike : Alike (settings f) (settings g)
        unfolding settings
        settings-alike =
            then-alike (byte (within 2 2) f) (byte (within 2 2) g) _ _ (bytes (within 2 2)) λ n.
            then-alike (byte (within 0 1) f) (byte (within 0 1) g) _ _ (bytes (within 0 1)) λ c.
            then-alike (byte (within 1 most_size) f) (byte (within 1 most_size) g) _ _ (bytes (within 1 most_size)) λ b.
            got-alike (record { constants = c; bound = b })

        codes-alike : (group : ℕ → Bool) → Alike (all_codes group f) (all_codes group g)
        codes-alike group = counted-alike 0 255 (code group) (λ before. bytes _)

        module _ (names : (before : List (List ℕ)) → Alike (name before f) (name before g)) (words : (n : ℕ) → Alike (eight_bytes n f) (eight_bytes n g)) where
          session-alike : (m : ℕ) → Alike (session m f) (session m g)
          unfolding session
          session-alike m =
              then-alike (byte (within 0 1) f) (byte (within 0 1) g) _ _ (bytes (within 0 1)) λ mark.
              then-alike (byte (within 0 width) f) (byte (within 0 width) g) _ _ (bytes (within 0 width)) λ n.
              then-alike (each_item (λ _. eight_bytes n) m [] f) (each_item (λ _. eight_bytes n) m [] g) _ _ (each-alike (λ _. eight_bytes n) (λ _. words n) m []) λ ws.
              got-alike (record { mark = mark; length = n; words = ws })

          parts-alike : Alike (parts f) (parts g)
          unfolding parts
          parts-alike =
              then-alike (names_up_to file_propositions f) (names_up_to file_propositions g) _ _ (counted-alike 1 file_propositions name names) λ ns.
              then-alike (all_sessions (length ns) f) (all_sessions (length ns) g) _ _ (counted-alike 1 file_sessions (λ _. session (length ns)) (λ _. session-alike (length ns))) λ ss.
              then-alike (all_codes is_unary f) (all_codes is_unary g) _ _ (codes-alike is_unary) λ us.
              then-alike (all_codes is_binary f) (all_codes is_binary g) _ _ (codes-alike is_binary) λ bs.
              then-alike (settings f) (settings g) _ _ settings-alike λ s.
              got-alike (record { names = ns; sessions = ss; unary = us; binary = bs; constants = s.constants; bound = s.bound })

-- parts that end before the end of either file are no whole file
ends-alike : (f g : List ℕ) (o : ℕ) → o < length g → (r : Got Parts) → at_end r f ≡ bad o → at_end r g ≡ bad o
unfolding at_end
ends-alike f g o l (bad b) e = e
ends-alike f g o l (got a n) e = go (eqb n (length f)) e
  where
    go : (b : Bool) → cond b (got a n) (bad n) ≡ bad o → cond (eqb n (length g)) (got a n) (bad n) ≡ bad o
    go true q = absurd (got-bad q)
    go false q =
        let z : n ≡ o = cc in
        let h : n ≡ length g → ⊥ = λ e. omega arith in
        rw (ne_eqb n (length g) h) q

-- ---- a file and a continuation of it

module _ (f g : List ℕ) (more : length f ≤ length g) (agree : take (length f) f ≡ take (length f) g) where
  abbrev Never : ℕ → Type 0
  Never n = ⊥

  abbrev AtEnd : ℕ → Type 0
  AtEnd p = p ≡ length f

  going : (n : ℕ) → Never n ⊎ (Never n → ⊥)
  going n = inr (λ z. z)

  byte-on : (test : ℕ → Bool) → Alike Never AtEnd (byte test f) (byte test g)
  unfolding byte
  byte-on test = record {
    left = λ at h. absurd h;
    same = λ at _. elim (dec_le (suc at) (length f)) [
      | yes h ↦ inl (same_byte f g (length f) (omega arith) more agree test at (omega arith))
      | no h ↦ inr (let l : length f ≤ at = omega arith in rw (le-ltb at (length f) l) refl)
    ];
  }

  name-on : (before : List (List ℕ)) → Alike Never AtEnd (name before f) (name before g)
  unfolding name
  name-on before = record {
    left = λ at h. absurd h;
    same = λ at h. ⊎_elim
        (λ e. inl (ap (λ (r : Got (List ℕ)). and_then r (λ letters n. not_taken (is_taken before letters) at letters n)) e))
        (λ l. inr (go at (counted 1 name_length letter f at) l))
        ((counted-alike Never AtEnd going f g byte-on 1 name_length letter (λ seen. byte-on _)).same at h);
  }
    where
      go : (at : ℕ) (r : Got (List ℕ)) → Left Never AtEnd r → Left Never AtEnd (and_then r (λ letters n. not_taken (is_taken before letters) at letters n))
      go at (got letters n) l = absurd l
      go at (bad b) l = l

  word_on : (n : ℕ) → Alike Never AtEnd (eight_bytes n f) (eight_bytes n g)
  unfolding eight_bytes
  word_on n = record {
    left = λ at h. absurd h;
    same = λ at _. elim (dec_le (at + 8) (length f)) [
      | yes h ↦ inl (same_word f g (length f) (omega arith) more agree n at h)
      | no h ↦ inr (let l : length f < at + 8 = omega arith in rw (lt-leb (at + 8) (length f) l) refl)
    ];
  }

  not-ended : (o : ℕ) → o < length f → (r : Got Parts) → at_end r f ≡ bad o → Left Never AtEnd r → ⊥
  unfolding at_end
  not-ended o l (got a n) e h = h
  not-ended o l (bad b) e h = let z : b ≡ o = cc in omega arith

  on_alike : (o : ℕ) → whole_file f ≡ bad o → o < length f → whole_file g ≡ bad o
  on_alike o e l = ⊎_elim
      (λ s. ap (λ (r : Got Parts). at_end r g) (sym s) ∙ ends-alike f g o (omega arith) (parts f 0) e)
      (λ h. absurd (not-ended o l (parts f 0) e h))
      ((parts-alike Never AtEnd going f g byte-on name-on word_on).same 0 (λ z. z))

pub stays-refused : StaysRefused
stays-refused file more o e l =
    on_alike file (file ++ more) (omega (arith, length-append file more)) (take_all (length file) file (omega arith) ∙ sym (take-append_seam file more)) o e l

-- ---- 17 bytes from the offset on

module _ (f g : List ℕ) (o : ℕ) (in_f : o + longest_item ≤ length f) (in_g : o + longest_item ≤ length g) (agree : take (o + longest_item) f ≡ take (o + longest_item) g) where
  abbrev Past : ℕ → Type 0
  Past n = o < n

  passed : (n : ℕ) → Past n ⊎ (Past n → ⊥)
  passed n = elim (dec_le n o) [ yes h ↦ inr (λ l. omega arith) | no h ↦ inl (omega arith) ]

  upto : {n : ℕ} → (Past n → ⊥) → n ≤ o
  upto {n} h = elim (dec_le n o) [ yes l ↦ l | no l ↦ absurd (h (omega arith)) ]

  byte-near : (test : ℕ → Bool) → Alike Past Past (byte test f) (byte test g)
  unfolding byte
  byte-near test = record {
    left = λ at h. go at h (ltb at (length f)) (test (get_or f at 0));
    same = λ at h. inl (same_byte f g (o + longest_item) in_f in_g agree test at (omega (arith, upto h)));
  }
    where
      go : (at : ℕ) → o < at → (p q : Bool) → Left Past Past (cond p (cond q (got (get_or f at 0) (at + 1)) (bad at)) (bad (length f)))
      go at h true true = omega arith
      go at h true false = h
      go at h false q = omega arith

  name-near : (before : List (List ℕ)) → Alike Past Past (name before f) (name before g)
  unfolding name
  name-near before = record {
    left = λ at h. go at h (counted 1 name_length letter f at) ((counted-alike Past Past passed f g byte-near 1 name_length letter (λ seen. byte-near _)).left at h);
    same = λ at h. inl (same_name f g (o + longest_item) in_f in_g agree before at (omega (arith, upto h)));
  }
    where
      ends : (at : ℕ) → o < at → (letters : List ℕ) (n : ℕ) → o < n → (b : Bool) → Left Past Past (not_taken b at letters n)
      ends at h letters n l true = h
      ends at h letters n l false = l

      go : (at : ℕ) → o < at → (r : Got (List ℕ)) → Left Past Past r → Left Past Past (and_then r (λ letters n. not_taken (is_taken before letters) at letters n))
      go at h (got letters n) l = ends at h letters n l (is_taken before letters)
      go at h (bad b) l = l

  word-near : (n : ℕ) → Alike Past Past (eight_bytes n f) (eight_bytes n g)
  unfolding eight_bytes
  word-near n = record {
    left = λ at h. go at h (leb (at + 8) (length f)) (ltb (number (take 8 (drop at f))) (2 ^ n));
    same = λ at h. inl (same_word f g (o + longest_item) in_f in_g agree n at (omega (arith, upto h)));
  }
    where
      go : (at : ℕ) → o < at → (p q : Bool) → Left Past Past (cond p (cond q (got (number (take 8 (drop at f))) (at + 8)) (bad at)) (bad (length f)))
      go at h true true = omega arith
      go at h true false = h
      go at h false q = omega arith

  not-past : (r : Got Parts) → at_end r f ≡ bad o → Left Past Past r → ⊥
  unfolding at_end
  not-past (bad b) e h = let z : b ≡ o = cc in omega arith
  not-past (got a n) e h = go (eqb n (length f)) e
    where
      go : (b : Bool) → cond b (got a n) (bad n) ≡ bad o → ⊥
      go true q = got-bad q
      go false q = let z : n ≡ o = cc in omega arith

  near-alike : whole_file f ≡ bad o → whole_file g ≡ bad o
  near-alike e = ⊎_elim
      (λ s. ap (λ (r : Got Parts). at_end r g) (sym s) ∙ ends-alike f g o (omega arith) (parts f 0) e)
      (λ h. absurd (not-past (parts f 0) e h))
      ((parts-alike Past Past passed f g byte-near name-near word-near).same 0 (λ l. omega arith))

-- a file that ends before those bytes is the other
pub refused-alike : RefusedAlike
refused-alike file other o e s =
    elim (dec_le (o + longest_item) (length file)) [
      | yes h ↦ near-alike file other o h (omega (arith, ap length s, length-take (o + longest_item) file, length-take (o + longest_item) other)) s e
      | no h ↦
          let l : length other ≤ o + longest_item = omega (arith, ap length s, length-take (o + longest_item) file, length-take (o + longest_item) other) in
          let same : file ≡ other = sym (take_all (o + longest_item) file (omega arith)) ∙ s ∙ take_all (o + longest_item) other l in
          ap whole_file (sym same) ∙ e
    ]

-- agreement up to and with the offending byte is too little: of two names `a` the second is refused at 3, its length byte, and the file that ends after
-- that byte at 4
pub one-byte-too-little : (whole_file (2 ∷ 1 ∷ 97 ∷ 1 ∷ 97 ∷ []) ≡ bad 3) × (whole_file (2 ∷ 1 ∷ 97 ∷ 1 ∷ []) ≡ bad 4)
unfolding at_end parts each_item byte name reserved
one-byte-too-little = (refl, refl)
