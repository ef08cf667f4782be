-- However long a byte string is, it is refused within 4,450 bytes, the length of the largest good file: no rule looks further.
-- Assumes nothing.
use mathlib.Core.Path.{◌≡◌, refl, subst}
use mathlib.Core.Bool.{Bool, true, false, cond}
use mathlib.Core.List.{List, [], ◌∷◌, ◌++◌, append_assoc, append-nil}
use Prim.Native.Nat.{ℕ, zero, suc, ◌+◌, ◌-◌, ◌*◌, ◌^◌, ◌≤◌}
use native.Mathlib.Nat.{suc-mul, mul-le-mul_right}
use native.Mathlib.Omega.{arith}
use borrow.Author.Tests.{ltb-false, leb-false}
use lib.Dec.{ltb, leb, eqb}
use lib.ListN.{length, get_or, take, drop, length-append}
use Rattle.words.specs.Word.{width}
use Rattle.sections.specs.Numbers.{file_sessions, file_propositions}
use Rattle.rules.specs.Limits.{most_size}
use Rattle.names.specs.Names.{name_length, letter, name, is_taken, not_taken, names_up_to, whole_names}
use Rattle.rules.specs.Lists.{Each}
use Rattle.reading.specs.Reading.{Got, got, bad, Reader, and_then, each_item, byte, within, counted, at_end}
use Rattle.file.specs.Offence.{number, eight_bytes, session, all_sessions, is_unary, is_binary, code, all_codes, settings, parts, whole_file}
use Rattle.file.specs.Promises.{most_file}
use Rattle.reading.proofs.Lists.{within-high}
use Rattle.reading.proofs.Readers.{got-bad, byte-sound}
use Rattle.sections.proofs.CodeLaws.{New, new-sound}
use Rattle.names.proofs.NameLaws.{names-sound}
use Rattle.file.proofs.Whole.{few-unary, few-binary}

-- what was read ends, or what offends stands, at `top` at the latest
abbrev pub Upto : {A : Type 0} → ℕ → Got A → Type 0
Upto top (got a next) = next ≤ top
Upto top (bad o) = o ≤ top

higher : {A : Type 0} (g : Got A) {s t : ℕ} → Upto s g → s ≤ t → Upto t g
higher (got a next) u h = omega arith
higher (bad o) u h = omega arith

-- what comes next may depend on what was read
next-upto : {A B : Type 0} (g : Got A) (k : A → ℕ → Got B) {s t : ℕ} → Upto s g → s ≤ t → ((a : A) (n : ℕ) → g ≡ got a n → n ≤ s → Upto t (k a n)) → Upto t (and_then g k)
next-upto (got a n) k u h f = f a n refl u
next-upto (bad o) k u h f = omega arith

module _ (file : List ℕ) where
  pub byte-upto : (test : ℕ → Bool) (at : ℕ) → Upto (at + 1) (byte test file at)
  unfolding byte
  byte-upto test at = go (ltb at (length file)) (test (get_or file at 0)) refl
    where
      go : (p q : Bool) → ltb at (length file) ≡ p → Upto (at + 1) (cond p (cond q (got (get_or file at 0) (at + 1)) (bad at)) (bad (length file)))
      go true true h = omega arith
      go true false h = omega arith
      go false q h = omega (arith, ltb-false at (length file) h)

  byte-bad : (test : ℕ → Bool) (at : ℕ) {o : ℕ} → byte test file at ≡ bad o → o ≤ at
  unfolding byte
  byte-bad test at {o} e = go (ltb at (length file)) (test (get_or file at 0)) refl e
    where
      go : (p q : Bool) → ltb at (length file) ≡ p → cond p (cond q (got (get_or file at 0) (at + 1)) (bad at)) (bad (length file)) ≡ bad o → o ≤ at
      go true true h g = absurd (got-bad g)
      go true false h g = let k : at ≡ o = cc in omega arith
      go false q h g = let k : length file ≡ o = cc in omega (arith, ltb-false at (length file) h)

  row_upto : {A : Type 0} (item : List A → Reader A) (w : ℕ) → ((before : List A) (at : ℕ) → Upto (at + w) (item before file at)) → (n : ℕ) (before : List A) (at : ℕ)
      → Upto (at + n * w) (each_item item n before file at)
  unfolding each_item
  row_upto item w u zero before at = omega arith
  row_upto item w u (suc n) before at =
      next-upto (item before file at) (λ a next. each_item item n (before ++ (a ∷ [])) file next) (u before at) (omega (arith, suc-mul n w))
      (λ a next e h. higher (each_item item n (before ++ (a ∷ [])) file next) (row_upto item w u n (before ++ (a ∷ [])) next) (omega (arith, suc-mul n w)))

  counted-upto : {A : Type 0} (lo hi : ℕ) (item : List A → Reader A) (w : ℕ) → ((before : List A) (at : ℕ) → Upto (at + w) (item before file at)) → (at : ℕ)
      → Upto (at + 1 + hi * w) (counted lo hi item file at)
  counted-upto lo hi item w u at =
      next-upto (byte (within lo hi) file at) (λ n next. each_item item n [] file next) (byte-upto (within lo hi) at) (omega arith)
      (λ n next e h.
      let few = within-high lo hi n (byte-sound (within lo hi) file at e).0 in
      higher (each_item item n [] file next) (row_upto item w u n [] next) (omega (arith, mul-le-mul_right w few)))

  -- ---- names

  pub letter-upto : (before : List ℕ) (at : ℕ) → Upto (at + 1) (letter before file at)
  letter-upto before at = byte-upto _ at

  pub name-upto : (before : List (List ℕ)) (at : ℕ) → Upto (at + 17) (name before file at)
  unfolding name
  name-upto before at =
      next-upto (counted 1 name_length letter file at) (λ letters n. not_taken (is_taken before letters) at letters n) (counted-upto 1 name_length letter 1 letter-upto at) (omega arith)
      (λ letters n e h. go letters n (is_taken before letters) (omega arith))
    where
      go : (letters : List ℕ) (n : ℕ) (b : Bool) → n ≤ at + 17 → Upto (at + 17) (not_taken b at letters n)
      go letters n true h = omega arith
      go letters n false h = h

  -- ---- sessions

  pub word-upto : (n at : ℕ) → Upto (at + 8) (eight_bytes n file at)
  unfolding eight_bytes
  word-upto n at = go (leb (at + 8) (length file)) (ltb (number (take 8 (drop at file))) (2 ^ n)) refl
    where
      go : (p q : Bool) → leb (at + 8) (length file) ≡ p → Upto (at + 8) (cond p (cond q (got (number (take 8 (drop at file))) (at + 8)) (bad at)) (bad (length file)))
      go true true h = omega arith
      go true false h = omega arith
      go false q h = omega (arith, leb-false (at + 8) (length file) h)

  pub session-upto : (m : ℕ) (at : ℕ) → Upto (at + (2 + m * 8)) (session m file at)
  unfolding session
  session-upto m at =
      next-upto (byte (within 0 1) file at) _ (byte-upto (within 0 1) at) (omega arith) λ mark a e h.
      next-upto (byte (within 0 width) file a) _ (byte-upto (within 0 width) a) (omega arith) λ n b d i.
      next-upto (each_item (λ _. eight_bytes n) m [] file b) _ (row_upto (λ _. eight_bytes n) 8 (λ _. word-upto n) m [] b) (omega arith) λ words next f j.
      (omega arith)

  -- ---- codes: as many as there are in the group, since none comes twice

  pub each_more : {A : Type 0} (fit : List A → A → Type 0) (l before : List A) (a : A) → Each fit before l → fit (before ++ l) a → Each fit before (l ++ (a ∷ []))
  unfolding Each
  each_more fit [] before a e f = (rw append-nil at f, tt)
  each_more fit (x ∷ l) before a e f = (e.0, each_more fit l (before ++ (x ∷ [])) a e.1 (rw append_assoc f))

  module _ (group : ℕ → Bool) (most : ℕ) (few : (l : List ℕ) → Each (New group) [] l → length l ≤ most) where
    row-of-codes : (n : ℕ) (before : List ℕ) (at : ℕ) → Each (New group) [] before → Upto (at + (most - length before)) (each_item (code group) n before file at)
    unfolding each_item
    row-of-codes zero before at e = omega arith
    row-of-codes (suc n) before at e = go (λ c next f. row-of-codes n (before ++ (c ∷ [])) next f) (code group before file at) refl
      where
        go : ((c next : ℕ) → Each (New group) [] (before ++ (c ∷ [])) → Upto (next + (most - length (before ++ (c ∷ [])))) (each_item (code group) n (before ++ (c ∷ [])) file next))
            → (g : Got ℕ) → code group before file at ≡ g → Upto (at + (most - length before)) (and_then g (λ c next. each_item (code group) n (before ++ (c ∷ [])) file next))
        go below (bad o) d = omega (arith, byte-bad _ at d)
        go below (got c next) d =
            let t = new-sound group file before at c next d in
            let f = each_more (New group) before [] c e t.0 in
            let k = few (before ++ (c ∷ [])) f in
            let l = length-append before (c ∷ []) in
            higher (each_item (code group) n (before ++ (c ∷ [])) file next) (below c next f) (omega (arith, t.1.end))

    pub codes-upto : (at : ℕ) → Upto (at + 1 + most) (all_codes group file at)
    unfolding Each
    codes-upto at =
        next-upto (byte (within 0 255) file at) (λ n next. each_item (code group) n [] file next) (byte-upto (within 0 255) at) (omega arith)
        (λ n next e h. higher (each_item (code group) n [] file next) (row-of-codes n [] next tt) (omega arith))

  -- ---- the whole

  settings-upto : (at : ℕ) → Upto (at + 3) (settings file at)
  unfolding settings
  settings-upto at =
      next-upto (byte (within 2 2) file at) _ (byte-upto (within 2 2) at) (omega arith) λ k a e h.
      next-upto (byte (within 0 1) file a) _ (byte-upto (within 0 1) a) (omega arith) λ c b d i.
      next-upto (byte (within 1 most_size) file b) _ (byte-upto (within 1 most_size) b) (omega arith) λ v next f j.
      (omega arith)

  pub names-upto : (at : ℕ) → Upto (at + 273) (names_up_to file_propositions file at)
  names-upto at = higher (names_up_to file_propositions file at) (counted-upto 1 file_propositions name 17 name-upto at) (omega arith)

  pub sessions-upto : (m : ℕ) → m ≤ file_propositions → (at : ℕ) → Upto (at + 4161) (all_sessions m file at)
  sessions-upto m h at =
      higher (all_sessions m file at) (counted-upto 1 file_sessions (λ _. session m) (2 + m * 8) (λ _. session-upto m) at) (omega arith)

  pub parts-upto : Upto most_file (parts file 0)
  unfolding parts
  parts-upto =
      next-upto (names_up_to file_propositions file 0) _ (names-upto 0) (omega arith) λ ns a e h.
      next-upto (all_sessions (length ns) file a) _ (sessions-upto (length ns) (names-sound file file_propositions 0 e).few a) (omega arith) λ ss b f i.
      next-upto (all_codes is_unary file b) _ (codes-upto is_unary 5 few-unary b) (omega arith) λ us c g j.
      next-upto (all_codes is_binary file c) _ (codes-upto is_binary 6 few-binary c) (omega arith) λ bs d k l.
      next-upto (settings file d) _ (settings-upto d) (omega arith) λ s next m n.
      (omega arith)

  end-upto : {A : Type 0} (g : Got A) (top : ℕ) → Upto top g → Upto top (at_end g file)
  unfolding at_end
  end-upto (bad o) top u = u
  end-upto (got a next) top u = go (eqb next (length file))
    where
      go : (b : Bool) → Upto top (cond b (got a next) (bad next))
      go true = u
      go false = u

  -- the offset of a refusal is at most 4,450, for every byte string
  pub offset-small : (o : ℕ) → whole_file file ≡ bad o → o ≤ most_file
  offset-small o e = subst (Upto most_file) e (end-upto (parts file 0) most_file parts-upto)

  -- and of a names section at most 273
  pub names-offset-small : (o : ℕ) → whole_names file ≡ bad o → o ≤ 273
  names-offset-small o e = subst (Upto 273) e (end-upto (names_up_to file_propositions file 0) 273 (higher (names_up_to file_propositions file 0) (names-upto 0) (omega arith)))
