-- A byte string's first 4,451 bytes decide, one more than the largest good file has: of a longer one the rule answers what it answers of these, and a
-- refusal has the same offset. No item looks at offset 4,450 or beyond, and both have more bytes than the items take.
-- Assumes nothing.
use mathlib.Core.Path.{◌≡◌, refl, sym, ap, ◌∙◌}
use mathlib.Core.Bool.{Bool}
use mathlib.Core.List.{List, [], ◌∷◌, ◌++◌}
use Prim.Native.Nat.{ℕ, zero, suc, ◌+◌, ◌-◌, ◌*◌, ◌≤◌, ◌<◌}
use native.Mathlib.Decide.{dec_le}
use native.Mathlib.Nat.{suc-mul, mul-le-mul_right}
use native.Mathlib.Omega.{arith}
use borrow.Author.Tests.{lt-ltb, le-leb, ne_eqb}
use lib.ListN.{length, get_or, take, drop, length-take, length-append}
use lib.Seq.{get_or-take, take_all, take-take}
use Rattle.words.specs.Word.{width}
use Rattle.sections.specs.Numbers.{file_sessions, file_propositions}
use Rattle.rules.specs.Limits.{most_size}
use Rattle.names.specs.Names.{name_length, letter, name, names_up_to}
use Rattle.rules.specs.Lists.{Each}
use Rattle.reading.specs.Reading.{Got, got, bad, Reader, and_then, each_item, byte, within, counted, at_end}
use Rattle.file.specs.Offence.{eight_bytes, session, all_sessions, is_unary, is_binary, code, all_codes, settings, parts, whole_file}
use Rattle.reading.proofs.Lists.{within-high}
use Rattle.reading.proofs.Readers.{byte-sound}
use Rattle.sections.proofs.CodeLaws.{New, new-sound}
use Rattle.names.proofs.NameLaws.{names-sound}
use Rattle.file.proofs.Whole.{few-unary, few-binary}
use Rattle.file.proofs.Cuts.{drop-take}
use Rattle.file.proofs.Offsets.{Upto, byte-upto, letter-upto, name-upto, word-upto, session-upto, each_more, codes-upto, names-upto, sessions-upto, parts-upto}

-- two readings go on alike where they began alike, and what was read ends at `s` at the latest
same_then : {A B : Type 0} (g h : Got A) (p q : A → ℕ → Got B) {s : ℕ} → g ≡ h → Upto s h → ((a : A) (n : ℕ) → h ≡ got a n → n ≤ s → p a n ≡ q a n) → and_then g p ≡ and_then h q
same_then g (got a n) p q e u f = rw e (f a n refl u)
same_then g (bad o) p q e u f = rw e

-- what is read of two files whose first k bytes are the same, as long as nothing that is looked at passes k
module _ (front file : List ℕ) (k : ℕ) (short : k ≤ length front) (long : k ≤ length file) (agree : take k front ≡ take k file) where
  pub same_byte : (test : ℕ → Bool) (at : ℕ) → at < k → byte test front at ≡ byte test file at
  unfolding byte
  same_byte test at h =
      let i : at < length front = omega arith in
      let j : at < length file = omega arith in
      let s : get_or front at 0 ≡ get_or file at 0 = sym (get_or-take k front at 0 h) ∙ ap (λ (l : List ℕ). get_or l at 0) agree ∙ get_or-take k file at 0 h in
      rw (lt-ltb at (length front) i, lt-ltb at (length file) j, s)

  module _ {A : Type 0} (item : List A → Reader A) (w : ℕ) (ends : (before : List A) (at : ℕ) → Upto (at + w) (item before file at))
      (same : (before : List A) (at : ℕ) → at + w ≤ k → item before front at ≡ item before file at) where
    same_row : (n : ℕ) (before : List A) (at : ℕ) → at + n * w ≤ k → each_item item n before front at ≡ each_item item n before file at
    unfolding each_item
    same_row zero before at h = refl
    same_row (suc n) before at h =
        same_then (item before front at) (item before file at) _ _ (same before at (omega (arith, suc-mul n w))) (ends before at)
        (λ a next e l. same_row n (before ++ (a ∷ [])) next (omega (arith, suc-mul n w)))

    same-counted : (lo hi at : ℕ) → at + 1 + hi * w ≤ k → counted lo hi item front at ≡ counted lo hi item file at
    same-counted lo hi at h =
        same_then (byte (within lo hi) front at) (byte (within lo hi) file at) _ _ (same_byte (within lo hi) at (omega arith)) (byte-upto file (within lo hi) at)
        (λ n next e l.
        let few = within-high lo hi n (byte-sound (within lo hi) file at e).0 in
        same_row n [] next (omega (arith, mul-le-mul_right w few)))

  -- ---- names

  pub same_name : (before : List (List ℕ)) (at : ℕ) → at + 17 ≤ k → name before front at ≡ name before file at
  unfolding name
  same_name before at h =
      rw (same-counted letter 1 (letter-upto file) (λ seen a l. same_byte _ a (omega arith)) 1 name_length at (omega arith))

  -- ---- sessions

  pub same_word : (n at : ℕ) → at + 8 ≤ k → eight_bytes n front at ≡ eight_bytes n file at
  unfolding eight_bytes
  same_word n at h =
      let i : at + 8 ≤ length front = omega arith in
      let j : at + 8 ≤ length file = omega arith in
      let s : take 8 (drop at front) ≡ take 8 (drop at file) = sym (within_first front) ∙ ap (λ (l : List ℕ). take 8 (drop at l)) agree ∙ within_first file in
      rw (le-leb (at + 8) (length front) i, le-leb (at + 8) (length file) j, s)
    where
      within_first : (l : List ℕ) → take 8 (drop at (take k l)) ≡ take 8 (drop at l)
      within_first l = ap (take 8) (drop-take at k l) ∙ take-take 8 (k - at) (drop at l) (omega arith)

  same-session : (m at : ℕ) → at + (2 + m * 8) ≤ k → session m front at ≡ session m file at
  unfolding session
  same-session m at h =
      same_then (byte (within 0 1) front at) (byte (within 0 1) file at) _ _ (same_byte (within 0 1) at (omega arith)) (byte-upto file (within 0 1) at) λ mark a e i.
      same_then (byte (within 0 width) front a) (byte (within 0 width) file a) _ _ (same_byte (within 0 width) a (omega arith)) (byte-upto file (within 0 width) a) λ n b d j.
      rw (same_row (λ _. eight_bytes n) 8 (λ _. word-upto file n) (λ _. same_word n) m [] b (omega arith))

  -- ---- codes: after as many as there are in the group, one more byte is looked at and refused

  module _ (group : ℕ → Bool) (most : ℕ) (few : (l : List ℕ) → Each (New group) [] l → length l ≤ most) where
    same-row-of-codes : (n : ℕ) (before : List ℕ) (at : ℕ) → Each (New group) [] before → at + (most - length before) < k
        → each_item (code group) n before front at ≡ each_item (code group) n before file at
    unfolding each_item
    same-row-of-codes zero before at e h = refl
    same-row-of-codes (suc n) before at e h =
        same_then (code group before front at) (code group before file at) _ _ (same_byte _ at (omega arith)) (byte-upto file _ at)
        (λ c next d l.
        let t = new-sound group file before at c next d in
        let f = each_more file (New group) before [] c e t.0 in
        same-row-of-codes n (before ++ (c ∷ [])) next f (omega (arith, few (before ++ (c ∷ [])) f, length-append before (c ∷ []))))

    same_codes : (at : ℕ) → at + 1 + most < k → all_codes group front at ≡ all_codes group file at
    unfolding Each
    same_codes at h =
        same_then (byte (within 0 255) front at) (byte (within 0 255) file at) _ _ (same_byte (within 0 255) at (omega arith)) (byte-upto file (within 0 255) at)
        (λ n next e l. same-row-of-codes n [] next tt (omega arith))

  -- ---- the whole

  same-settings : (at : ℕ) → at + 3 ≤ k → settings front at ≡ settings file at
  unfolding settings
  same-settings at h =
      same_then (byte (within 2 2) front at) (byte (within 2 2) file at) _ _ (same_byte (within 2 2) at (omega arith)) (byte-upto file (within 2 2) at) λ n a e i.
      same_then (byte (within 0 1) front a) (byte (within 0 1) file a) _ _ (same_byte (within 0 1) a (omega arith)) (byte-upto file (within 0 1) a) λ c b d j.
      rw (same_byte (within 1 most_size) b (omega arith))

  same_names : (at : ℕ) → at + 273 ≤ k → names_up_to file_propositions front at ≡ names_up_to file_propositions file at
  same_names at h = same-counted name 17 (name-upto file) same_name 1 file_propositions at (omega arith)

  same-sessions : (m : ℕ) → m ≤ file_propositions → (at : ℕ) → at + 4161 ≤ k → all_sessions m front at ≡ all_sessions m file at
  same-sessions m l at h = same-counted (λ _. session m) (2 + m * 8) (λ _. session-upto file m) (λ _. same-session m) 1 file_sessions at (omega arith)

  module _ (beyond : 4450 < k) where
    same_parts : parts front 0 ≡ parts file 0
    unfolding parts
    same_parts =
        same_then (names_up_to file_propositions front 0) (names_up_to file_propositions file 0) _ _ (same_names 0 (omega arith)) (names-upto file 0) λ ns a e h.
        let few = (names-sound file file_propositions 0 e).few in
        same_then (all_sessions (length ns) front a) (all_sessions (length ns) file a) _ _ (same-sessions (length ns) few a (omega arith)) (sessions-upto file (length ns) few a) λ ss b f i.
        same_then (all_codes is_unary front b) (all_codes is_unary file b) _ _ (same_codes is_unary 5 few-unary b (omega arith)) (codes-upto file is_unary 5 few-unary b) λ us c g j.
        same_then (all_codes is_binary front c) (all_codes is_binary file c) _ _ (same_codes is_binary 6 few-binary c (omega arith)) (codes-upto file is_binary 6 few-binary c) λ bs d l m.
        rw (same-settings d (omega arith))

    -- both have more bytes than any parts
    same_end : {A : Type 0} (g : Got A) → Upto 4450 g → at_end g front ≡ at_end g file
    unfolding at_end
    same_end (bad o) u = refl
    same_end (got a next) u =
        let i : next ≡ length front → ⊥ = λ e. omega arith in
        let j : next ≡ length file → ⊥ = λ e. omega arith in
        rw (ne_eqb next (length front) i, ne_eqb next (length file) j)

    same-file : whole_file front ≡ whole_file file
    same-file = ap (λ g. at_end g front) same_parts ∙ same_end (parts file 0) (parts-upto file)

-- the first 4,451 bytes decide, for every byte string
pub first-bytes-decide : (file : List ℕ) → whole_file (take 4451 file) ≡ whole_file file
first-bytes-decide file =
    elim (dec_le (length file) 4451) [
      | yes h ↦ ap whole_file (take_all 4451 file h)
      | no h ↦ same-file (take 4451 file) file 4451 (omega (arith, length-take 4451 file)) (omega arith) (take-take 4451 4451 file (omega arith)) (omega arith)
    ]
