-- Names: what the rule reads as a name is a good one, its bytes stand there, and a good name is read.
-- Assumes nothing.
use mathlib.Core.Path.{◌≡◌, refl, sym, ap, ◌∙◌, subst}
use mathlib.Core.Bool.{Bool, true, false}
use mathlib.Core.List.{List, [], ◌∷◌, ◌++◌, flat_map, Memᴰ}
use Prim.Native.Nat.{ℕ, ◌+◌, ◌≤◌, ◌<◌}
use native.Mathlib.Omega.{arith}
use lib.Dec.{eqb-suc-zero}
use lib.ListN.{length, get_or, take, drop}
use Rattle.names.specs.Inner.{fits_at}
use Rattle.names.specs.Reserved.{reserved}
use Rattle.names.specs.Names.{name_length, name_bytes, fits_name, GoodName, letter, same_bytes, is_taken, not_taken, name, names_up_to}
use Rattle.reading.specs.Reading.{one, got, bad, each_item, byte, within, counted, is_in}
use Rattle.reading.proofs.Spans.{Spans, head, second, taken, inside}
use Rattle.reading.proofs.Lists.{not_in, in-not, ones, or-first, or-second}
use Rattle.spelling.proofs.Same.{same_refl, same-eq}
use Rattle.reading.proofs.Readers.{got-bad, got-value, got-next, in-turn, byte-sound, byte-complete, Sound, Complete, row-sound, Section, section-sound, section-complete}

abbrev pub Letter : List ℕ → ℕ → Type 0
Letter seen b = fits_name seen b ≡ true

module _ (file : List ℕ) where
  pub letter-sound : Sound letter Letter one file
  letter-sound before at a next e = byte-sound (fits_name before) file at e

  pub letter-complete : Complete letter Letter one file
  letter-complete before at b next f s = byte-complete (fits_name before) file at b f s

  abbrev pub Word : (at : ℕ) (letters : List ℕ) (next : ℕ) → Type 0
  Word at letters next = Section letter Letter one file 1 name_length at letters next

  pub name-sound : Sound name GoodName name_bytes file
  unfolding name
  name-sound before at a next e =
      let t = in-turn (counted 1 name_length letter file at) (λ letters n. not_taken (is_taken before letters) at letters n) e in
      go t.0 t.1 (section-sound letter Letter one file letter-sound 1 name_length at t.2) (is_taken before t.0) refl t.3
    where
      go : (letters : List ℕ) (n : ℕ) → Word at letters n → (b : Bool) → is_taken before letters ≡ b → not_taken b at letters n ≡ got a next → GoodName before a × Spans file at (name_bytes a) next
      go letters n w true q g = absurd (got-bad (sym g))
      go letters n w false q g =
          let v : letters ≡ a = got-value g in
          let m : n ≡ next = got-next g in
          let apart : (l : List (List ℕ)) → is_in same_bytes letters l ≡ false → Memᴰ letters l → ⊥ = not_in same_bytes letters (λ y p. rw (← p) (same_refl letters)) in
          let good : GoodName before letters =
          record {
            some = w.some;
            short = w.few;
            letters = w.fits;
            free = apart reserved (or-first (is_in same_bytes letters reserved) (is_in same_bytes letters before) q);
            new = apart before (or-second (is_in same_bytes letters reserved) (is_in same_bytes letters before) q);
          } in
          (rw (← v) good, rw (← v, ← m) w.spans)

  pub name-complete : Complete name GoodName name_bytes file
  unfolding name
  name-complete before at a next g s =
      let w : Word at a next = record { some = g.some; few = g.short; fits = g.letters; spans = s } in
      rw (
        section-complete letter Letter one file letter-complete 1 name_length at a w,
        in-not same_bytes a (λ y p. same-eq a y p) reserved g.free,
        in-not same_bytes a (λ y p. same-eq a y p) before g.new,
      )

  -- ---- one name, step by step

  pub letters-are : (n at : ℕ) {letters : List ℕ} {end : ℕ} → each_item letter n [] file at ≡ got letters end
      → (take n (drop at file) ≡ letters) × (length letters ≡ n) × (end ≡ at + n) × Spans file at letters end
  letters-are n at {letters} {end} e =
      let r = row-sound letter Letter one file letter-sound n [] at e in
      let is : flat_map one r.new ≡ letters = ones r.new ∙ sym r.is in
      let s : Spans file at letters end = subst (λ (l : List ℕ). Spans file at l end) is r.spans in
      let k : length letters ≡ n = ap length r.is ∙ r.count in
      (ap (λ (x : ℕ). take x (drop at file)) (sym k) ∙ taken file letters s, k, s.end ∙ ap (λ (x : ℕ). at + x) k, s)

  pub name-cut : (before : List (List ℕ)) (at : ℕ) {o : ℕ} → byte (within 1 name_length) file at ≡ bad o → name before file at ≡ bad o
  unfolding name
  name-cut before at e = rw e

  pub name-odd : (before : List (List ℕ)) (at : ℕ) {n next o : ℕ} → byte (within 1 name_length) file at ≡ got n next → each_item letter n [] file next ≡ bad o → name before file at ≡ bad o
  unfolding name
  name-odd before at e d = rw (e, d)

  pub name-whole : (before : List (List ℕ)) (at : ℕ) {n next : ℕ} {letters : List ℕ} {end : ℕ} → byte (within 1 name_length) file at ≡ got n next → each_item letter n [] file next ≡ got letters end
      → name before file at ≡ not_taken (is_taken before (take n (drop next file))) at letters end
  unfolding name
  name-whole before at {n} {next} e d = rw (e, d, (letters-are n next d).0)

  pub name-room : (at : ℕ) {n next : ℕ} {letters : List ℕ} {end : ℕ} → byte (within 1 name_length) file at ≡ got n next → each_item letter n [] file next ≡ got letters end → next + n ≤ length file
  name-room at {n} {next} {letters} e d =
      let b = (byte-sound (within 1 name_length) file at e).1 in
      let h = head file at n (drop next file) b.is in
      let l = letters-are n next d in
      omega (arith, inside file letters l.3 (omega (arith, b.end)), l.2)

  -- where a name stands, its length byte and its letters are read off the file
  pub named-at : {at next : ℕ} (letters : List ℕ) → Spans file at (name_bytes letters) next
      → (at < length file) × (get_or file at 0 ≡ length letters) × (take (get_or file at 0) (drop (at + 1) file) ≡ letters) × (next ≡ at + 1 + get_or file at 0)
  named-at {at} {next} letters s =
      let h = head file at (length letters) (flat_map one letters ++ drop next file) s.is in
      let t : Spans file (at + 1) (flat_map one letters) next = second file (one (length letters)) (flat_map one letters) s in
      let u : Spans file (at + 1) letters next = subst (λ (l : List ℕ). Spans file (at + 1) l next) (ones letters) t in
      (h.0, h.1, ap (λ (x : ℕ). take x (drop (at + 1) file)) h.1 ∙ taken file letters u, u.end ∙ ap (λ (x : ℕ). at + 1 + x) (sym h.1))

  -- ---- a section of names

  pub names-sound : (most at : ℕ) {all : List (List ℕ)} {next : ℕ} → names_up_to most file at ≡ got all next → Section name GoodName name_bytes file 1 most at all next
  names-sound most at e = section-sound name GoodName name_bytes file name-sound 1 most at e

  pub names-complete : (most at : ℕ) (all : List (List ℕ)) {next : ℕ} → Section name GoodName name_bytes file 1 most at all next → names_up_to most file at ≡ got all next
  names-complete most at all w = section-complete name GoodName name_bytes file name-complete 1 most at all w

-- the byte number i of a name, where i bytes of it were seen
pub letter-same : (seen file : List ℕ) (at : ℕ) → byte (fits_at (length seen)) file at ≡ letter seen file at
unfolding byte
letter-same [] file at = refl
letter-same (x ∷ seen) file at = rw (eqb-suc-zero (length seen))
