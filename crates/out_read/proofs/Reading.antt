-- The reader at the boundary: a refusal's offset is small enough for its number, and a good file has a session, so that with nothing lent the
-- core refuses with 8 or 3.
-- Assumes nothing.
use mathlib.Core.Path.{◌≡◌, refl, sym, ap, ◌∙◌}
use mathlib.Core.Bool.{Bool, true, false, cond, ◌&&◌}
use mathlib.Core.List.{List, []}
use Prim.Native.Nat.{ℕ, ◌^◌, ◌≤◌, ◌<◌}
use native.Mathlib.Omega.{arith}
use borrow.Author.Tests.{leb-true, leb-false}
use lib.Dec.{leb}
use lib.ListN.{length}
use Rattle.file.specs.Format.{Parts}
use Rattle.reading.specs.Reading.{Got, got, bad, broken}
use Rattle.file.specs.Offence.{whole_file}
use Rattle.rules.specs.Answers.{Said}
use Rattle.file.specs.Reading.{too_little_room, Lent, lent, After, room_for, handed_out, read_of}
use Rattle.file.specs.Reading as core
use Rattle.file.proofs.Numbers.{Bytes}
use Rattle.file.proofs.Whole.{passed-is-good}
use Rattle.file.proofs.Offsets.{offset-small}
use Rattle.out.specs.Out.{out_words, broken_at, returned_of}
use Rattle.out.specs.Unanswered.{OffsetFits}
use Rattle.out_read.specs.Read.{done, done_by, out_outcome, read_done}
use Rattle.out_read.specs.Inner.{read_unanswered}

one-offset : {o u : ℕ} → broken o ≡ broken u → o ≡ u
one-offset e = let v = ap (λ (s : Said). s.values) e in cc

module _ (file : List ℕ) where
  -- ---- the number

  module _ (l : Lent) where
    pub read_fits : (a : After) → a ≡ read_of file l → OffsetFits a.answer
    read_fits a e o b = go (whole_file file) refl (sym b ∙ ap (λ (x : After). x.answer) e)
      where
        room : (p : Parts) (r : Bool) → broken o ≡ (cond r (handed_out p l) (record { answer = too_little_room; left = l })).answer → ⊥
        room p true f = let z : ◌≡◌ {A = ℕ} 8 0 = ap (λ (s : Said). s.number) f in omega arith
        room p false f = let z : ◌≡◌ {A = ℕ} 8 3 = ap (λ (s : Said). s.number) f in omega arith

        go : (g : Got Parts) → whole_file file ≡ g → broken o ≡ (core.outcome g l).answer → broken_at o < 2 ^ 32
        go (bad u) w f = omega (arith, one-offset f, offset-small file u w)
        go (got p next) w f = absurd (room p (room_for p l) f)

  -- ---- `out` is too short

  pub unanswered : Bytes file → (a : After) → a ≡ read_of file (lent [] [] [] [] []) → returned_of a.answer ≡ read_unanswered (whole_file file)
  unanswered bytes a e = ap (λ (x : After). returned_of x.answer) e ∙ go (whole_file file) refl
    where
      none : (p : Parts) → 1 ≤ length p.sessions → (b rest : Bool) → leb (length p.sessions) 0 ≡ b
          → returned_of (cond (b && rest) (handed_out p (lent [] [] [] [] [])) (record { answer = too_little_room; left = lent [] [] [] [] [] })).answer ≡ 3
      none p h true rest e = absurd (omega (arith, leb-true (length p.sessions) 0 e))
      none p h false rest e = refl

      go : (g : Got Parts) → whole_file file ≡ g → returned_of (core.outcome g (lent [] [] [] [] [])).answer ≡ read_unanswered g
      go (bad o) w = refl
      go (got p next) w = none p (passed-is-good file bytes p next w).0.some_sessions (leb (length p.sessions) 0) _ refl

  module _ (l : Lent) (old : List ℕ) where
    pub read_short : length old < out_words → (k : ℕ) → k ≡ read_unanswered (whole_file file) → done k l old ≡ read_done file l old
    read_short h k e = ap (λ (n : ℕ). done n l old) e ∙ go (whole_file file)
      where
        short : (p : Parts) (b c : Bool) → leb out_words (length old) ≡ c
            → done 3 l old ≡ cond (b && c) (done_by (handed_out p l) old) (done_by (record { answer = too_little_room; left = l }) old)
        short p b true e = absurd (omega (arith, leb-true out_words (length old) e))
        short p true false e = refl
        short p false false e = refl

        go : (g : Got Parts) → done (read_unanswered g) l old ≡ out_outcome g l old
        go (bad o) = refl
        go (got p next) = short p (room_for p l) (leb out_words (length old)) refl

    -- ---- `out` is long enough

    pub read-long : out_words ≤ length old → (a : After) → a ≡ read_of file l → done_by a old ≡ read_done file l old
    read-long h a e = ap (λ (x : After). done_by x old) e ∙ go (whole_file file)
      where
        long : (p : Parts) (b c : Bool) → leb out_words (length old) ≡ c
            → done_by (cond b (handed_out p l) (record { answer = too_little_room; left = l })) old
            ≡ cond (b && c) (done_by (handed_out p l) old) (done_by (record { answer = too_little_room; left = l }) old)
        long p b false e = absurd (omega (arith, leb-false out_words (length old) e))
        long p true true e = refl
        long p false true e = refl

        go : (g : Got Parts) → done_by (core.outcome g l) old ≡ out_outcome g l old
        go (bad o) = refl
        go (got p next) = long p (room_for p l) (leb out_words (length old)) refl
