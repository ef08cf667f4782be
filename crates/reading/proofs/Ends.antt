-- The end of what is read, a run that is the whole file, and lists of which each item is fit.
-- Assumes nothing.
use mathlib.Core.Path.{◌≡◌, refl, sym, ap, ◌∙◌}
use mathlib.Core.Bool.{Bool, true, false, cond}
use mathlib.Core.List.{List, [], ◌∷◌, ◌++◌, append-nil, append_assoc}
use Prim.Native.Nat.{ℕ, zero, suc, ◌<◌}
use native.Mathlib.Omega.{arith}
use borrow.Author.Tests.{eqb-true, eq-eqb}
use lib.Dec.{eqb}
use lib.ListN.{length, get_or, take}
use lib.Seq.{drop-length}
use Rattle.rules.specs.Lists.{Each}
use Rattle.reading.specs.Reading.{Got, got, bad, at_end}
use Rattle.reading.proofs.Spans.{Spans}
use Rattle.reading.proofs.Readers.{got-bad, got-next}

pub each_map : {A : Type 0} {fit more : List A → A → Type 0} → ((before : List A) (a : A) → fit before a → more before a) → (l before : List A) → Each fit before l → Each more before l
unfolding Each
each_map f [] before e = tt
each_map f (a ∷ l) before e = (f before a e.0, each_map f l (before ++ (a ∷ [])) e.1)

-- an item of a list of which each is fit
pub each_at : {A : Type 0} (fit : List A → A → Type 0) (d : A) (l before : List A) → Each fit before l → (i : ℕ) → i < length l → fit (before ++ take i l) (get_or l i d)
unfolding Each
each_at fit d [] before e i h = absurd (omega arith)
each_at fit d (a ∷ l) before e zero h = rw append-nil e.0
each_at fit d (a ∷ l) before e (suc i) h = rw append_assoc at (each_at fit d l (before ++ (a ∷ [])) e.1 i (omega arith))

module _ (file : List ℕ) where
  pub end-sound : {A : Type 0} (g : Got A) {a : A} {next : ℕ} → at_end g file ≡ got a next → (g ≡ got a next) × (next ≡ length file)
  unfolding at_end
  end-sound (bad o) e = absurd (got-bad (sym e))
  end-sound (got b n) {a} {next} e = go (eqb n (length file)) refl e
    where
      go : (t : Bool) → eqb n (length file) ≡ t → cond t (got b n) (bad n) ≡ got a next → (got b n ≡ got a next) × (next ≡ length file)
      go true q h = (h, sym (got-next h) ∙ eqb-true n (length file) q)
      go false q h = absurd (got-bad (sym h))

  pub end-complete : {A : Type 0} (g : Got A) (a : A) → g ≡ got a (length file) → at_end g file ≡ got a (length file)
  unfolding at_end
  end-complete g a e = rw (e, eq-eqb (length file) (length file) refl)

  pub whole_run : (run : List ℕ) → run ≡ file → Spans file 0 run (length file)
  whole_run run e = record { is = sym e ∙ sym (append-nil run) ∙ ap (λ (l : List ℕ). run ++ l) (sym (drop-length file)); end = omega (arith, ap length e) }

  pub run-whole : (run : List ℕ) → Spans file 0 run (length file) → run ≡ file
  run-whole run s = sym (s.is ∙ ap (λ (l : List ℕ). run ++ l) (drop-length file) ∙ append-nil run)
