-- Each return of `judge_text` and of `judge`, from what their calls answered.
-- Assumes nothing.
use mathlib.Core.Path.{◌≡◌, refl, ap, subst}
use mathlib.Core.Logic.{◌⊎◌, inl, inr}
use mathlib.Core.List.{List, [], ◌∷◌}
use Prim.Native.Nat.{ℕ, ◌≤◌, ◌<◌}
use native.Mathlib.Omega.{arith}
use lib.ListN.{length}
use Rattle.rules.specs.Limits.{most_size}
use Rattle.std.proofs.Common.{Ok, Err, Option, Some, None}
use Rattle.typed.specs.Answers.{MissingIs}
use Rattle.rules.specs.Answers.{Said}
use Rattle.reading.specs.Reading.{got, bad}
use Rattle.reading.specs.Reading as reading
use Rattle.names.specs.Lookup.{names_by}
use Rattle.names.specs.Judged.{said_names, names_said, said_of_names as said_of}
use Rattle.reading.specs.declared.Broken.{Broken}
use Rattle.names.proofs.Starts.{names-by}
use Rattle.descent.specs.declared.judge.JudgeError.TheVariants.{Unknown as UnknownName, Large}
use Rattle.descent.specs.Words.{most_bytes, Deep}
use Rattle.names.specs.Names.{GoodNames, names_in, whole_names, listed}
use Rattle.descent.specs.Answers.{WholeText}
use Rattle.descent.specs.Judging.{JudgedIs}

module _ (file text old new : List ℕ) (h : length text ≤ most_bytes) (g : GoodNames file) where
  -- by the count and the length bytes, and as names
  by_names : (u : Option ℕ) → MissingIs (names_by file) text u → MissingIs (names_in file) text u
  by_names u s = subst (λ (ns : List (List ℕ)). MissingIs ns text u) (names-by file g) s

  module _ {m : ℕ} (x : WholeText file old new text (Ok m)) where
    pub judged-unknown : (k : ℕ) → MissingIs (names_by file) text (Some k) → JudgedIs file text old new (Err (UnknownName k))
    judged-unknown k s = (h, x.0, x.1, by_names (Some k) s, g)

    module _ (s : MissingIs (names_by file) text None) where
      pub judged-large : (most_size < m) ⊎ Deep text → JudgedIs file text old new (Err Large)
      judged-large l = (h, x.0, x.1, by_names None s, elim l [ inl l ↦ inl (omega (arith, x.2)) | inr d ↦ inr d ], g)

      pub judged-nodes : m ≤ most_size → (Deep text → ⊥) → JudgedIs file text old new (Ok m)
      judged-nodes l d = (h, x.0, x.1, by_names None s, omega (arith, x.2), d, x.2, x.3, g)

-- ---- the names

module _ (file : List ℕ) where
  pub names-good : {n : ℕ} → said_names (Ok n) ≡ names_said file → GoodNames file
  names-good {n} s = by_names (whole_names file) s
    where
      by_names : (w : reading.Got (List (List ℕ))) → said_names (Ok n) ≡ said_of w → (next : ℕ) × (w ≡ got (listed w) next)
      by_names (got names next) q = (next, refl)
      by_names (bad o) q = absurd (let z : ◌≡◌ {A = ℕ} 0 8 = ap (λ (s : Said). s.number) q in omega arith)

  pub names-bad : {e : Broken} → said_names (Err e) ≡ names_said file → whole_names file ≡ bad e.0
  names-bad {e} s = by_names (whole_names file) s
    where
      by_names : (w : reading.Got (List (List ℕ))) → said_names (Err e) ≡ said_of w → w ≡ bad e.0
      by_names (got names next) q = absurd (let z : ◌≡◌ {A = ℕ} 8 0 = ap (λ (s : Said). s.number) q in omega arith)
      by_names (bad p) q = let z : e.0 ∷ [] ≡ p ∷ [] = ap (λ (s : Said). s.values) q in let y : p ≡ e.0 = cc in ap bad y
