-- scarfpylon_compare: what it returns and leaves in `out`, for every input.
-- Assumes nothing.
use Rattle.std.specs.Prelude.{◌≡◌, List, [], ◌∷◌, ℕ}
use Rattle.rules.specs.Refusals.{Row, Decided}
use Rattle.rules.specs.Answers.{Said}
use Rattle.comparison.specs.Compare.{compare_rows_with, CompareOutcome}
use Rattle.out.specs.Out.{out_short, written, said_words}

module _ (r place : ℕ) (matrices words old : List ℕ) where
  -- "1 (r), 3 (matrices below (place + 1) x r, words below r, out below 8)"
  abbrev pub compare_rows : List Row
  compare_rows = compare_rows_with r place matrices words (out_short old ∷ [])

  -- the rows decide; "a refusal writes nothing"; else "out = 1, place where words[0..r] equals that place's matrix in every row; else 0, the first
  -- session that differs"
  pub record CompareDone (returned : ℕ) (new : List ℕ) : Type 0 where
    pub number : Decided compare_rows returned
    pub refused : (returned ≡ 0 → ⊥) → new ≡ old
    pub passed : returned ≡ 0 → (s : Said) × CompareOutcome r place matrices words s × (new ≡ written (said_words s) old)
