-- What private functions of this crate promise each other. No public contract cites this.
-- Assumes nothing.
use Rattle.std.specs.Prelude.{◌⊎◌, List, [], ◌∷◌, ℕ, ◌+◌, ◌*◌, ◌<◌, ◌≤◌, length, Result, IfOk}
use Rattle.rules.specs.Answers.{Said}
use Rattle.rules.specs.Limits.{most_sessions, Outside}
use Rattle.rules.specs.declared.refusal.Refusal.{Refusal}
use Rattle.rules.specs.Refusals.{Row, Decided, number_of}
use Rattle.comparison.specs.declared.Compared.{Compared}
use Rattle.comparison.specs.declared.Compared.TheVariants.{Equal, Differs}
use Rattle.comparison.specs.Compare.{equal_said, differs_said, CompareOutcome}
use Rattle.out.specs.Out.{out_words}

-- the rows by the lengths of the slices
abbrev pub length_rows : ℕ → ℕ → ℕ → ℕ → ℕ → List Row
length_rows r place matrices words out =
    record { number = 1; given = Outside 1 most_sessions r }
    ∷ record { number = 3; given = out < out_words }
    ∷ record { number = 3; given = (matrices < (place + 1) * r) ⊎ (words < r) }
    ∷ []

-- what is said of an answer, wherever the matrix was taken from
abbrev pub put_said : ℕ → Compared → Said
put_said place (Equal p) = equal_said place
put_said place (Differs j) = differs_said j.0

-- the rows decide; where nothing is refused, `out` is long enough and the answer is that of the place
pub record Answers (r place : ℕ) (matrices words : List ℕ) (out : ℕ) (result : Result Compared Refusal) : Type 0 where
  pub number : Decided (length_rows r place (length matrices) (length words) out) (number_of result)
  pub room : IfOk result (λ c. out_words ≤ out)
  pub outcome : IfOk result (λ c. CompareOutcome r place matrices words (put_said place c))
