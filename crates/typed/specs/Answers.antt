-- What is answered of a text's words and brackets.
-- Assumes nothing.
use Rattle.std.specs.Prelude.{Bool, true, false, List, ℕ, Option, Some, None}
use Rattle.typed.specs.Words.{UnknownAt, FirstUnknown, Deep}

-- the offset of the first unknown name, or there is none
abbrev pub MissingIs : List (List ℕ) → List ℕ → Option ℕ → Type 0
MissingIs names text None = (k : ℕ) → UnknownAt names text k → ⊥
MissingIs names text (Some k) = FirstUnknown names text k

abbrev pub DeepIs : List ℕ → Bool → Type 0
DeepIs text true = Deep text
DeepIs text false = Deep text → ⊥
