-- What private functions of this crate promise each other. No public contract cites this.
-- Assumes nothing.
use Rattle.std.specs.Prelude.{[], ◌∷◌, ℕ}
use Rattle.rules.specs.Refusals.{Decided}
use Rattle.session.specs.Data.{outside_numbers}
use Rattle.checks.specs.Refusals.{setting_wrong}
use Rattle.walk.specs.Input.{input_of}
use Rattle.out.specs.Unanswered.{no_answer}

abbrev pub SearchUnanswered : ℕ → ℕ → ℕ → ℕ → ℕ → ℕ → Type 0
SearchUnanswered r m bound room constants k = Decided (outside_numbers r m ∷ setting_wrong (input_of r m bound room constants [] [] [] [] []) ∷ no_answer ∷ []) k
