-- What private functions of this crate promise each other. No public contract cites this.
-- Assumes nothing.
use Rattle.std.specs.Prelude.{[], ◌∷◌, ℕ}
use Rattle.rules.specs.Refusals.{Decided}
use Rattle.session.specs.Data.{outside_numbers}
use Rattle.checks.specs.Refusals.{setting_wrong}
use Rattle.walk.specs.Input.{input_of}
use Rattle.slices.specs.Slices.{budget_wrong}
use Rattle.out.specs.Unanswered.{no_answer}

abbrev pub ResumeUnanswered : ℕ → ℕ → ℕ → ℕ → ℕ → ℕ → ℕ → Type 0
ResumeUnanswered r m bound room constants budget k =
    Decided (outside_numbers r m ∷ setting_wrong (input_of r m bound room constants [] [] [] [] []) ∷ budget_wrong budget ∷ no_answer ∷ []) k
