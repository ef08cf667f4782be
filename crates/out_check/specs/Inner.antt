-- What private functions of this crate promise each other. No public contract cites this.
-- Assumes nothing.
use Rattle.std.specs.Prelude.{[], ◌∷◌, ℕ}
use Rattle.rules.specs.Refusals.{Decided}
use Rattle.session.specs.Data.{outside_numbers}
use Rattle.out.specs.Unanswered.{no_answer}

abbrev pub CheckUnanswered : ℕ → ℕ → ℕ → Type 0
CheckUnanswered r m k = Decided (outside_numbers r m ∷ no_answer ∷ []) k
