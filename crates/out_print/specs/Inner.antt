-- What private functions of this crate promise each other. No public contract cites this.
-- Assumes nothing.
use Rattle.std.specs.Prelude.{◌≡◌, List, [], ◌∷◌, ℕ, length}
use Rattle.rules.specs.Refusals.{Decided}
use Rattle.reading.specs.Reading.{Got, got, bad}
use Rattle.formula.specs.Nodes.{Node}
use Rattle.formula.specs.Rule.{broken_list}
use Rattle.out.specs.Out.{broken_at}
use Rattle.out.specs.Unanswered.{no_answer}

abbrev pub PrintUnanswered : Got (List (List ℕ)) → List Node → Node → ℕ → Type 0
PrintUnanswered (bad o) k root returned = returned ≡ broken_at o
PrintUnanswered (got names next) k root returned = Decided (broken_list (length names) k root ∷ no_answer ∷ []) returned
