-- What private functions of this crate promise each other. No public contract cites this.
-- Assumes nothing.
use Rattle.std.specs.Prelude.{List, [], ◌∷◌, ◌++◌, ℕ}
use Rattle.rules.specs.Refusals.{Decided}
use Rattle.session.specs.Recording.{Recording}
use Rattle.formula.specs.Nodes.{Node}
use Rattle.verdict.specs.Check.{check_rows}
use Rattle.out.specs.Unanswered.{no_answer}

-- what comes before the last 3 decides, and else 3
abbrev pub ReportUnanswered : Recording → List Node → Node → ℕ → Type 0
ReportUnanswered i k root returned = Decided (check_rows i k root ++ (no_answer ∷ [])) returned
