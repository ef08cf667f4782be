-- The report: what it answers and leaves in the lent text, for every input.
-- Assumes nothing.
use Rattle.std.specs.Prelude.{◌≡◌, List, [], ◌∷◌, ◌++◌, ℕ, ◌<◌, length, Result, Ok, Err}
use Rattle.rules.specs.declared.refusal.Refusal.{Refusal}
use Rattle.rules.specs.Refusals.{Row, Decided, refusal_number}
use Rattle.rules.specs.Answers.{Said, over}
use Rattle.session.specs.Recording.{Recording}
use Rattle.formula.specs.Nodes.{Node}
use Rattle.verdict.specs.Check.{check_rows}
use Rattle.report.specs.Lines.{ReportText}

-- the answer in document 01's terms: 0 with the text's length, or a refusal's number alone
abbrev pub said_report : Result ℕ Refusal → Said
said_report (Ok n) = record { number = 0; values = n ∷ [] }
said_report (Err refusal) = record { number = refusal_number refusal; values = [] }

module _ (i : Recording) (k : List Node) (root : Node) (old : List ℕ) where
  -- "and last 3 for text room too short": shorter than the report, its last newline counted
  abbrev pub short_text : Row
  short_text = record { number = 3; given = (out : List ℕ) × ReportText i k root out × (length old < length out) }

  -- "It takes and refuses what the check does, in that order, and last 3". A caller that is lent a slice more has a row of number 3 of its own, which
  -- stands with this one; which of them is given first can't be seen
  abbrev pub report_rows_with : List Row → List Row
  report_rows_with own = check_rows i k root ++ (own ++ (short_text ∷ []))

  abbrev pub report_rows : List Row
  report_rows = report_rows_with []

  -- the first row that is given decides the number; "A refusal carries only its number .. writes nothing"; else the report stands at the start of
  -- the text, and the rest of it stays
  pub record Reports (s : Said) (new : List ℕ) : Type 0 where
    pub number : Decided report_rows s.number
    pub refused : (s.number ≡ 0 → ⊥) → (s.values ≡ []) × (new ≡ old)
    pub passed : s.number ≡ 0 → (out : List ℕ) × ReportText i k root out × (s.values ≡ length out ∷ []) × (new ≡ over out old)
