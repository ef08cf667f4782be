-- scarfpylon_report: what it returns and leaves in the lent text and in `out`, for every input.
-- Assumes nothing.
use Rattle.std.specs.Prelude.{◌≡◌, List, [], ◌∷◌, ℕ, Result}
use Rattle.rules.specs.declared.refusal.Refusal.{Refusal}
use Rattle.rules.specs.Refusals.{Decided}
use Rattle.session.specs.Recording.{Recording}
use Rattle.formula.specs.Nodes.{Node}
use Rattle.report.specs.Report.{said_report, report_rows_with, Reports}
use Rattle.out.specs.Out.{out_short, written, said_words}

-- "As check 1, 3, 4, 5, 6, 9, then 3 (text, out below 8)"; "a refusal writes nothing"; else "out[0] = bytes written", and the text holds the report
pub record ReportDone (i : Recording) (k : List Node) (root : Node) (text old : List ℕ) (returned : ℕ) (text' new : List ℕ) : Type 0 where
  pub number : Decided (report_rows_with i k root text (out_short old ∷ [])) returned
  pub refused : (returned ≡ 0 → ⊥) → (text' ≡ text) × (new ≡ old)
  pub passed : returned ≡ 0 → (a : Result ℕ Refusal) × Reports i k root text (said_report a) text' × (new ≡ written (said_words (said_report a)) old)
