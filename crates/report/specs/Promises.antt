-- What is promised of reports: the statements of theorems, each proved under its name in proofs/.
-- Assumes nothing.
use Rattle.std.specs.Prelude.{◌≡◌, List, ℕ, zero, suc, ◌+◌, ◌*◌, ◌≤◌, length}
use Rattle.rules.specs.Limits.{most_size, most_sessions}
use Rattle.rules.specs.Refusals.{Decided}
use Rattle.writing.specs.Writing.{decimal}
use Rattle.session.specs.Recording.{Recording}
use Rattle.formula.specs.Nodes.{Node}
use Rattle.verdict.specs.Check.{check_rows}
use Rattle.report.specs.Lines.{ReportText}

-- what passes the check has one report (one-report, in proofs/Unique)
abbrev pub OneReport : Type 0
OneReport = (i : Recording) (k : List Node) (root : Node) (a b : List ℕ) → ReportText i k root a → ReportText i k root b → a ≡ b

-- the longest line of session j: its number, `root` or a place of at most four digits, two firsts of which one is `0` or `-`, a count of at most two
-- digits, four blanks and the newline
abbrev pub longest_line : ℕ → ℕ
longest_line j = 14 + length (decimal j)

-- a line for each node of a formula of the largest size, on each of n sessions
abbrev pub longest_of : ℕ → ℕ
longest_of zero = 0
longest_of (suc j) = longest_of j + most_size * longest_line j

-- the most bytes that a report can have: 15,562
abbrev pub longest_report : ℕ
longest_report = longest_of most_sessions

-- as a number
abbrev pub most_report : ℕ
most_report = 15562

-- so much text room suffices for any report (report-fits, in proofs/Length)
abbrev pub ReportFits : Type 0
ReportFits = (i : Recording) (k : List Node) (root : Node) (out : List ℕ) → Decided (check_rows i k root) 0 → ReportText i k root out → length out ≤ longest_report
