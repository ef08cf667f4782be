-- How private functions speak of what they write. No public contract cites this file, so nothing here has to be believed.
-- Assumes nothing.
use Rattle.std.specs.Prelude.{◌≡◌, List, Result, ℕ, ◌≤◌}
use Rattle.rules.specs.Limits.{most_bytes}
use Rattle.session.specs.Recording.{Recording}
use Rattle.formula.specs.Nodes.{Node, node_at}
use Rattle.verdict.specs.Check.{said_verdict, CheckAnswer}
use Rattle.verdict.specs.declared.Verdict.{Verdict}
use Rattle.rules.specs.declared.refusal.Refusal.{Refusal}
use Rattle.rules.specs.Refusals.{refusal_number}
use Rattle.reader.specs.declared.ParseError.{ParseError}
use Rattle.reader.specs.declared.ParseError.TheVariants.{Broken, Stops, Unknown, Refused}
use Rattle.writing.specs.Writing.{Wrote}
use Rattle.line.specs.Line.{refused_line, refused_at_line}
use Rattle.suspicion.specs.Caret.{pointed_lines}
use Rattle.suspicion.specs.Suspicion.{verdict_line, TypedSays}

abbrev pub Checked : Recording → List Node → ℕ → List ℕ → List ℕ → ℕ → Type 0
Checked i k at old new r = (v : Result Verdict Refusal) × CheckAnswer i k (node_at k at) (said_verdict v) × Wrote old 0 (verdict_line v) new r

-- an offset under which a caret stands is within what can be typed
pub record Unread (e : ParseError) : Type 0 where
  pub stops : (o : ℕ) → e ≡ Stops o → o ≤ most_bytes
  pub unknown : (o : ℕ) → e ≡ Unknown o → o ≤ most_bytes

-- the lines of a refusal
abbrev pub unread_lines : List ℕ → ParseError → List ℕ
unread_lines typed (Broken o) = refused_at_line 8 o
unread_lines typed (Stops o) = pointed_lines typed o 11
unread_lines typed (Unknown o) = pointed_lines typed o 13
unread_lines typed (Refused refusal) = refused_line (refusal_number refusal)

abbrev pub JudgedBy : List ℕ → List ℕ → Recording → List ℕ → List ℕ → ℕ → Type 0
JudgedBy typed names i old new r = (lines : List ℕ) × TypedSays typed names i lines × Wrote old 0 lines new r
