-- scarfpylon_check: what it returns and leaves in `out`, for every input.
-- Assumes nothing.
use Rattle.std.specs.Prelude.{◌≡◌, List, [], ◌∷◌, ℕ, Result}
use Rattle.rules.specs.declared.refusal.Refusal.{Refusal}
use Rattle.rules.specs.Refusals.{Row, Decided}
use Rattle.formula.specs.Nodes.{Node}
use Rattle.session.specs.Recording.{Recording}
use Rattle.verdict.specs.declared.Verdict.{Verdict}
use Rattle.verdict.specs.Check.{said_verdict, check_rows_with, CheckAnswer}
use Rattle.out.specs.Out.{out_short, written, said_words}

module _ (i : Recording) (k : List Node) (root : Node) (old : List ℕ) where
  -- the check's rows, with that of `out` "at the place that 3 has"
  abbrev pub out_check_rows : List Row
  out_check_rows = check_rows_with (out_short old ∷ []) i k root

  -- the rows decide; "a refusal writes nothing"; else "out = 1 (separates) | 0, first session that disagrees", by the check's verdict
  pub record CheckDone (returned : ℕ) (new : List ℕ) : Type 0 where
    pub number : Decided out_check_rows returned
    pub refused : (returned ≡ 0 → ⊥) → new ≡ old
    pub passed : returned ≡ 0 → (v : Result Verdict Refusal) × CheckAnswer i k root (said_verdict v) × (new ≡ written (said_words (said_verdict v)) old)
