-- A matrix against the marks: what `agrees` answers, for every input.
-- Assumes nothing.
use Rattle.std.specs.Prelude.{Bool, ◌&&◌, List, ℕ, length, get_or, eqb, leb}
use Rattle.std.specs.Bool.{beq}
use Rattle.rules.specs.Limits.{most_sessions}
use Rattle.rules.specs.Lists.{count}
use Rattle.walk.specs.Rows.{accepts_row}
use Rattle.walk.specs.Input.{every}

-- session j accepts just if it is marked 1
abbrev pub agrees_at : List ℕ → List ℕ → ℕ → Bool
agrees_at marks rows j = beq (accepts_row (get_or rows j 0)) (eqb (get_or marks j 0) 1)

-- "its acceptance equals the marks": r sessions are there, and each agrees
unfoldable pub agreeing : ℕ → List ℕ → List ℕ → Bool
agreeing r marks rows = leb r most_sessions && leb r (length marks) && leb r (length rows) && every (count 0 r) (agrees_at marks rows)
