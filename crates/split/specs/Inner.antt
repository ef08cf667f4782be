-- What the private functions promise each other. No public contract cites this.
-- Assumes nothing.
use Rattle.std.specs.Prelude.{false, cond, List, ℕ}
use Rattle.split.specs.declared.Cursor.{Cursor}
use Rattle.split.specs.Split.{cursor, twice, code_at}

-- where a cursor whose numbers are in range stands: a second order that there isn't is the first
abbrev pub stand : List ℕ → Cursor → Cursor
stand codes at =
    cursor at.split at.left at.right at.operator (cond (twice at.split (code_at codes at.operator)) at.second false)
