-- The masks. No public contract cites this.
-- Assumes nothing.
use Rattle.std.specs.Prelude.{◌≡◌, Bool, List, ℕ, length, replicate}
use Rattle.rules.specs.Limits.{most_sessions}
use Rattle.masks.specs.Masks.{MasksAnswer}

-- the masks of r sessions in a room for 32
pub record Masked (r : ℕ) (lengths masks : List ℕ) : Type 0 where
  pub long : length masks ≡ most_sessions
  pub done : Bool
  pub answer : MasksAnswer r lengths (replicate {A = ℕ} most_sessions 0) masks done
