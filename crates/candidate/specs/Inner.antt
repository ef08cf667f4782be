-- What the private function promises. No public contract cites this.
-- Assumes nothing.
use Rattle.std.specs.Prelude.{◌⊎◌, Bool, true, false, ℕ, ◌≤◌, ◌<◌}
use Rattle.rules.specs.Limits.{most_room}

-- so many are kept that there is no place for one more, or there is one
abbrev pub NoPlace : ℕ → ℕ → Bool → Type 0
NoPlace room count true = (room ≤ count) ⊎ (most_room ≤ count)
NoPlace room count false = (count < room) × (count < most_room)
