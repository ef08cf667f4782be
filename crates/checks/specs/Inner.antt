-- What the private test promises. No public contract cites this.
-- Assumes nothing.
use Rattle.std.specs.Prelude.{◌⊎◌, Bool, true, false, ℕ, ◌*◌, ◌≤◌, ◌<◌, length}
use Rattle.table.specs.Slices.{Cols}

abbrev pub RoomTold : ℕ → ℕ → Cols → Bool → Type 0
RoomTold r room t true =
    (room ≤ length t.codes) × (room ≤ length t.lefts) × (room ≤ length t.rights) × (room ≤ length t.sizes) × (room * r ≤ length t.matrices)
RoomTold r room t false =
    (length t.codes < room)
    ⊎ (length t.lefts < room)
    ⊎ (length t.rights < room)
    ⊎ (length t.sizes < room)
    ⊎ (length t.matrices < room * r)
