-- What the comparison with the kept matrices comes to in the walk's terms, for an input that passes the checks. Each is proved under its name in
-- proofs/Duplicates: known-is-known, known-by.
-- Assumes nothing.
use Rattle.std.specs.Prelude.{◌≡◌, Bool, true, false, List, ℕ, ◌≤◌, length, take, Option, Some, None}
use Rattle.rules.specs.declared.kinds.Place.{Place}
use Rattle.walk.specs.Walk.{Candidate, Ending, Tally, ended}
use Rattle.walk.specs.Walk as walk
use Rattle.walk.specs.Input.{Input, Passes, offer, search}
use Rattle.walk.specs.Kept.{Table}
use Rattle.walk.specs.Promises.{Drops, SuperfluousBy}
use Rattle.rows.specs.Formulas.{Stored}
use Rattle.comparison.specs.Compare.{KnownAnswer}

-- a place is answered where the walk knows the matrix
abbrev pub is_at : Option Place → Bool
is_at (Some p) = true
is_at None = false

abbrev pub KnownIsKnown : Type 0
KnownIsKnown = (i : Input) → Passes i → (k : Table) (matrices rows : List ℕ) → Stored i k matrices → length k ≤ i.room → i.recording.sessions ≤ length rows
    → (a : Option Place) → KnownAnswer i.recording.sessions matrices rows (length k) a → walk.known (offer i) (take i.recording.sessions rows) k ≡ is_at a

-- request E6's "Say which formula made a candidate superfluous": where the walk drops c, the comparison of its matrix with those kept so far answers
-- the place of the one formula that makes it superfluous (walk: dropped-by)
abbrev pub KnownBy : Type 0
KnownBy = (i : Input) → Passes i → (e : Ending) (k : Table) (n : Tally) → search i ≡ ended e k n → (before : Table) (c : Candidate (List ℕ)) (d : Drops i before c)
    → (matrices rows : List ℕ) → Stored i d.so_far matrices → i.recording.sessions ≤ length rows → take i.recording.sessions rows ≡ c.matrix
    → (a : Option Place) → KnownAnswer i.recording.sessions matrices rows (length d.so_far) a
    → (p : Place) × (a ≡ Some p) × SuperfluousBy k before c p.0
