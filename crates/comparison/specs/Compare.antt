-- A matrix against the kept ones: what `compare` and `known_at` answer, for every input.
-- Assumes nothing.
use Rattle.std.specs.Prelude.{◌≡◌, ◌⊎◌, List, [], ◌∷◌, ◌++◌, ℕ, ◌+◌, ◌*◌, ◌≤◌, ◌<◌, length, get_or, Option, Some, None, Result, Ok, Err}
use Rattle.rules.specs.Limits.{most_sessions, most_room, Outside}
use Rattle.rules.specs.declared.kinds.Place.{Place}
use Rattle.rules.specs.declared.refusal.Refusal.{Refusal}
use Rattle.rules.specs.Refusals.{Row, Decided, refusal_number}
use Rattle.rules.specs.Answers.{Said}
use Rattle.comparison.specs.declared.Compared.{Compared}
use Rattle.comparison.specs.declared.Compared.TheVariants.{Equal, Differs}

-- the matrix at a place is equal in the rows below n
abbrev pub Same : ℕ → List ℕ → List ℕ → ℕ → ℕ → Type 0
Same r matrices rows place n = (j : ℕ) → j < n → get_or rows j 0 ≡ get_or matrices (place * r + j) 0

-- "for an unequal pair, the first session that differs", its number counted from 0
pub record FirstDiffers (r : ℕ) (matrices rows : List ℕ) (place j : ℕ) : Type 0 where
  pub there : j < r
  pub differs : get_or rows j 0 ≡ get_or matrices (place * r + j) 0 → ⊥
  pub before : Same r matrices rows place j

-- the answer in document 01's terms, with the values of the C boundary: 0 with 1 and the place, or with 0 and the session's number; or a refusal's
-- number alone
abbrev pub equal_said : ℕ → Said
equal_said place = record { number = 0; values = 1 ∷ place ∷ [] }

abbrev pub differs_said : ℕ → Said
differs_said j = record { number = 0; values = 0 ∷ j ∷ [] }

abbrev pub said_compared : Result Compared Refusal → Said
said_compared (Ok (Equal p)) = equal_said p.0
said_compared (Ok (Differs j)) = differs_said j.0
said_compared (Err refusal) = record { number = refusal_number refusal; values = [] }

module _ (r place : ℕ) (matrices rows : List ℕ) where
  -- "1: r .. outside its numbers"
  abbrev pub outside_sessions : Row
  outside_sessions = record { number = 1; given = Outside 1 most_sessions r }

  -- "3 (matrices below (place + 1) x r, words below r ..)"
  abbrev pub no_matrix : Row
  no_matrix = record { number = 3; given = (length matrices < (place + 1) * r) ⊎ (length rows < r) }

  -- 1 and 3 refuse; a caller that is lent a slice more has a row of number 3 of its own
  abbrev pub compare_rows_with : List Row → List Row
  compare_rows_with own = outside_sessions ∷ (own ++ (no_matrix ∷ []))

  -- "The comparison of matrices answers the equal kept formula's place or, for an unequal pair, the first session that differs."
  abbrev pub CompareOutcome : Said → Type 0
  CompareOutcome s = (Same r matrices rows place r × (s ≡ equal_said place)) ⊎ ((j : ℕ) × FirstDiffers r matrices rows place j × (s ≡ differs_said j))

  -- the first row that is given decides the number; "A refusal carries only its number"; else the rows decide
  pub record Compares (s : Said) : Type 0 where
    pub number : Decided (compare_rows_with []) s.number
    pub refused : (s.number ≡ 0 → ⊥) → s.values ≡ []
    pub passed : s.number ≡ 0 → CompareOutcome s

-- there are r rows, and so many matrices of r rows
pub record KnownAsk (r : ℕ) (matrices rows : List ℕ) (kept : ℕ) : Type 0 where
  pub sessions-in : r ≤ most_sessions
  pub kept_in : kept ≤ most_room
  pub rows-there : r ≤ length rows
  pub matrices-there : kept * r ≤ length matrices

-- "its matrix equals a kept one in every row": the first place with an equal one; none where there is none, or not so many matrices
abbrev pub KnownAnswer : ℕ → List ℕ → List ℕ → ℕ → Option Place → Type 0
KnownAnswer r matrices rows kept (Some p) =
    KnownAsk r matrices rows kept × (p.0 < kept) × Same r matrices rows p.0 r × ((q : ℕ) → q < p.0 → Same r matrices rows q r → ⊥)
KnownAnswer r matrices rows kept None = KnownAsk r matrices rows kept → (p : ℕ) → p < kept → Same r matrices rows p r → ⊥
