-- The cursors at which a split's candidates stand, in the order of document 01, from any cursor on; the candidate at each; and what a step says.
-- Every loop that a cursor stands in is a `resume`: what is left of its first turn, and the other turns whole.
-- Assumes nothing.
use Rattle.std.specs.Prelude.{◌≡◌, Bool, true, false, cond, not, ◌&&◌, List, [], ◌∷◌, ◌++◌, ℕ, zero, suc, ◌+◌, ◌-◌, ◌<◌, length, get_or, eqb, ltb, Option, None, Some}
use Rattle.rules.specs.Lists.{each, count}
use Rattle.sequence.specs.Operators.{binary_code, commutes, binary_of}
use Rattle.split.specs.declared.Cursor.{Cursor}
use Rattle.split.specs.declared.Part.{Part}
use Rattle.split.specs.declared.Candidate.{Candidate}

-- a candidate's code and fields: "unused fields are 0, and a proposition's number is its left field"
pub record Cand : Type 0 where
  pub code : ℕ
  pub left : ℕ
  pub right : ℕ

abbrev pub cand : ℕ → ℕ → ℕ → Cand
cand c l r = record { code = c; left = l; right = r }

abbrev pub cursor : ℕ → ℕ → ℕ → ℕ → Bool → Cursor
cursor i l q o second = record { split = i; left = l; right = q; operator = o; second = second }

-- a step that tells a candidate and the cursor after it
abbrev pub candidate_of : Cand → Cursor → Candidate
candidate_of c next = record { code = c.code; left = record { 0 = c.left }; right = record { 0 = c.right }; next = next }

abbrev pub told : Cand → Cursor → Option Candidate
told c next = Some (candidate_of c next)

-- the numbers from a to before b
unfoldable pub range : ℕ → ℕ → List ℕ
range a b = count a (b - a)

-- "commuting mark": that of the binary operator with the code; no other code has one
unfoldable pub commuting : ℕ → Bool
commuting c = eqb (binary_code (binary_of c)) c && commutes (binary_of c)

-- a loop over the numbers from a to before b, of whose first turn g is left: g of a, and f of each of the others
unfoldable pub resume : {A : Type 0} → (ℕ → List A) → (ℕ → List A) → ℕ → ℕ → List A
resume g f a b = cond (ltb a b) (g a ++ each (range (a + 1) b) f) []

-- an operator over a pair of places comes twice where it doesn't commute; split 0 has the unary ones, which come once
abbrev pub twice : ℕ → ℕ → Bool
twice zero c = false
twice (suc i) c = not (commuting c)

-- ---- a split i, over the operators with these codes

module _ (codes : List ℕ) where
  abbrev pub code_at : ℕ → ℕ
  code_at o = get_or codes o 0

  -- the operator at position o over places l and q: "op(l, q), and if it doesn't commute, op(q, l)"
  unfoldable pub both : ℕ → ℕ → ℕ → ℕ → List Cursor
  both i l q o = cond (twice i (code_at o)) (cursor i l q o false ∷ (cursor i l q o true ∷ [])) (cursor i l q o false ∷ [])

  -- "for each .. operator in the given order"
  abbrev pub one_row : ℕ → ℕ → ℕ → List Cursor
  one_row i l q = each (range 0 (length codes)) (both i l q)

  -- "for each kept q"
  abbrev pub column : ℕ → ℕ → ℕ → ℕ → List Cursor
  column i from to l = each (range from to) (one_row i l)

  -- what is left of each from a cursor on; a mark of a second order where there is none is not looked at
  unfoldable pub both_from : Cursor → ℕ → ℕ → ℕ → List Cursor
  both_from at l q o =
      let i = at.split in
      cond (twice i (code_at o)) (cond at.second (cursor i l q o true ∷ []) (both i l q o)) (cursor i l q o false ∷ [])

  abbrev pub row_from : Cursor → ℕ → ℕ → List Cursor
  row_from at l q = resume (both_from at l q) (both at.split l q) at.operator (length codes)

  abbrev pub column_from : ℕ → Cursor → ℕ → List Cursor
  column_from to at l = resume (row_from at l) (one_row at.split l) at.right to

  -- "each kept l"
  unfoldable pub part_from : ℕ → ℕ → ℕ → Cursor → List Cursor
  part_from end from to at = resume (column_from to at) (column at.split from to) at.left end

  -- the candidate at a cursor, and the cursor after it
  abbrev pub cand_in : Cursor → Cand
  cand_in at = cand (code_at at.operator) (cond at.second at.right at.left) (cond at.second at.left at.right)

  abbrev pub halfway : Cursor → Bool
  halfway at = cond at.second false (twice at.split (code_at at.operator))

  unfoldable pub after_in : Cursor → Cursor
  after_in at =
      cond (halfway at) (cursor at.split at.left at.right at.operator true) (cursor at.split at.left at.right (at.operator + 1) false)

-- ---- a step

-- of what F says is ahead of a cursor the step takes the first, of which P holds; or none is ahead
pub data Takes (F : Cursor → List Cursor) (cand : Cursor → Cand) (after : Cursor → Cursor) (P : Cursor → Type 0) (at : Cursor) (step : Option Candidate) : Type 0 where
  ends : F at ≡ [] → step ≡ None → Takes F cand after P at step
  takes : (here : Cursor) → F at ≡ here ∷ F (after here) → step ≡ told (cand here) (after here) → P here → Takes F cand after P at step

-- where the next one stands
pub record CursorStands (i : ℕ) (codes : List ℕ) (end to : ℕ) (at : Cursor) : Type 0 where
  pub split-is : at.split ≡ i
  pub left_in : at.left < end
  pub right-in : at.right < to
  pub operator-in : at.operator < length codes
  pub once : twice i (code_at codes at.operator) ≡ false → at.second ≡ false

abbrev pub InPart : List ℕ → Part → Cursor → Option Candidate → Type 0
InPart codes part at =
    Takes (part_from codes part.end part.from part.to) (cand_in codes) (after_in codes) (CursorStands at.split codes part.end part.to) at
