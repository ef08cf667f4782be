-- What a step says, for every cursor.
-- Assumes nothing.
use Rattle.std.specs.Prelude.{◌≡◌, ◌⊎◌, cond, List, [], ◌∷◌, ℕ, ◌≤◌, ◌<◌, length, get_or, eqb, Option, None}
use Rattle.split.specs.declared.Cursor.{Cursor}
use Rattle.split.specs.declared.Candidate.{Candidate}
use Rattle.split.specs.Split.{Cand, told}
use Rattle.order.specs.Size.{Layer, leaf_cands, first_place}
use Rattle.order.specs.Ahead.{codes_in, ahead, candidate_at, next_cursor}

-- the code stands in the list
pub record CodeIn (codes : List ℕ) (c : ℕ) : Type 0 where
  pub position : ℕ
  pub within : position < length codes
  pub is : get_or codes position 0 ≡ c

-- the sizes up to this one begin in order
abbrev pub Rises : Layer → Type 0
Rises g = (t : ℕ) → t ≤ g.size → first_place g.starts t ≤ first_place g.starts g.size

-- a candidate with which no index is out of range: a proposition below m, a constant, or a listed operator over places that were kept when the size
-- began; unused fields are 0
pub data Safe (g : Layer) (c : Cand) : Type 0 where
  proposition : c.code ≡ 16 → c.left < g.propositions → c.right ≡ 0 → Safe g c
  constant : (c.code ≡ 17) ⊎ (c.code ≡ 18) → c.left ≡ 0 → c.right ≡ 0 → Safe g c
  unary : CodeIn g.unary c.code → c.left < first_place g.starts g.size → c.right ≡ 0 → Safe g c
  binary : CodeIn g.binary c.code → c.left < first_place g.starts g.size → c.right < first_place g.starts g.size → Safe g c

-- how long the list is that a cursor of this split goes through: at size 1 the leaves, else the unary operators (split 0) or the binary ones
abbrev pub list_long : Layer → ℕ → ℕ
list_long g i = cond (eqb g.size 1) (length (leaf_cands g.propositions g.constants)) (length (codes_in g i))

-- a cursor whose position is in its list or just past it, and whose places were kept when the size began
pub record CursorWithin (g : Layer) (at : Cursor) : Type 0 where
  pub operator-in : at.operator ≤ list_long g at.split
  pub left_in : at.left ≤ first_place g.starts g.size
  pub right-in : at.right ≤ first_place g.starts g.size

-- none is ahead, and the step says so; or `here` is next: the step tells its candidate and the cursor after it, from which on the others are ahead, and which is within
pub data Steps (g : Layer) (at : Cursor) (step : Option Candidate) : Type 0 where
  ends : ahead g at ≡ [] → step ≡ None → Steps g at step
  takes : (here : Cursor) → ahead g at ≡ here ∷ ahead g (next_cursor g here) → step ≡ told (candidate_at g here) (next_cursor g here) → (Rises g → Safe g (candidate_at g here)) → (Rises g
      → CursorWithin g (next_cursor g here))
      → Steps g at step
