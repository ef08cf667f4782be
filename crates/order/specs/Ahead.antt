-- The cursors at which a size's candidates stand, in the order of document 01, from any cursor on; and the candidate at each.
-- Assumes nothing.
use Rattle.std.specs.Prelude.{false, cond, List, [], map, ℕ, zero, suc, ◌+◌, ◌-◌, ◌/◌, length, get_or, eqb, ltb}
use Rattle.rules.specs.Lists.{each}
use Rattle.split.specs.declared.Cursor.{Cursor}
use Rattle.split.specs.Split.{cursor, resume, column, part_from, cand_in, after_in, Cand, cand, range}
use Rattle.order.specs.Size.{Layer, leaf_cands, first_place}

abbrev pub leaf_cursor : ℕ → Cursor
leaf_cursor o = cursor 0 0 0 o false

-- split 0 has the unary operators, the others the binary ones
abbrev pub split_codes : List ℕ → List ℕ → ℕ → List ℕ
split_codes unary binary zero = unary
split_codes unary binary (suc i) = binary

-- the places of each split: in split 0 the left ones are of size s-1, and the right field is 0; in split i they are of sizes i and s-1-i
module _ (s : ℕ) (starts : List ℕ) where
  abbrev pub left_size : ℕ → ℕ
  left_size zero = s - 1
  left_size (suc i) = suc i

  abbrev pub left_start : ℕ → ℕ
  left_start i = first_place starts (left_size i)

  abbrev pub left_end : ℕ → ℕ
  left_end i = first_place starts (left_size i + 1)

  abbrev pub right_start : ℕ → ℕ
  right_start zero = 0
  right_start (suc i) = first_place starts (s - 1 - suc i)

  abbrev pub right_end : ℕ → ℕ
  right_end zero = 1
  right_end (suc i) = first_place starts (s - 1 - suc i + 1)

-- of the leaves: at size 1 the position in their list stands in the operator's field
unfoldable pub leaves_ahead : ℕ → ℕ → Cursor → List Cursor
leaves_ahead m constants at = map leaf_cursor (range at.operator (length (leaf_cands m constants)))

abbrev pub leaf_at : ℕ → ℕ → Cursor → Cand
leaf_at m constants at = get_or (leaf_cands m constants) at.operator (cand 0 0 0)

abbrev pub after_leaf : Cursor → Cursor
after_leaf at = leaf_cursor (at.operator + 1)

module _ (g : Layer) where
  abbrev pub codes_in : ℕ → List ℕ
  codes_in i = split_codes g.unary g.binary i

  abbrev pub split_cursors : ℕ → List Cursor
  split_cursors i =
      each (range (left_start g.size g.starts i) (left_end g.size g.starts i))
      (column (codes_in i) i (right_start g.size g.starts i) (right_end g.size g.starts i))

  abbrev pub part_ahead : Cursor → ℕ → List Cursor
  part_ahead at i = part_from (codes_in i) (left_end g.size g.starts i) (right_start g.size g.starts i) (right_end g.size g.starts i) at

  -- split 0 is "first every kept formula of size s-1 .., and for each the unary operators"; "Then i from 1 while i < ceil(s/2)"
  unfoldable pub parts_ahead : Cursor → List Cursor
  parts_ahead at = resume (part_ahead at) split_cursors at.split ((g.size + 1) / 2)

  -- THE CURSORS AHEAD, from any cursor on; none where `starts` does not reach the size
  unfoldable pub ahead : Cursor → List Cursor
  ahead at = cond (ltb g.size (length g.starts)) (cond (eqb g.size 1) (leaves_ahead g.propositions g.constants at) (parts_ahead at)) []

  -- the candidate at a cursor, and the cursor after it
  unfoldable pub candidate_at : Cursor → Cand
  candidate_at at = cond (eqb g.size 1) (leaf_at g.propositions g.constants at) (cand_in (codes_in at.split) at)

  unfoldable pub next_cursor : Cursor → Cursor
  next_cursor at = cond (eqb g.size 1) (after_leaf at) (after_in (codes_in at.split) at)

  -- THE CANDIDATES LEFT; those left at the first cursor are the size's (`rest-first`, in proofs/)
  unfoldable pub rest : Cursor → List Cand
  rest at = map candidate_at (ahead at)

-- "first every kept formula of size s-1": where size s begins
abbrev pub first : List ℕ → ℕ → Cursor
first starts s = cursor 0 (cond (ltb 1 s) (get_or starts (s - 1) 0) 0) 0 0 false

-- the cursor after j candidates of the size: its first one, or the cursor after the last of those j
unfoldable pub cursor_after : Layer → ℕ → Cursor
cursor_after g zero = first g.starts g.size
cursor_after g (suc j) = next_cursor g (get_or (ahead g (first g.starts g.size)) j (leaf_cursor 0))
