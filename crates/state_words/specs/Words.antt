-- The words of a state (docs/DECISIONS.md, include/scarfpylon.h): 0 size, 1 kept, 2 tried, 3 left place, 4 right place, 5 operator position (at size 1 the
-- position in the list of leaves; else in the list that is being gone through); words 6 to 15 are ours, and no value of them is refused.
-- Assumes nothing.
use Rattle.std.specs.Prelude.{Bool, true, false, cond, List, [], ◌∷◌, ◌++◌, ℕ, ◌%◌, ◌<◌, eqb, get_or}
use Rattle.formula.specs.declared.kinds.Node.{Node}
use Rattle.split.specs.declared.Cursor.{Cursor}
use Rattle.counting.specs.declared.Counts.{Counts}
use Rattle.state.specs.declared.State.{State}
use Rattle.state.specs.declared.End.{End}
use Rattle.state.specs.Ends.{end_number}

-- "a fresh state into its first 16 words"
abbrev pub state_words : ℕ
state_words = 16

-- ---- how a state is written

abbrev pub mark : Bool → ℕ
mark true = 1
mark false = 0

-- "0 size, 1 kept, 2 tried, 3 left place, 4 right place, 5 operator position"; ours are 6 the split, 7 whether an operator's first order is done
abbrev pub first_words : ℕ → Counts → Cursor → List ℕ
first_words size counts at = size ∷ counts.kept ∷ counts.tried ∷ at.left ∷ at.right ∷ at.operator ∷ at.split ∷ mark at.second ∷ []

-- 8 the end (0 none, 1 FOUND, 2 NONE, 3 FULL), 9 to 12 FOUND's root (code, left, right, size), 13 dropped; 14 and 15 are 0
abbrev pub last_words : End → Node → ℕ → List ℕ
last_words end root dropped = end_number end ∷ root.code ∷ root.left.0 ∷ root.right.0 ∷ root.size ∷ dropped ∷ 0 ∷ 0 ∷ []

abbrev pub words_of_state : State → List ℕ
words_of_state s = first_words s.size s.counts s.at ++ last_words s.end s.root s.counts.dropped

-- a root's fields are within their kinds, as those of every value of that type are
pub record Narrow (n : Node) : Type 0 where
  pub code : n.code < 256
  pub left : n.left.0 < 65536
  pub right : n.right.0 < 65536
  pub size : n.size < 256

-- ---- how any words are read: 0 to 6 and 13 as the numbers that they are; 7 is set by every number but 0; a word 8 above 3 is no end; of a word 9 or 12 the
-- lowest 8 bits count, of 10 and 11 the lowest 16; 14 and 15 are not looked at

abbrev pub marked : ℕ → Bool
marked w = cond (eqb w 0) false true

abbrev pub end_read : ℕ → End
end_read w = cond (eqb w 1) End.Found (cond (eqb w 2) End.None (cond (eqb w 3) End.Full End.More))

abbrev pub cursor_read : List ℕ → Cursor
cursor_read words = record {
  split = get_or words 6 0;
  left = get_or words 3 0;
  right = get_or words 4 0;
  operator = get_or words 5 0;
  second = marked (get_or words 7 0);
}

abbrev pub counts_read : List ℕ → Counts
counts_read words = record { tried = get_or words 2 0; kept = get_or words 1 0; dropped = get_or words 13 0 }

abbrev pub root_read : List ℕ → Node
root_read words = record {
  code = get_or words 9 0 % 256;
  left = record { 0 = get_or words 10 0 % 65536 };
  right = record { 0 = get_or words 11 0 % 65536 };
  size = get_or words 12 0 % 256;
}

abbrev pub state_read : List ℕ → State
state_read words = record {
  size = get_or words 0 0;
  at = cursor_read words;
  counts = counts_read words;
  end = end_read (get_or words 8 0);
  root = root_read words;
}
