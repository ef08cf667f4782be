-- Larger runs of the walk, computed by the definition. Their figures are those that differential/walk_counts.py prints, which is written from the prose of
-- document 01 alone.
-- Assumes nothing.
use mathlib.Core.Path.{◌≡◌, refl}
use mathlib.Core.List.{List, [], ◌∷◌}
use Prim.Native.Nat.{ℕ}
use lib.ListN.{length}
use Rattle.words.specs.Word.{bit}
use Rattle.sequence.specs.Operators.{decode}
use Rattle.rules.specs.Lists.{each, count}
use Rattle.walk.specs.Walk.{WalkState, found, full, none, going, ended, of_size, left_sizes, finish, orders, unary_candidates, pairs, layer, known, judge, consider, through, after, walk}
use Rattle.walk.specs.Rows.{word_where, some_of, all_of, unary_row, binary_row, constant_row}
use Rattle.walk.specs.Input.{Input, same_rows, every, separating, search, input_of}

-- the ending's numbers (1 found and the root node; 2 none; 3 full and its size), then how many were tried, kept and dropped
abbrev brief : WalkState (List ℕ) → List ℕ
brief (going k n) = []
brief (ended (found r) k n) = 1 ∷ r.code ∷ r.left ∷ r.right ∷ r.size ∷ n.tried ∷ length k ∷ n.dropped ∷ []
brief (ended none k n) = 2 ∷ n.tried ∷ length k ∷ n.dropped ∷ []
brief (ended (full s) k n) = 3 ∷ s ∷ n.tried ∷ length k ∷ n.dropped ∷ []

-- one proposition, constants, all operators: no formula tells two equal sessions apart
abbrev equals : Input
equals = input_of 2 1 5 200 1 (1 ∷ 0 ∷ []) (2 ∷ 2 ∷ []) (1 ∷ 1 ∷ []) (0 ∷ 1 ∷ 2 ∷ 3 ∷ 4 ∷ []) (5 ∷ 6 ∷ 7 ∷ 8 ∷ 9 ∷ 10 ∷ [])

equals-none : brief (search equals) ≡ 2 ∷ 140 ∷ 4 ∷ 136 ∷ []
unfolding each count of_size left_sizes finish orders unary_candidates pairs layer known judge consider through after walk word_where some_of all_of unary_row
    binary_row constant_row same_rows every separating bit decode
equals-none = refl

-- two propositions, four sessions, all operators
abbrev four : ℕ → Input
four room = input_of 4 2 5 room 0 (1 ∷ 1 ∷ 0 ∷ 0 ∷ []) (3 ∷ 3 ∷ 3 ∷ 3 ∷ []) (5 ∷ 2 ∷ 1 ∷ 6 ∷ 5 ∷ 6 ∷ 0 ∷ 2 ∷ []) (0 ∷ 1 ∷ 2 ∷ 3 ∷ 4 ∷ []) (5 ∷ 6 ∷ 7 ∷ 8 ∷ 9 ∷ 10 ∷ [])

four-found : brief (search (four 200)) ≡ 1 ∷ 4 ∷ 82 ∷ 0 ∷ 5 ∷ 633 ∷ 164 ∷ 468 ∷ []
unfolding each count of_size left_sizes finish orders unary_candidates pairs layer known judge consider through after walk word_where some_of all_of unary_row
    binary_row constant_row same_rows every separating bit decode
four-found = refl

four-full : brief (search (four 20)) ≡ 3 ∷ 3 ∷ 25 ∷ 20 ∷ 4 ∷ []
unfolding each count of_size left_sizes finish orders unary_candidates pairs layer known judge consider through after walk word_where some_of all_of unary_row
    binary_row constant_row same_rows every separating bit decode
four-full = refl

-- constants, two unary and two binary operators, sessions of different lengths
abbrev three : Input
three = input_of 3 1 5 200 1 (1 ∷ 0 ∷ 0 ∷ []) (4 ∷ 4 ∷ 2 ∷ []) (9 ∷ 1 ∷ 1 ∷ []) (1 ∷ 4 ∷ []) (8 ∷ 7 ∷ [])

three-found : brief (search three) ≡ 1 ∷ 1 ∷ 8 ∷ 0 ∷ 4 ∷ 56 ∷ 11 ∷ 44 ∷ []
unfolding each count of_size left_sizes finish orders unary_candidates pairs layer known judge consider through after walk word_where some_of all_of unary_row
    binary_row constant_row same_rows every separating bit decode
three-found = refl
