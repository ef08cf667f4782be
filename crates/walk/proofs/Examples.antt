-- The settled examples S2, S3, S4 of document 01, and what tells the walk's orders apart, computed by the definition. Larger runs: crate walk_runs.
-- Assumes nothing.
use mathlib.Core.Path.{◌≡◌, refl, sym, subst}
use mathlib.Core.Logic.{◌⊎◌, inl, inr}
use mathlib.Core.List.Memᴰ
use mathlib.Core.List.{List, [], ◌∷◌}
use Prim.Native.Nat.{ℕ, zero, suc, ◌≤◌, ◌<◌}
use native.Mathlib.Omega.{arith}
use lib.ListN.{length}
use Rattle.words.specs.Word.{width, bit, Wf}
use Rattle.words.proofs.At.{lt-wf}
use Rattle.sequence.specs.Operators.{Unary, Binary, decode}
use Rattle.formula.specs.Nodes.{Node}
use Rattle.walk.specs.Walk.{Candidate, WalkState, found, full, none, tally, going, ended, of_size, left_sizes, finish, orders, unary_candidates, pairs, layer, known, judge}
use Rattle.walk.specs.Walk.{consider, through, after, walk}
use Rattle.rules.specs.Lists.{each, count}
use Rattle.rules.specs.Limits.{most_size, most_room}
use Rattle.walk.specs.Rows.{word_where, some_of, all_of, unary_row, binary_row, constant_row}
use Rattle.walk.specs.Input.{Input, Passes, same_rows, every, separating, search, input_of}
use Rattle.session.specs.Recording.{mark_of, length_of, word_of}
use Rattle.walk.specs.Kept.{begun, go_on}
use Rattle.walk.specs.Promises.{NoneBelow, FoundAs, Full}
use Rattle.walk.specs.Cut.{more, over, settle, start, step, turn}
use Rattle.walk.proofs.Promises.{found-smallest, none-means-none, full-needs-room}

abbrev node : ℕ → ℕ → ℕ → ℕ → Node
node c l r s = record { code = c; left = l; right = r; size = s }

-- a formula at its place: node and matrix
abbrev at : ℕ → ℕ → ℕ → ℕ → List ℕ → Candidate (List ℕ)
at c l r s x = record { node = node c l r s; matrix = x }

-- the ending's numbers (1 found and the root node; 2 none; 3 full and its size), then how many were tried, kept and dropped
abbrev brief : WalkState (List ℕ) → List ℕ
brief (going k n) = []
brief (ended (found r) k n) = 1 ∷ r.code ∷ r.left ∷ r.right ∷ r.size ∷ n.tried ∷ length k ∷ n.dropped ∷ []
brief (ended none k n) = 2 ∷ n.tried ∷ length k ∷ n.dropped ∷ []
brief (ended (full s) k n) = 3 ∷ s ∷ n.tried ∷ length k ∷ n.dropped ∷ []

-- ---- S2: "two sessions of length 1, p = 1 in both, marks 1 and 0, only `!`"

abbrev s2 : ℕ → ℕ → Input
s2 bound room = input_of 2 1 bound room 0 (1 ∷ 0 ∷ []) (1 ∷ 1 ∷ []) (1 ∷ 1 ∷ []) (0 ∷ []) []

-- "B = 2 gives none, tried 2, kept 2"
s2-none : search (s2 2 4096) ≡ ended none (at 16 0 0 1 (1 ∷ 1 ∷ []) ∷ at 0 0 0 2 (0 ∷ 0 ∷ []) ∷ []) (tally 2 0)
unfolding each count of_size left_sizes finish orders unary_candidates pairs layer known judge consider through after walk word_where some_of all_of unary_row
    binary_row constant_row same_rows every separating bit decode
s2-none = refl

-- "with C = 1 full at size 2, tried 2, kept 1"
s2-full : search (s2 2 1) ≡ ended (full 2) (at 16 0 0 1 (1 ∷ 1 ∷ []) ∷ []) (tally 2 0)
unfolding each count of_size left_sizes finish orders unary_candidates pairs layer known judge consider through after walk word_where some_of all_of unary_row
    binary_row constant_row same_rows every separating bit decode
s2-full = refl

-- "B = 3 and C = 2 gives none, tried 3 (a duplicate needs no place)"
s2-duplicate : search (s2 3 2) ≡ ended none (at 16 0 0 1 (1 ∷ 1 ∷ []) ∷ at 0 0 0 2 (0 ∷ 0 ∷ []) ∷ []) (tally 3 1)
unfolding each count of_size left_sizes finish orders unary_candidates pairs layer known judge consider through after walk word_where some_of all_of unary_row
    binary_row constant_row same_rows every separating bit decode
s2-duplicate = refl

-- it passes the checks, so the theorems speak of it
two : (P : ℕ → Type 0) → P 0 → P 1 → (j : ℕ) → j < 2 → P j
two P a b zero h = a
two P a b (suc zero) h = b
two P a b (suc (suc j)) h = absurd (omega arith)

s2-passes : (bound room : ℕ) → (1 ≤ bound) × (bound ≤ most_size) → (1 ≤ room) × (room ≤ most_room) → Passes (s2 bound room)
s2-passes bound room hb hr = record {
  sessions-in = (omega arith, omega arith);
  propositions-in = (omega arith, omega arith);
  bound-in = hb;
  room_in = hr;
  constants-in = inl refl;
  marks-there = omega arith;
  lengths-there = omega arith;
  words-there = omega arith;
  well-formed = λ j p h l.
      let e : p ≡ 0 = omega arith in
      subst (λ (p : ℕ). Wf (length_of (s2 bound room).recording j) (word_of (s2 bound room).recording j p)) (sym e)
      (two (λ (j : ℕ). Wf (length_of (s2 bound room).recording j) (word_of (s2 bound room).recording j 0)) (lt-wf (omega arith) (omega arith)) (lt-wf (omega arith) (omega arith)) j h);
  short = two (λ (j : ℕ). length_of (s2 bound room).recording j ≤ width) (omega arith) (omega arith);
  marks-in = two (λ (j : ℕ). (mark_of (s2 bound room).recording j ≡ 0) ⊎ (mark_of (s2 bound room).recording j ≡ 1)) (inr refl) (inl refl);
  unary-in = λ c m. (Unary.not, sym (Memᴰ.eq_of_singleton m));
  unary-once = (Memᴰ.not-nil, tt);
  binary-in = λ c m. absurd (Memᴰ.not-nil m);
  binary-once = tt;
}

-- no formula of size 1 or 2 tells the two sessions apart
s2-nothing : NoneBelow (s2 2 4096) 3
s2-nothing = none-means-none (s2 2 4096) (s2-passes 2 4096 (omega arith, omega arith) (omega arith, omega arith)) _ _ s2-none

-- there are two formulas of size 1 or 2 that are not alike, so one place is too few
s2-two : Full (s2 2 1) 2 (at 16 0 0 1 (1 ∷ 1 ∷ []) ∷ [])
s2-two = full-needs-room (s2 2 1) (s2-passes 2 1 (omega arith, omega arith) (omega arith, omega arith)) 2 _ _ s2-full

-- cut after its first candidate the walk stands at size 2, before the first of its candidates; one candidate more, and none is left
s2-cut : go_on (s2 2 4096) 1 (begun (s2 2 4096)) ≡ more 2 0 (at 16 0 0 1 (1 ∷ 1 ∷ []) ∷ []) (tally 1 0)
unfolding each count of_size left_sizes finish orders unary_candidates pairs layer known judge consider through after walk word_where some_of all_of unary_row
    binary_row constant_row same_rows every separating bit settle start step turn decode
s2-cut = refl

s2-over : go_on (s2 2 4096) 1 (more 2 0 (at 16 0 0 1 (1 ∷ 1 ∷ []) ∷ []) (tally 1 0)) ≡ over none (at 16 0 0 1 (1 ∷ 1 ∷ []) ∷ at 0 0 0 2 (0 ∷ 0 ∷ []) ∷ []) (tally 2 0)
unfolding each count of_size left_sizes finish orders unary_candidates pairs layer known judge consider through after walk word_where some_of all_of unary_row
    binary_row constant_row same_rows every separating bit settle start step turn decode
s2-over = refl

-- ---- S3: "only `U`, p = 3, q = 4, mark 1; p = 1, q = 4, mark 0; length 3, B = 3: `(p) U (q)`, tried 5, kept 2"

abbrev s3 : Input
s3 = input_of 2 2 3 4096 0 (1 ∷ 0 ∷ []) (3 ∷ 3 ∷ []) (3 ∷ 4 ∷ 1 ∷ 4 ∷ []) [] (7 ∷ [])

s3-found : search s3 ≡ ended (found (node 7 0 1 3)) (at 16 0 0 1 (3 ∷ 1 ∷ []) ∷ at 16 1 0 1 (4 ∷ 4 ∷ []) ∷ []) (tally 5 2)
unfolding each count of_size left_sizes finish orders unary_candidates pairs layer known judge consider through after walk word_where some_of all_of unary_row
    binary_row constant_row same_rows every separating bit decode
s3-found = refl

-- it passes the checks, so the theorem speaks of it: `(p) U (q)` separates, and nothing smaller does
s3-passes : Passes s3
s3-passes = record {
  sessions-in = (omega arith, omega arith);
  propositions-in = (omega arith, omega arith);
  bound-in = (omega arith, omega arith);
  room_in = (omega arith, omega arith);
  constants-in = inl refl;
  marks-there = omega arith;
  lengths-there = omega arith;
  words-there = omega arith;
  well-formed = λ j p h l.
      two (λ (j : ℕ). Wf (length_of s3.recording j) (word_of s3.recording j p))
      (two (λ (p : ℕ). Wf 3 (word_of s3.recording 0 p)) (lt-wf (omega arith) (omega arith)) (lt-wf (omega arith) (omega arith)) p l)
      (two (λ (p : ℕ). Wf 3 (word_of s3.recording 1 p)) (lt-wf (omega arith) (omega arith)) (lt-wf (omega arith) (omega arith)) p l) j h;
  short = two (λ (j : ℕ). length_of s3.recording j ≤ width) (omega arith) (omega arith);
  marks-in = two (λ (j : ℕ). (mark_of s3.recording j ≡ 0) ⊎ (mark_of s3.recording j ≡ 1)) (inr refl) (inl refl);
  unary-in = λ c m. absurd (Memᴰ.not-nil m);
  unary-once = tt;
  binary-in = λ c m. (Binary.until, sym (Memᴰ.eq_of_singleton m));
  binary-once = (Memᴰ.not-nil, tt);
}

s3-smallest : FoundAs s3 (node 7 0 1 3) (at 16 0 0 1 (3 ∷ 1 ∷ []) ∷ at 16 1 0 1 (4 ∷ 4 ∷ []) ∷ [])
s3-smallest = found-smallest s3 s3-passes (node 7 0 1 3) (at 16 0 0 1 (3 ∷ 1 ∷ []) ∷ at 16 1 0 1 (4 ∷ 4 ∷ []) ∷ []) _ s3-found

-- ---- S4: "one empty session, mark 1, p, all operators", as document 02, E4, amends it

abbrev s4 : ℕ → ℕ → Input
s4 mark bound = input_of 1 1 bound 4096 0 (mark ∷ []) (0 ∷ []) (0 ∷ []) (0 ∷ 1 ∷ 2 ∷ 3 ∷ 4 ∷ []) (5 ∷ 6 ∷ 7 ∷ 8 ∷ 9 ∷ 10 ∷ [])

-- "S4 with mark 1 becomes found `! (p)`, tried 2, kept 1", whatever the bound from 2 on
s4-found : search (s4 1 2) ≡ ended (found (node 0 0 0 2)) (at 16 0 0 1 (0 ∷ []) ∷ []) (tally 2 0)
unfolding each count of_size left_sizes finish orders unary_candidates pairs layer known judge consider through after walk word_where some_of all_of unary_row
    binary_row constant_row same_rows every separating bit decode
s4-found = refl

s4-larger : search (s4 1 3) ≡ ended (found (node 0 0 0 2)) (at 16 0 0 1 (0 ∷ []) ∷ []) (tally 2 0)
unfolding each count of_size left_sizes finish orders unary_candidates pairs layer known judge consider through after walk word_where some_of all_of unary_row
    binary_row constant_row same_rows every separating bit decode
s4-larger = refl

-- "Mark 0: found p, tried 1, kept 0."
s4-bad : search (s4 0 3) ≡ ended (found (node 16 0 0 1)) [] (tally 1 0)
unfolding each count of_size left_sizes finish orders unary_candidates pairs layer known judge consider through after walk word_where some_of all_of unary_row
    binary_row constant_row same_rows every separating bit decode
s4-bad = refl

-- an empty session beside one of one snapshot, at which p holds: at the empty one `X[!] (p)` and `F (p)` are not accepted, `X (p)` and `! (p)` are
abbrev beside : Input
beside = input_of 2 1 2 4096 0 (1 ∷ 0 ∷ []) (0 ∷ 1 ∷ []) (0 ∷ 1 ∷ []) (2 ∷ 3 ∷ 1 ∷ 0 ∷ []) []

beside-found : search beside ≡ ended (found (node 0 0 0 2)) (at 16 0 0 1 (0 ∷ 1 ∷ []) ∷ at 2 0 0 2 (0 ∷ 0 ∷ []) ∷ at 1 0 0 2 (1 ∷ 1 ∷ []) ∷ []) (tally 5 1)
unfolding each count of_size left_sizes finish orders unary_candidates pairs layer known judge consider through after walk word_where some_of all_of unary_row
    binary_row constant_row same_rows every separating bit decode
beside-found = refl

-- bit 0 of an empty session counts in the duplicate test: p and `G (p)` differ there alone, and both are kept
abbrev apart : Input
apart = input_of 2 1 2 4096 1 (0 ∷ 1 ∷ []) (0 ∷ 1 ∷ []) (0 ∷ 0 ∷ []) (4 ∷ []) []

apart_none : search apart ≡ ended none (at 16 0 0 1 (0 ∷ 0 ∷ []) ∷ at 18 0 0 1 (1 ∷ 1 ∷ []) ∷ at 4 0 0 2 (1 ∷ 0 ∷ []) ∷ []) (tally 5 2)
unfolding each count of_size left_sizes finish orders unary_candidates pairs layer known judge consider through after walk word_where some_of all_of unary_row
    binary_row constant_row same_rows every separating bit decode
apart_none = refl

-- ---- constants: "propositions in order, then, if constants are asked for, false, then true", and after them `G` and `X`, in the given order

abbrev asked : Input
asked = input_of 2 1 2 4096 1 (1 ∷ 0 ∷ []) (2 ∷ 2 ∷ []) (1 ∷ 1 ∷ []) (4 ∷ 1 ∷ []) []

asked-none : search asked ≡ ended none
    (at 16 0 0 1 (1 ∷ 1 ∷ []) ∷ at 17 0 0 1 (0 ∷ 0 ∷ []) ∷ at 18 0 0 1 (3 ∷ 3 ∷ []) ∷ at 1 0 0 2 (2 ∷ 2 ∷ []) ∷ []) (tally 9 5)
unfolding each count of_size left_sizes finish orders unary_candidates pairs layer known judge consider through after walk word_where some_of all_of unary_row
    binary_row constant_row same_rows every separating bit decode
asked-none = refl

-- ---- the order of the loops over the left formulas, the right ones and the operators: with two of them exchanged the answer is another

abbrev nested : Input
nested = input_of 2 2 4 10 0 (1 ∷ 0 ∷ []) (2 ∷ 2 ∷ []) (2 ∷ 0 ∷ 3 ∷ 1 ∷ []) (2 ∷ 1 ∷ []) (5 ∷ 9 ∷ [])

nested-found : search nested ≡ ended (found (node 9 0 4 4))
    (at 16 0 0 1 (2 ∷ 3 ∷ []) ∷ at 16 1 0 1 (0 ∷ 1 ∷ []) ∷ at 2 0 0 2 (1 ∷ 1 ∷ []) ∷ at 1 0 0 2 (3 ∷ 3 ∷ []) ∷ at 2 1 0 2 (0 ∷ 0 ∷ []) ∷ at 1 1 0 2 (2 ∷ 2 ∷ []) ∷ []) (tally 34 27)
unfolding each count of_size left_sizes finish orders unary_candidates pairs layer known judge consider through after walk word_where some_of all_of unary_row
    binary_row constant_row same_rows every separating bit decode
nested-found = refl

-- ---- the left sizes rise, and an operator that commutes has the left formula in its left field: with the sizes falling, or the fields
-- exchanged, the answer is another

abbrev rising : Input
rising = input_of 3 1 5 40 0 (0 ∷ 0 ∷ 1 ∷ []) (3 ∷ 3 ∷ 3 ∷ []) (4 ∷ 3 ∷ 0 ∷ []) (3 ∷ 4 ∷ []) (10 ∷ [])

rising-found : brief (search rising) ≡ 1 ∷ 10 ∷ 0 ∷ 3 ∷ 5 ∷ 19 ∷ 7 ∷ 11 ∷ []
unfolding each count of_size left_sizes finish orders unary_candidates pairs layer known judge consider through after walk word_where some_of all_of unary_row
    binary_row constant_row same_rows every separating bit decode
rising-found = refl

-- ---- FOUND before FULL: one place, which the first proposition takes, and the second, which separates, needs none

abbrev narrow : Input
narrow = input_of 1 2 1 1 0 (1 ∷ []) (1 ∷ []) (0 ∷ 1 ∷ []) [] []

narrow-found : search narrow ≡ ended (found (node 16 1 0 1)) (at 16 0 0 1 (0 ∷ []) ∷ []) (tally 2 0)
unfolding each count of_size left_sizes finish orders unary_candidates pairs layer known judge consider through after walk word_where some_of all_of unary_row
    binary_row constant_row same_rows every separating bit decode
narrow-found = refl
