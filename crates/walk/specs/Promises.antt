-- What is promised of every answer of the walk, for every input that passes the checks. Each is proved under its name, in proofs/: found-smallest
-- and so on (Promises), larger-bound-same, found-stays (Steady), tried-is-position (Position), tried-adds-up, cut-adds-up, dropped-by (Dropped),
-- cut-resume (Resume), row-means (Reading), unary-row-only and binary-row-only (Rows), same-where-read (Same).
-- Assumes nothing.
use Rattle.std.specs.Prelude.{◌≡◌, ◌↔◌, ◌⊎◌, Bool, true, false, ℕ, suc, ◌+◌, ◌*◌, ◌≤◌, ◌<◌, length, take, get_or}
use mathlib.Core.List.{List, [], ◌∷◌, ◌++◌, map, foldl}
use Rattle.words.specs.Word.{At, places, Means}
use Rattle.sequence.specs.Operators.{Unary, Binary, unary_reading, binary_reading}
use Rattle.formula.specs.Formula.{Formula, size, Holds, Accepts, Separates, Offered}
use Rattle.rules.specs.Lists.{◌∈◌}
use Rattle.formula.specs.Empty.{OnEmpty}
use Rattle.formula.specs.Recorded.{marked_trace, marked_traces}
use Rattle.session.specs.Recording.{length_of}
use Rattle.formula.specs.Nodes.{Node, Spells, codes}
use Rattle.walk.specs.Walk.{Candidate, Ending, found, full, none, Tally, tally, one_tried, one_dropped, going, ended, kept, tried, matrix, left_sizes, consider, trail}
use Rattle.walk.specs.Rows.{unary_row, binary_row}
use Rattle.walk.specs.Input.{Input, Passes, language, row, separating, offer, search}
use Rattle.walk.specs.Cut.{Cut, more, over}
use Rattle.walk.specs.Kept.{Table, table_nodes, begun, go_on}

-- the same input but for bound and room
abbrev pub again : Input → ℕ → ℕ → Input
again i b c = record { recording = i.recording; bound = b; room = c; constants = i.constants; unary = i.unary; binary = i.binary }

module _ (i : Input) where
  -- ---- in terms of the reading

  -- no formula over what was offered that is smaller than s separates
  abbrev pub NoneBelow : ℕ → Type 0
  NoneBelow s = (t : Formula) → Offered (language i) t → size t < s → Separates (marked_traces i.recording) t → ⊥

  -- the two hold at the same places of every session
  abbrev pub Alike : Formula → Formula → Type 0
  Alike t u = (j p : ℕ) → j < i.recording.sessions → p < places (length_of i.recording j) → Holds (marked_trace i.recording j).trace t p ↔ Holds (marked_trace i.recording j).trace u p

  -- no two are alike
  abbrev pub Apart : List Formula → Type 0
  Apart [] = Unit {0}
  Apart (t ∷ ts) = ((u : Formula) → u ∈ ts → Alike t u → ⊥) × Apart ts

  -- ---- the answers

  -- "FOUND": the root node over the kept list is a formula that uses only what was offered, whose size is the size reported and at most B;
  -- it separates, and no smaller one does
  pub record FoundAs (root : Node) (k : Table) : Type 0 where
    pub formula : Formula
    pub spelled : Spells codes (table_nodes k) root formula
    pub offered : Offered (language i) formula
    pub sized : root.size ≡ size formula
    pub within : size formula ≤ i.bound
    pub separates : Separates (marked_traces i.recording) formula
    pub smallest : NoneBelow (size formula)

  -- with room c the walk keeps all of k and, at the place after them, a formula of size s
  pub record KeepsNext (s : ℕ) (k : Table) (c : ℕ) : Type 0 where
    pub next : Candidate (List ℕ)
    pub sized : next.node.size ≡ s
    pub more : Table
    pub keeps : kept (search (again i i.bound c)) ≡ k ++ (next ∷ more)

  -- the mission's ""Full at size s" only where the walk needs a place beyond the table's room, and then no such formula smaller than s
  -- separates": C are kept, and with any larger room the walk keeps the same and, at place C, one more, of size s. So there are C + 1 formulas
  -- of a size up to s, of which none separates and no two are alike
  pub record Full (s : ℕ) (k : Table) : Type 0 where
    pub all-kept : length k ≡ i.room
    pub needs : (c : ℕ) → i.room < c → KeepsNext s k c
    pub formulas : List Formula
    pub beyond : length formulas ≡ i.room + 1
    pub ours : (t : Formula) → t ∈ formulas → Offered (language i) t × (size t ≤ s) × (Separates (marked_traces i.recording) t → ⊥)
    pub apart : Apart formulas
    pub within : s ≤ i.bound
    pub smaller : NoneBelow s

  -- a kept formula: its node, over those kept before it, and its matrix of r words, of which row j has bit p set exactly where the formula
  -- holds at p of session j
  pub record Keeps (before : Table) (c : Candidate (List ℕ)) (t : Formula) : Type 0 where
    pub spelled : Spells codes (table_nodes before) c.node t
    pub offered : Offered (language i) t
    pub long : length c.matrix ≡ i.recording.sessions
    pub means : (j : ℕ) → j < i.recording.sessions → Means (length_of i.recording j) (row c.matrix j) (Holds (marked_trace i.recording j).trace t)
    pub failed : Separates (marked_traces i.recording) t → ⊥

  -- the formulas of a list, one by one, after those before it
  abbrev pub KeepsAll : Table → Table → List Formula → Type 0
  KeepsAll before [] [] = Unit {0}
  KeepsAll before [] (t ∷ ts) = ⊥
  KeepsAll before (c ∷ k) [] = ⊥
  KeepsAll before (c ∷ k) (t ∷ ts) = Keeps before c t × KeepsAll (before ++ (c ∷ [])) k ts

  -- what is kept: at most C, each a formula that does not separate, and no two alike
  pub record Kept (k : Table) : Type 0 where
    pub room : length k ≤ i.room
    pub formulas : List Formula
    pub kept : KeepsAll [] k formulas
    pub apart : Apart formulas

-- ---- from words to the reading: row j of a formula's matrix has bit p set exactly where the formula holds at p of session j

abbrev pub RowMeans : Type 0
RowMeans = (i : Input) → Passes i → (t : Formula) → Offered (language i) t → (j : ℕ) → j < i.recording.sessions
    → Means (length_of i.recording j) (row (matrix (offer i) t) j) (Holds (marked_trace i.recording j).trace t)

-- an operator's row is the only word with that meaning, so the operators' contracts, which say what the word means, fix the same word
abbrev pub UnaryRowOnly : Type 0
UnaryRowOnly = (op : Unary) (n r x : ℕ) → Means n r (unary_reading op n (At x)) → r ≡ unary_row op n x

abbrev pub BinaryRowOnly : Type 0
BinaryRowOnly = (op : Binary) (n r x y : ℕ) → Means n r (binary_reading op n (At x) (At y)) → r ≡ binary_row op n x y

-- ---- (1) to (3): FOUND, NONE, FULL

abbrev pub FoundSmallest : Type 0
FoundSmallest = (i : Input) → Passes i → (root : Node) (k : Table) (n : Tally) → search i ≡ ended (found root) k n → FoundAs i root k

abbrev pub NoneMeansNone : Type 0
NoneMeansNone = (i : Input) → Passes i → (k : Table) (n : Tally) → search i ≡ ended none k n → NoneBelow i (i.bound + 1)

abbrev pub FullNeedsRoom : Type 0
FullNeedsRoom = (i : Input) → Passes i → (s : ℕ) (k : Table) (n : Tally) → search i ≡ ended (full s) k n → Full i s k

-- ---- (4): the mission's "With the same sessions, operators in the same order and choice of constants, a larger bound or table never changes
-- a formula found"

abbrev pub LargerBoundSame : Type 0
LargerBoundSame = (i : Input) (b : ℕ) → i.bound ≤ b → (root : Node) (k : Table) (n : Tally)
    → search i ≡ ended (found root) k n → search (again i b i.room) ≡ ended (found root) k n

-- of a larger room more holds: unless the answer was FULL, it stays, whatever it was
abbrev pub LargerRoomSame : Type 0
LargerRoomSame = (i : Input) (c : ℕ) → i.room ≤ c
    → (search (again i i.bound c) ≡ search i) ⊎ ((s : ℕ) × (k : Table) × (n : Tally) × (search i ≡ ended (full s) k n))

-- the two inputs agree where they are looked at: of marks, lengths and words below r, r and m x r
pub record AgreeWhereRead (i j : Input) : Type 0 where
  pub sessions : i.recording.sessions ≡ j.recording.sessions
  pub propositions : i.recording.propositions ≡ j.recording.propositions
  pub bound : i.bound ≡ j.bound
  pub room : i.room ≡ j.room
  pub constants : i.constants ≡ j.constants
  pub unary : i.unary ≡ j.unary
  pub binary : i.binary ≡ j.binary
  pub marks : (p : ℕ) → p < i.recording.sessions → get_or i.recording.marks p 0 ≡ get_or j.recording.marks p 0
  pub lengths : (p : ℕ) → p < i.recording.sessions → get_or i.recording.lengths p 0 ≡ get_or j.recording.lengths p 0
  pub words : (p : ℕ) → p < i.recording.propositions * i.recording.sessions → get_or i.recording.words p 0 ≡ get_or j.recording.words p 0

-- so "the same sessions" are the same where they are looked at, whatever lies beyond
abbrev pub SameWhereRead : Type 0
SameWhereRead = (i j : Input) → AgreeWhereRead i j → search i ≡ search j

-- j has the sessions, the operators in the same order and the choice of constants of i, and a larger or equal bound and room
pub record Wider (i j : Input) : Type 0 where
  pub same : AgreeWhereRead (again i j.bound j.room) j
  pub bound : i.bound ≤ j.bound
  pub room : i.room ≤ j.room

abbrev pub FoundStays : Type 0
FoundStays = (i j : Input) → Wider i j → (root : Node) (k : Table) (n : Tally) → search i ≡ ended (found root) k n → search j ≡ ended (found root) k n

-- ---- (5): the count, the kept formulas, the end

-- of the candidates cs the one at position n, counted from 1; none before it agrees with the marks
pub record Nth {Mat : Type 0} (agrees : Mat → Bool) (cs : List (Candidate Mat)) (n : ℕ) (c : Candidate Mat) : Type 0 where
  pub before : List (Candidate Mat)
  pub behind : List (Candidate Mat)
  pub split : cs ≡ before ++ (c ∷ behind)
  pub position : suc (length before) ≡ n
  pub passed : (d : Candidate Mat) → d ∈ before → agrees d.matrix ≡ false

-- one of the list has that matrix
abbrev pub Has : {Mat : Type 0} → List (Candidate Mat) → Mat → Type 0
Has {Mat} k x = (u : Candidate Mat) × (u ∈ k) × (u.matrix ≡ x)

-- "the number of candidates tried, up to and including the deciding one", where k is what is kept at the end: at FOUND the deciding one is
-- the first that agrees with the marks; at FULL the first whose matrix none of those kept has, and it does not agree with the marks
abbrev pub DecidedAt : {Mat : Type 0} → (Mat → Bool) → List (Candidate Mat) → Ending → List (Candidate Mat) → ℕ → Type 0
DecidedAt {Mat} agrees cs (found root) k n = (c : Candidate Mat) × (w : Nth agrees cs n c) × (c.node ≡ root) × (agrees c.matrix ≡ true)
DecidedAt {Mat} agrees cs (full s) k n =
    (c : Candidate Mat) × (w : Nth agrees cs n c) × (c.node.size ≡ s) × (agrees c.matrix ≡ false)
    × ((d : Candidate Mat) → d ∈ w.before → Has k d.matrix) × (Has k c.matrix → ⊥)
DecidedAt agrees cs none k n = length cs ≡ n

abbrev pub TriedIsPosition : Type 0
TriedIsPosition = (i : Input) (e : Ending) (k : Table) (n : Tally) → search i ≡ ended e k n
    → DecidedAt (separating i) (trail (offer i) i.room i.bound) e k n.tried

abbrev pub KeptDistinct : Type 0
KeptDistinct = (i : Input) → Passes i → (e : Ending) (k : Table) (n : Tally) → search i ≡ ended e k n → Kept i k

abbrev pub WalkEnds : Type 0
WalkEnds = (i : Input) → (e : Ending) × (k : Table) × (n : Tally) × (search i ≡ ended e k n)

-- "i from 1 while i < ceil(s/2)": a pair's sizes come up with the smaller, or an equal one, to the left, and each such split does
abbrev pub LeftSizes : Type 0
LeftSizes = (s i j : ℕ) → i + j + 1 ≡ s → (i ∈ left_sizes s) ↔ ((1 ≤ i) × (i ≤ j))

-- ---- cut and resume

-- a turn of a candidates, then one of b, is a turn of a + b
abbrev pub TurnsAdd : Type 0
TurnsAdd = (i : Input) (a b : ℕ) (c : Cut (List ℕ)) → go_on i b (go_on i a c) ≡ go_on i (a + b) c

-- after n candidates the walk has ended, with the whole walk's answer, and at most n were tried; or n were tried and the whole walk tries
-- more, and what is kept is what those n came to
abbrev pub CutOf : Input → ℕ → Cut (List ℕ) → Type 0
CutOf i n (over e k m) = (search i ≡ ended e k m) × (m.tried ≤ n)
CutOf i n (more s j k m) =
    (m.tried ≡ n) × (n < tried (search i))
    × (foldl (consider (offer i) i.room) (going [] (tally 0 0)) (take n (trail (offer i) i.room i.bound)) ≡ going k m)

abbrev pub CutResume : Type 0
CutResume = (i : Input) (n : ℕ) → CutOf i n (go_on i n (begun i))

-- ---- (6): request E6, what was dropped

-- "plus one where FOUND or FULL ended the walk"
abbrev pub deciding : Ending → ℕ
deciding (found root) = 1
deciding (full s) = 1
deciding none = 0

-- "tried equals kept plus dropped, plus one where FOUND or FULL ended the walk"
abbrev pub AddsUp : ℕ → Tally → ℕ → Type 0
AddsUp k n d = n.tried ≡ k + n.dropped + d

abbrev pub TriedAddsUp : Type 0
TriedAddsUp = (i : Input) (e : Ending) (k : Table) (n : Tally) → search i ≡ ended e k n → AddsUp (length k) n (deciding e)

-- so it is of a cut walk; where more is to be tried, nothing has decided yet
abbrev pub CutSum : Cut (List ℕ) → Type 0
CutSum (over e k m) = AddsUp (length k) m (deciding e)
CutSum (more s j k m) = AddsUp (length k) m 0

abbrev pub CutAddsUp : Type 0
CutAddsUp = (i : Input) (n : ℕ) → CutSum (go_on i n (begun i))

-- the walk drops c after those before it, the next of which it is: it goes on so far, and at c it keeps what it kept and counts one more dropped
pub record Drops (i : Input) (before : Table) (c : Candidate (List ℕ)) : Type 0 where
  pub behind : Table
  pub in-turn : trail (offer i) i.room i.bound ≡ before ++ (c ∷ behind)
  pub so_far : Table
  pub counts : Tally
  pub goes : foldl (consider (offer i) i.room) (going [] (tally 0 0)) before ≡ going so_far counts
  pub drops : consider (offer i) i.room (going so_far counts) c ≡ going so_far (one_dropped (one_tried counts))

-- "which formula made a candidate superfluous": of the formulas k kept at the end the one at that place, and no other, has the candidate's matrix; it
-- is no larger, and one of those before the candidate. (`c` also stands for what is beyond the list, which is never looked at.)
pub record SuperfluousBy {Mat : Type 0} (k before : List (Candidate Mat)) (c : Candidate Mat) (place : ℕ) : Type 0 where
  pub there : place < length k
  pub same : (get_or k place c).matrix ≡ c.matrix
  pub only : (q : ℕ) → q < length k → (get_or k q c).matrix ≡ c.matrix → q ≡ place
  pub no-larger : (get_or k place c).node.size ≤ c.node.size
  pub earlier : get_or k place c ∈ before

-- it was kept by then, so the comparison with what is kept so far answers that place (crate comparison, known-by)
abbrev pub DroppedBy : Type 0
DroppedBy = (i : Input) (e : Ending) (k : Table) (n : Tally) → search i ≡ ended e k n → (before : Table) (c : Candidate (List ℕ)) (d : Drops i before c)
    → (place : ℕ) × (place < length d.so_far) × SuperfluousBy k before c place

-- request E4's "the usual reading of the empty trace", of what was recorded: of an input that passes the checks, a session without snapshots accepts a formula
-- over what was offered exactly where the table of E4 says so
abbrev pub EmptySession : Type 0
EmptySession = (i : Input) → Passes i → (j : ℕ) → j < i.recording.sessions → length_of i.recording j ≡ 0
    → (t : Formula) → Offered (language i) t → Accepts (marked_trace i.recording j).trace t ↔ OnEmpty t
