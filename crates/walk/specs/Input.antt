-- A search's input as plain numbers and lists, when it passes the checks, and the walk over it.
-- Assumes nothing.
use Rattle.std.specs.Prelude.{◌≡◌, ◌⊎◌, Bool, true, false, ◌&&◌, List, [], ◌∷◌, ◌++◌, map, ℕ, ◌*◌, ◌≤◌, ◌<◌, length, get_or, eqb}
use Rattle.std.specs.Bool.{beq}
use Rattle.words.specs.Word.{width, WfRecorded}
use Rattle.rules.specs.Limits.{most_sessions, most_propositions, most_size, most_room}
use Rattle.sequence.specs.Operators.{Unary, Binary, unary_code, binary_code, unary_of, binary_of, commutes}
use Rattle.session.specs.Recording.{Recording, recording, mark_of, length_of, word_of}
use Rattle.formula.specs.Formula.{Leaf, proposition, constant, Language}
use Rattle.formula.specs.Nodes.{codes}
use Rattle.rules.specs.Lists.{count, ◌∈◌}
use Rattle.walk.specs.Walk.{Offer, WalkState, walk}
use Rattle.walk.specs.Rows.{unary_row, binary_row, constant_row, accepts_row}

-- what a search is handed
pub record Input : Type 0 where
  pub recording : Recording
  pub bound : ℕ
  pub room : ℕ
  pub constants : ℕ
  pub unary : List ℕ
  pub binary : List ℕ

-- the arguments of a search as its input
abbrev pub input_of : ℕ → ℕ → ℕ → ℕ → ℕ → List ℕ → List ℕ → List ℕ → List ℕ → List ℕ → Input
input_of r m bound room constants marks lengths words unary binary =
    record { recording = recording r m marks lengths words; bound = bound; room = room; constants = constants; unary = unary; binary = binary }

-- no number twice
abbrev pub Once : List ℕ → Type 0
Once [] = Unit {0}
Once (c ∷ cs) = (c ∈ cs → ⊥) × Once cs

module _ (i : Input) where
  abbrev pub language : Language
  language = record { propositions = i.recording.propositions; constants = i.constants; unary = i.unary; binary = i.binary }

  -- ---- the checks

  -- the input passes the checks (the table of refusals, 1 to 7); of row 3 only what is read: that the lent lists have room for C nodes and
  -- C x r words is the search's own check
  pub record Passes : Type 0 where
    pub sessions-in : (1 ≤ i.recording.sessions) × (i.recording.sessions ≤ most_sessions)
    pub propositions-in : (1 ≤ i.recording.propositions) × (i.recording.propositions ≤ most_propositions)
    pub bound-in : (1 ≤ i.bound) × (i.bound ≤ most_size)
    pub room_in : (1 ≤ i.room) × (i.room ≤ most_room)
    pub constants-in : (i.constants ≡ 0) ⊎ (i.constants ≡ 1)
    pub marks-there : i.recording.sessions ≤ length i.recording.marks
    pub lengths-there : i.recording.sessions ≤ length i.recording.lengths
    pub words-there : i.recording.propositions * i.recording.sessions ≤ length i.recording.words
    pub well-formed : (j p : ℕ) → j < i.recording.sessions → p < i.recording.propositions → WfRecorded (length_of i.recording j) (word_of i.recording j p)
    pub short : (j : ℕ) → j < i.recording.sessions → length_of i.recording j ≤ width
    pub marks-in : (j : ℕ) → j < i.recording.sessions → (mark_of i.recording j ≡ 0) ⊎ (mark_of i.recording j ≡ 1)
    pub unary-in : (c : ℕ) → c ∈ i.unary → (op : Unary) × (unary_code op ≡ c)
    pub unary-once : Once i.unary
    pub binary-in : (c : ℕ) → c ∈ i.binary → (op : Binary) × (binary_code op ≡ c)
    pub binary-once : Once i.binary

-- ---- the offer

-- "A formula's matrix is one word per session": the r rows, by session
abbrev pub rows : ℕ → (ℕ → ℕ) → List ℕ
rows r f = map f (count 0 r)

abbrev pub row : List ℕ → ℕ → ℕ
row x j = get_or x j 0

-- equal "in every row"
unfoldable pub same_rows : List ℕ → List ℕ → Bool
same_rows [] [] = true
same_rows [] (y ∷ ys) = false
same_rows (x ∷ xs) [] = false
same_rows (x ∷ xs) (y ∷ ys) = eqb x y && same_rows xs ys

-- f of every one
unfoldable pub every : List ℕ → (ℕ → Bool) → Bool
every [] f = true
every (j ∷ js) f = f j && every js f

abbrev pub constants_if : Bool → List Leaf
constants_if true = constant false ∷ (constant true ∷ [])
constants_if false = []

module _ (i : Input) where
  -- "propositions in order, then, if constants are asked for, false, then true"
  abbrev pub leaves : List Leaf
  leaves = map proposition (count 0 i.recording.propositions) ++ constants_if (eqb i.constants 1)

  abbrev pub leaf_row : Leaf → ℕ → ℕ
  leaf_row (proposition p) j = word_of i.recording j p
  leaf_row (constant b) j = constant_row b (length_of i.recording j)

  -- "its acceptance equals the marks"
  unfoldable pub separating : List ℕ → Bool
  separating x = every (count 0 i.recording.sessions) λ j. beq (accepts_row (row x j)) (eqb (mark_of i.recording j) 1)

  abbrev pub offer : Offer Leaf Unary Binary (List ℕ)
  offer = record {
    leaves = leaves;
    unaries = map unary_of i.unary;
    binaries = map binary_of i.binary;
    codes = codes;
    leaf_matrix = λ c. rows i.recording.sessions (leaf_row c);
    unary_matrix = λ op x. rows i.recording.sessions λ j. unary_row op (length_of i.recording j) (row x j);
    binary_matrix = λ op x y. rows i.recording.sessions λ j. binary_row op (length_of i.recording j) (row x j) (row y j);
    commutes = commutes;
    same = same_rows;
    agrees = separating;
  }

  -- THE SEARCH's answer
  abbrev pub search : WalkState (List ℕ)
  search = walk offer i.room i.bound
