-- The walk's candidates by code and fields, their matrices, and when a lent slice holds those of the kept formulas.
-- Assumes nothing.
use Rattle.std.specs.Prelude.{◌≡◌, List, [], ℕ, ◌+◌, ◌*◌, ◌≤◌, ◌<◌, length, get_or}
use Rattle.words.specs.Word.{WfComputed}
use Rattle.sequence.specs.Operators.{Unary, Binary, unary_code, binary_code}
use Rattle.formula.specs.Formula.{Leaf}
use Rattle.formula.specs.Nodes.{leaf_code, leaf_number}
use Rattle.walk.specs.Walk.{Candidate}
use Rattle.walk.specs.Input.{Input, row, offer}
use Rattle.session.specs.Recording.{length_of}
use Rattle.walk.specs.Kept.{Table}
use Rattle.masks.specs.Masks.{MaskOf}
use Rattle.formula.specs.Faultless.{LeafIn}

-- a formula beyond the list, never looked at
abbrev pub no_candidate : Candidate (List ℕ)
no_candidate = record { node = record { code = 0; left = 0; right = 0; size = 0 }; matrix = [] }

abbrev pub matrix_at : Table → ℕ → List ℕ
matrix_at k p = (get_or k p no_candidate).matrix

-- a candidate over m propositions and so many kept formulas: the code is a leaf's or an operator's, and the fields are as they are for it,
-- "unused fields are 0, and a proposition's number is its left field"
pub data Makes (m kept code left right : ℕ) : Type 0 where
  leaf : (c : Leaf) → leaf_code c ≡ code → leaf_number c ≡ left → right ≡ 0 → LeafIn m c → Makes m kept code left right
  unary : (op : Unary) → unary_code op ≡ code → left < kept → right ≡ 0 → Makes m kept code left right
  binary : (op : Binary) → binary_code op ≡ code → left < kept → right < kept → Makes m kept code left right

-- its matrix in the walk, over the kept ones
abbrev pub made : (i : Input) → Table → {m kept code left right : ℕ} → Makes m kept code left right → List ℕ
made i k (Makes.leaf c e f z h) = (offer i).leaf_matrix c
made i k {left = left} (Makes.unary op e l z) = (offer i).unary_matrix op (matrix_at k left)
made i k {left = left} {right = right} (Makes.binary op e l q) = (offer i).binary_matrix op (matrix_at k left) (matrix_at k right)

-- a matrix with a well-formed word for each session
pub record Fine (i : Input) (x : List ℕ) : Type 0 where
  pub long : length x ≡ i.recording.sessions
  pub formed : (j : ℕ) → j < i.recording.sessions → WfComputed (length_of i.recording j) (row x j)

-- "The matrices lie in a lent slice of words, r per place": those of the table k are there
pub record Stored (i : Input) (k : Table) (matrices : List ℕ) : Type 0 where
  pub there : length k * i.recording.sessions ≤ length matrices
  pub words : (p j : ℕ) → p < length k → j < i.recording.sessions → get_or matrices (p * i.recording.sessions + j) 0 ≡ row (matrix_at k p) j
  pub fine : (p : ℕ) → p < length k → Fine i (matrix_at k p)

-- the masks of the sessions
pub record Masks (i : Input) (masks : List ℕ) : Type 0 where
  pub there : i.recording.sessions ≤ length masks
  pub are : (j : ℕ) → j < i.recording.sessions → MaskOf i.recording.lengths j (get_or masks j 0)
