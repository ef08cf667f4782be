-- What the private functions promise each other. No public contract cites this.
-- Assumes nothing.
use Rattle.std.specs.Prelude.{◌≡◌, Bool, List, [], ℕ, ◌+◌, ◌-◌, ◌*◌, ◌≤◌, length, take, drop}
use Rattle.loops.specs.Loops.{Filled, Told, UnaryRow, BinaryRow}
use Rattle.rows.specs.Rows.{ReadThere, RowIs}

-- the words of a slice from a word on
abbrev pub words_from : List ℕ → ℕ → List ℕ
words_from s a = take (length s - a) (drop a s)

abbrev pub UnaryRowsAnswer : ℕ → List ℕ → List ℕ → ℕ → ℕ → List ℕ → List ℕ → Bool → Type 0
UnaryRowsAnswer r masks matrices code left old new b =
    Told (left * r + r ≤ length matrices) (Filled r old (UnaryRow code masks (words_from matrices (left * r))) new) (new ≡ old) b

abbrev pub BinaryRowsAnswer : ℕ → List ℕ → List ℕ → ℕ → ℕ → ℕ → List ℕ → List ℕ → Bool → Type 0
BinaryRowsAnswer r masks matrices code left right old new b =
    Told ((left * r + r ≤ length matrices) × (right * r + r ≤ length matrices))
    (Filled r old (BinaryRow code masks (words_from matrices (left * r)) (words_from matrices (right * r))) new) (new ≡ old) b

-- a leaf reads no matrix and no right field
abbrev pub LeafAnswer : ℕ → ℕ → List ℕ → List ℕ → ℕ → ℕ → List ℕ → List ℕ → Bool → Type 0
LeafAnswer r m masks words code left old new b =
    Told (ReadThere r m masks words [] code left 0) (Filled r old (RowIs r m masks words [] code left 0) new) (new ≡ old) b
