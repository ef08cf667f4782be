-- A candidate's matrix: the r words that `rows_of` writes, for every input.
-- Assumes nothing.
use Rattle.std.specs.Prelude.{◌≡◌, Bool, true, false, List, ℕ, ◌+◌, ◌*◌, ◌≤◌, ◌<◌, length, get_or}
use Rattle.words.specs.Masked.{PlacesOn}
use Rattle.words.specs.Word.{width, At, Means}
use Rattle.sequence.specs.Operators.{Unary, Binary, unary_code, binary_code}
use Rattle.sequence.specs.Masked.{unary_masked, binary_masked}
use Rattle.rules.specs.Limits.{most_sessions, most_propositions}
use Rattle.formula.specs.Formula.{Leaf}
use Rattle.formula.specs.Nodes.{leaf_code}
use Rattle.loops.specs.Loops.{Filled, Told}

-- the rows of a candidate, by its code, left and right field
module _ (r m : ℕ) (masks words matrices : List ℕ) (code left right : ℕ) where
  -- what it reads is there: "The matrices lie in a lent slice of words, r per place; the propositions' words lie m per session". The code is an
  -- operator's or a leaf's; a field that it has no use for is not looked at
  pub data ReadThere : Type 0 where
    unary : (op : Unary) → unary_code op ≡ code → left * r + r ≤ length matrices → ReadThere
    binary : (op : Binary) → binary_code op ≡ code → left * r + r ≤ length matrices → right * r + r ≤ length matrices → ReadThere
    proposition : leaf_code (Leaf.proposition left) ≡ code → m ≤ most_propositions → left < m → m * r ≤ length words → ReadThere
    constant : (b : Bool) → leaf_code (Leaf.constant b) ≡ code → ReadThere

  -- its word of session j: the operator's over the session's mask and the children's words; the proposition's as it was recorded; no place for
  -- false, and every place for true
  pub data RowIs (j w : ℕ) : Type 0 where
    unary : (op : Unary) → unary_code op ≡ code → Means width w (unary_masked op (At (get_or masks j 0)) (At (get_or matrices (left * r + j) 0))) → RowIs j w
    binary : (op : Binary) → binary_code op ≡ code
        → Means width w (binary_masked op (At (get_or masks j 0)) (At (get_or matrices (left * r + j) 0)) (At (get_or matrices (right * r + j) 0))) → RowIs j w
    proposition : leaf_code (Leaf.proposition left) ≡ code → w ≡ get_or words (j * m + left) 0 → RowIs j w
    none : leaf_code (Leaf.constant false) ≡ code → w ≡ 0 → RowIs j w
    all : leaf_code (Leaf.constant true) ≡ code → Means width w (PlacesOn (At (get_or masks j 0))) → RowIs j w

  pub record RowsAsk (rows : List ℕ) : Type 0 where
    pub sessions-in : r ≤ most_sessions
    pub masks-there : r ≤ length masks
    pub rows-there : r ≤ length rows
    pub reads : ReadThere

  -- "A formula's matrix is one word per session"
  abbrev pub RowsAnswer : List ℕ → List ℕ → Bool → Type 0
  RowsAnswer old new b = Told (RowsAsk old) (Filled r old RowIs new) (new ≡ old) b
