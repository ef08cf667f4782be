-- The rows that an operator gives over those of its children, session by session, and what is written of them, for every input.
-- Assumes nothing.
use Rattle.std.specs.Prelude.{◌≡◌, Bool, true, false, List, ℕ, ◌≤◌, ◌<◌, length, get_or}
use Rattle.words.specs.Word.{width, At, Means}
use Rattle.sequence.specs.Operators.{Unary, Binary, unary_code, binary_code}
use Rattle.sequence.specs.Masked.{unary_masked, binary_masked}

-- of a lent slice the words below r are as asked, by their index; "in any lent slice what no rule writes stays"
pub record Filled (r : ℕ) (old : List ℕ) (Asked : ℕ → ℕ → Type 0) (new : List ℕ) : Type 0 where
  pub long : length new ≡ length old
  pub words : (j : ℕ) → j < r → Asked j (get_or new j 0)
  pub rest : (j : ℕ) → r ≤ j → get_or new j 0 ≡ get_or old j 0

-- a slice has a word for each of r sessions
pub record Long (r : ℕ) (slice : List ℕ) : Type 0 where
  pub there : r ≤ length slice

-- what is asked for is done, and in every other case nothing is written
pub record Done (asked done untouched : Type 0) : Type 0 where
  pub did : asked → done
  pub stays : (asked → ⊥) → untouched

-- what a function answers that may be asked for what isn't there: true where it was asked for what it can do, and then that is done; false in every
-- other case, and then nothing was written
abbrev pub Told : Type 0 → Type 0 → Type 0 → Bool → Type 0
Told asked done untouched true = asked × done
Told asked done untouched false = (asked → ⊥) × untouched

-- ---- one operator over the rows of its children

abbrev pub UnaryAt : Unary → List ℕ → List ℕ → ℕ → ℕ → Type 0
UnaryAt op masks x j w = Means width w (unary_masked op (At (get_or masks j 0)) (At (get_or x j 0)))

abbrev pub BinaryAt : Binary → List ℕ → List ℕ → List ℕ → ℕ → ℕ → Type 0
BinaryAt op masks x y j w = Means width w (binary_masked op (At (get_or masks j 0)) (At (get_or x j 0)) (At (get_or y j 0)))

-- ---- the operator with a code

abbrev pub UnaryRow : ℕ → List ℕ → List ℕ → ℕ → ℕ → Type 0
UnaryRow code masks x j w = (op : Unary) × (unary_code op ≡ code) × UnaryAt op masks x j w

abbrev pub BinaryRow : ℕ → List ℕ → List ℕ → List ℕ → ℕ → ℕ → Type 0
BinaryRow code masks x y j w = (op : Binary) × (binary_code op ≡ code) × BinaryAt op masks x y j w

-- every slice has the rows, and the code is an operator's of the group
pub record UnaryAsk (r : ℕ) (masks x : List ℕ) (code : ℕ) (rows : List ℕ) : Type 0 where
  pub masks-there : r ≤ length masks
  pub x-there : r ≤ length x
  pub rows-there : r ≤ length rows
  pub operator : (op : Unary) × (unary_code op ≡ code)

pub record BinaryAsk (r : ℕ) (masks x y : List ℕ) (code : ℕ) (rows : List ℕ) : Type 0 where
  pub masks-there : r ≤ length masks
  pub x-there : r ≤ length x
  pub y-there : r ≤ length y
  pub rows-there : r ≤ length rows
  pub operator : (op : Binary) × (binary_code op ≡ code)

abbrev pub UnaryOver : ℕ → List ℕ → List ℕ → ℕ → List ℕ → List ℕ → Type 0
UnaryOver r masks x code old new = Done (UnaryAsk r masks x code old) (Filled r old (UnaryRow code masks x) new) (new ≡ old)

abbrev pub BinaryOver : ℕ → List ℕ → List ℕ → List ℕ → ℕ → List ℕ → List ℕ → Type 0
BinaryOver r masks x y code old new = Done (BinaryAsk r masks x y code old) (Filled r old (BinaryRow code masks x y) new) (new ≡ old)
