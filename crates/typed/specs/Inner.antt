-- How private functions speak of the words and brackets that a pass over the text meets. No public contract cites this file, so nothing here has to be believed.
-- Assumes nothing.
use Rattle.std.specs.Prelude.{◌≡◌, Bool, true, false, cond, ◌⊎◌, ℕ, suc, ◌≤◌, ◌<◌, eqb, length, get_or, Option, Some, None}
use mathlib.Core.List.{List, Memᴰ}
use Rattle.names.specs.Names.{is_name_byte}
use Rattle.names.specs.Reserved.{reserved}
use Rattle.typed.specs.Words.{UnknownAt}

-- a run of a word's bytes goes from one offset to another
pub record RunTo (text : List ℕ) (start r : ℕ) : Type 0 where
  pub forward : start ≤ r
  pub within : r ≤ length text
  pub bytes : (j : ℕ) → start ≤ j → j < r → is_name_byte (get_or text j 0) ≡ true
  pub ends : is_name_byte (get_or text r 0) ≡ false

abbrev pub KnownIs : List (List ℕ) → List ℕ → Bool → Type 0
KnownIs names w true = Memᴰ w reserved ⊎ Memᴰ w names
KnownIs names w false = (Memᴰ w reserved → ⊥) × (Memᴰ w names → ⊥)

-- no word goes across this offset
abbrev pub Boundary : List ℕ → ℕ → Type 0
Boundary text i = (j : ℕ) → suc j ≡ i → is_name_byte (get_or text i 0) ≡ true → is_name_byte (get_or text j 0) ≡ false

-- what is passed at an offset, or an unknown name stands there
abbrev pub PassedIs : List (List ℕ) → List ℕ → ℕ → Option ℕ → Type 0
PassedIs names text i None = Boundary text i → UnknownAt names text i
PassedIs names text i (Some next) = (i < next) × (next ≤ length text) × Boundary text next × ((k : ℕ) → i ≤ k → k < next → UnknownAt names text k → ⊥)

-- 1 for a byte that is this one, else 0
pub record One (b this r : ℕ) : Type 0 where
  pub is : r ≡ cond (eqb b this) 1 0
  pub most : r ≤ 1
