-- The bytes that names are made of, and when two runs of bytes are the same.
-- Assumes nothing.
use Rattle.std.specs.Prelude.{Bool, true, false, ◌&&◌, ◌||◌, List, [], ◌∷◌, ℕ, eqb, leb}

-- "letters": A-Z, a-z
abbrev pub is_letter : ℕ → Bool
is_letter b = (leb 65 b && leb b 90) || (leb 97 b && leb b 122)

-- "letters, digits or `_`"
abbrev pub is_name_byte : ℕ → Bool
is_name_byte b = is_letter b || (leb 48 b && leb b 57) || eqb b 95

abbrev pub same_bytes : List ℕ → List ℕ → Bool
same_bytes [] [] = true
same_bytes [] (y ∷ ys) = false
same_bytes (x ∷ xs) [] = false
same_bytes (x ∷ xs) (y ∷ ys) = eqb x y && same_bytes xs ys
