-- How private functions speak of the word of a leaf. No public contract cites this file, so nothing here has to be believed.
-- Assumes nothing.
use Rattle.std.specs.Prelude.{◌≡◌, List, ℕ, take, drop}
use Rattle.names.specs.Names.{names_in}
use Rattle.grammar.specs.Token.{Atom}
use Rattle.grammar.specs.Scan.{leafy, classify}
use Rattle.descent.specs.Packed.{atom_code, atom_field}
use Rattle.descent.specs.declared.leaves.Leaf.{Leaf}

-- a word of the text
abbrev pub text_word : List ℕ → ℕ → ℕ → List ℕ
text_word text start n = take n (drop start text)

-- the fields of the leaf that a word is
abbrev pub WordFields : List ℕ → List ℕ → ℕ → ℕ → Type 0
WordFields file w code left = (l : Atom) → classify w ≡ leafy l → (code ≡ atom_code l) × (left ≡ atom_field (names_in file) l)

abbrev pub WordIs : List ℕ → List ℕ → Leaf → Type 0
WordIs file w r = WordFields file w r.code r.left

abbrev pub LeafFields : List ℕ → List ℕ → ℕ → ℕ → ℕ → ℕ → Type 0
LeafFields file text start n code left = WordFields file (text_word text start n) code left

abbrev pub LeafIs : List ℕ → List ℕ → ℕ → ℕ → Leaf → Type 0
LeafIs file text start n r = LeafFields file text start n r.code r.left
