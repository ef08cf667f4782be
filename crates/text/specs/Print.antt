-- Printing: what it answers and leaves in the lent room, for every input.
-- Assumes nothing.
use Rattle.std.specs.Prelude.{◌≡◌, List, [], ◌∷◌, ℕ, ◌<◌, length, Result, Ok, Err}
use Rattle.rules.specs.Refusals.{Row, Decided, refusal_number}
use Rattle.reading.specs.Reading.{Got, got, bad, broken}
use Rattle.names.specs.Names.{whole_names}
use Rattle.rules.specs.Answers.{Said, over}
use Rattle.formula.specs.Formula.{Formula}
use Rattle.formula.specs.Nodes.{Node, Spells, codes}
use Rattle.text.specs.declared.PrintError.{PrintError}
use Rattle.text.specs.declared.PrintError.TheVariants.{Broken, Refused}
use Rattle.formula.specs.Rule.{broken_list}
use Rattle.text.specs.Text.{text}

-- the answer in document 01's terms: 0 with the text's length; 8 with the offset; or a refusal's number alone
abbrev pub said_printed : Result ℕ PrintError → Said
said_printed (Ok n) = record { number = 0; values = n ∷ [] }
said_printed (Err (Broken o)) = broken o
said_printed (Err (Refused refusal)) = record { number = refusal_number refusal; values = [] }

module _ (names : List (List ℕ)) (k : List Node) (root : Node) (old : List ℕ) where
  -- "3: .. text room shorter than the text"
  abbrev pub short_text_room : Row
  short_text_room = record { number = 3; given = (t : Formula) × Spells codes k root t × (length old < length (text names t)) }

  -- "Print tests 8, 9, then 3"; "a proposition not below .. (print: .. the count of names)"
  abbrev pub print_rows : List Row
  print_rows = broken_list (length names) k root ∷ (short_text_room ∷ [])

  -- the first row that is given decides the number; "A refusal carries only its number .. writes nothing"; else the text of the formula that
  -- the root spells stands at the start of the room, and the rest of it stays
  pub record PrintAnswer (s : Said) (new : List ℕ) : Type 0 where
    pub number : Decided print_rows s.number
    pub refused : (s.number ≡ 0 → ⊥) → (s.values ≡ []) × (new ≡ old)
    pub passed : s.number ≡ 0 → (t : Formula) × Spells codes k root t × (s.values ≡ length (text names t) ∷ []) × (new ≡ over (text names t) old)

-- "8: .. names section broken, with byte offset", before the other two
abbrev pub PrintsBy : Got (List (List ℕ)) → List Node → Node → List ℕ → Said → List ℕ → Type 0
PrintsBy (bad o) k root old s new = (s ≡ broken o) × (new ≡ old)
PrintsBy (got names next) k root old s new = PrintAnswer names k root old s new

-- "The names are lent as a names section of the file .., with nothing after it."
abbrev pub Prints : List ℕ → List Node → Node → List ℕ → Said → List ℕ → Type 0
Prints file k root old s new = PrintsBy (whole_names file) k root old s new
