-- What the judge of a names section answers: 8 with the offset, else the number of names.
-- Assumes nothing.
use Rattle.std.specs.Prelude.{List, [], ◌∷◌, ℕ, length, Result, Ok, Err}
use Rattle.rules.specs.Answers.{Said}
use Rattle.reading.specs.declared.Broken.{Broken}
use Rattle.reading.specs.Reading.{Got, got, bad, broken}
use Rattle.names.specs.Names.{whole_names}

-- document 01's number and values of each case
abbrev pub said_names : Result ℕ Broken → Said
said_names (Ok count) = record { number = 0; values = count ∷ [] }
said_names (Err o) = broken o.0

abbrev pub said_of_names : Got (List (List ℕ)) → Said
said_of_names (got names next) = record { number = 0; values = length names ∷ [] }
said_of_names (bad o) = broken o

-- "The names are lent as a names section of the file below, with nothing after it"
abbrev pub names_said : List ℕ → Said
names_said file = said_of_names (whole_names file)
