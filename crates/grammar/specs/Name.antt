-- What a name is to the grammar: the names of a names section. The bytes of the constants.
-- Assumes nothing.
use Rattle.std.specs.Prelude.{Bool, List, [], ℕ}
use Rattle.formula.specs.Formula as formula
use Rattle.names.specs.Names.{GoodName}
use Rattle.text.specs.Text.{leaf_text}

-- `true` and `false`, as print writes them
abbrev pub constant_text : Bool → List ℕ
constant_text b = leaf_text [] (formula.constant b)

-- "names as in 01, so a 17th byte can't continue one": a name that is good with no name before it, so no reserved word either
abbrev pub Name : List ℕ → Type 0
Name w = GoodName [] w
