-- What is promised of printing: of every answer of print, whatever it is lent (print-in-391, in proofs/Promises), and of the names and formulas of a text
-- (no-name-is-a-token, in proofs/Tokens; read-one-way, in proofs/OneWay).
-- Assumes nothing.
use Rattle.std.specs.Prelude.{◌≡◌, ℕ, ◌≤◌, length}
use mathlib.Core.List.{List, Memᴰ}
use Rattle.rules.specs.Answers.{Said}
use Rattle.formula.specs.Nodes.{Node}
use Rattle.text.specs.Text.{most_text, text}
use Rattle.text.specs.Print.{Prints}
use Rattle.formula.specs.Formula.{Formula}
use Rattle.names.specs.Names.{GoodNames, names_in}
use Rattle.text.specs.Tokens.{IsToken, names_of, Named}

-- "391 bytes suffice for any formula.": with so many of room, or more, nothing is refused with 3
abbrev pub PrintIn391 : Type 0
PrintIn391 = (file : List ℕ) (k : List Node) (root : Node) (old : List ℕ) (s : Said) (new : List ℕ) → most_text ≤ length old → Prints file k root old s new
    → s.number ≡ 3 → ⊥

-- "A site named a proposition `U`; nobody could read its formula": over the names of any section that print accepts, no name in a formula's text is a token
abbrev pub NoNameIsAToken : Type 0
NoNameIsAToken = (file : List ℕ) → GoodNames file → (t : Formula) (w : List ℕ) → Memᴰ w (names_of (names_in file) t) → IsToken w → ⊥

-- and formulas whose propositions all have names and that have the same text are the same formula
abbrev pub ReadOneWay : Type 0
ReadOneWay = (file : List ℕ) → GoodNames file → (t u : Formula) → Named (length (names_in file)) t → Named (length (names_in file)) u
    → text (names_in file) t ≡ text (names_in file) u → t ≡ u
