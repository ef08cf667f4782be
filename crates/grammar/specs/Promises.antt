-- What follows of E2's grammar, of every text, list of tokens and tree. Proved under these names in proofs/: one-spelling (Lexing), one-derivation, one-tree, one-offset, formula-not-refused,
-- formula-or-offset (Theorems), printed (Printing).
-- Assumes nothing.
use Rattle.std.specs.Prelude.{◌≡◌, ◌⊎◌, List, ℕ}
use Rattle.formula.specs.Formula.{Formula}
use Rattle.text.specs.Text.{text}
use Rattle.grammar.specs.Token.{Typed, Token, SpelledBy}
use Rattle.grammar.specs.Grammar.{Derives, Reads, IsFormula, Refused11}
use Rattle.grammar.specs.Naming.{typed, AllNamed}

-- ---- "the one tree of the grammar": a text spells at most one list of tokens, and these have at most one tree

abbrev pub OneSpelling : List Token → List Token → List ℕ → Type 0
OneSpelling ts us text = SpelledBy ts text → SpelledBy us text → ts ≡ us

abbrev pub OneDerivation : List Token → Typed → Typed → Type 0
OneDerivation ts a b = Derives 0 ts a → Derives 0 ts b → a ≡ b

abbrev pub OneTree : List ℕ → Typed → Typed → Type 0
OneTree text a b = Reads text a → Reads text b → a ≡ b

-- ---- "11 with the offset of the first byte that can't continue a formula": each text is a formula or is refused by 11, not both, and with one offset

abbrev pub OneOffset : List ℕ → ℕ → ℕ → Type 0
OneOffset text j k = Refused11 text j → Refused11 text k → j ≡ k

abbrev pub FormulaNotRefused : List ℕ → ℕ → Type 0
FormulaNotRefused text k = IsFormula text → Refused11 text k → ⊥

abbrev pub FormulaOrOffset : List ℕ → Type 0
FormulaOrOffset text = IsFormula text ⊎ ((k : ℕ) × Refused11 text k)

-- ---- "What the printer writes, read back": the text of a formula under good names is a formula to the grammar, with the propositions' names in its tree

abbrev pub Printed : List (List ℕ) → Formula → Type 0
Printed names t = AllNamed names t → Reads (text names t) (typed names t)
