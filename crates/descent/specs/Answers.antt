-- What the functions of the descent answer, in the terms of `Passing`.
-- Assumes nothing.
use Rattle.std.specs.Prelude.{◌≡◌, List, [], ◌∷◌, ◌++◌, Result, Ok, Err, ℕ, suc, ◌+◌, ◌≤◌, ◌<◌, length}
use Rattle.std.proofs.lemmas.List.Edits.{sets}
use Rattle.formula.specs.Formula.{size}
use Rattle.formula.specs.Nodes.{Node}
use Rattle.grammar.specs.Token.{Typed, Token, closes}
use Rattle.names.specs.Names.{names_in, GoodNames}
use Rattle.grammar.specs.Grammar.{operand, Derives, Reads, Refused11}
use Rattle.grammar.specs.Scan.{ready, after}
use Rattle.grammar.specs.Passing.{QuietAt, ScanPasses, Stops, Expression, Refuses, Continues}
use Rattle.tokens.specs.declared.Stop.{Stop}
use Rattle.descent.specs.declared.Got.{Got}
use Rattle.descent.specs.Packed.{codes_by, packs, most_field, NodesWritten}

-- a closing bracket, after an expression with which nothing goes on
abbrev pub Closing : List ℕ → ℕ → Result ℕ Stop → Type 0
Closing text at (Ok next) = QuietAt text 0 at → (d : ℕ) → ScanPasses text (after (suc d)) at (closes ∷ []) (after d) next
Closing text at (Err stop) = QuietAt text 0 at → (d : ℕ) → Stops text (after (suc d)) at stop.0

-- the end of the text, after one
abbrev pub EndsAt : List ℕ → ℕ → Result Unit Stop → Type 0
EndsAt text at (Ok _) = QuietAt text 0 at → ScanPasses text (after 0) at [] (after 0) (length text)
EndsAt text at (Err stop) = QuietAt text 0 at → Stops text (after 0) at stop.0

-- what was read is no larger than its bytes are many
abbrev pub NoLarger : List ℕ → ℕ → ℕ → ℕ → Type 0
NoLarger text at next m = (1 ≤ m) × (at + m ≤ next) × (next ≤ length text)

-- the names are good, the text is short, and from a place on the scratch has room for what is left of it
pub record Room (file text scratch : List ℕ) (place at : ℕ) : Type 0 where
  pub names : GoodNames file
  pub short : length text < most_field
  pub within : at ≤ length text
  pub before : place ≤ at
  pub room : length text ≤ length scratch

module _ (file : List ℕ) (place : ℕ) (old new text : List ℕ) where
  abbrev pub Infix : ℕ → ℕ → Result Got Stop → Type 0
  Infix n at (Ok got) = NoLarger text at got.next got.size × (t : Typed) × Expression text n at got.next t × (size t ≡ got.size) × QuietAt text n got.next × NodesWritten file place t old new
  Infix n at (Err stop) = Refuses text at stop.0

  -- after an expression of this size
  abbrev pub More : ℕ → ℕ → ℕ → Result Got Stop → Type 0
  More n at before (Ok got) =
      (at ≤ got.next) × (before ≤ got.size) × (at + got.size ≤ got.next + before) × (got.next ≤ length text)
      × (more : List Node) × Continues (codes_by (names_in file)) place text n at got.next before got.size more × QuietAt text n got.next
      × (new ≡ sets old (place + before) (packs more))
  More n at before (Err stop) = (d : ℕ) → Stops text (after d) at stop.0

  abbrev pub Prefix : ℕ → Result Got Stop → Type 0
  Prefix at (Ok got) = NoLarger text at got.next got.size × (t : Typed) × Expression text operand at got.next t × (size t ≡ got.size) × NodesWritten file place t old new
  Prefix at (Err stop) = Refuses text at stop.0

  -- behind an opening bracket
  abbrev pub Bracket : ℕ → Result Got Stop → Type 0
  Bracket at (Ok got) =
      NoLarger text at got.next got.size × (t : Typed) × (ts : List Token) × ((d : ℕ) → ScanPasses text (ready (suc d)) at (ts ++ (closes ∷ [])) (after d) got.next)
      × Derives 0 ts t × (size t ≡ got.size) × NodesWritten file place t old new
  Bracket at (Err stop) = (d : ℕ) → Stops text (ready (suc d)) at stop.0

-- the whole text: a formula's size, and its nodes; or the offset of 11
abbrev pub WholeText : List ℕ → List ℕ → List ℕ → List ℕ → Result ℕ Stop → Type 0
WholeText file old new text (Ok m) = (t : Typed) × Reads text t × (size t ≡ m) × NodesWritten file 0 t old new
WholeText file old new text (Err stop) = Refused11 text stop.0
