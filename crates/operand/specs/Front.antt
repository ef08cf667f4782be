-- What stands where an operand is awaited, from an offset on, in the terms of the grammar's scan (`Passing`).
-- Assumes nothing.
use Rattle.std.specs.Prelude.{◌≡◌, false, List, [], ◌∷◌, ◌++◌, Result, Ok, Err, ℕ, suc, ◌+◌, ◌-◌, ◌≤◌, ◌<◌, length, take, drop, get_or}
use Rattle.sequence.specs.Operators.{Unary, unary_code}
use Rattle.sequence.specs.Operators.Unary.{strong_next}
use Rattle.names.specs.Names.{name_length, is_name_byte}
use Rattle.grammar.specs.Token.{Atom, pre, atom, opens}
use Rattle.grammar.specs.Scan.{leafy, classify, ready, after, rest, word as in_word}
use Rattle.grammar.specs.Passing.{ScanPasses, Stops, Refuses}
use Rattle.tokens.specs.declared.Stop.{Stop}
use Rattle.operand.specs.declared.Awaited.{Awaited}
use Rattle.operand.specs.declared.Awaited.TheVariants.{Operator as PrefixOperator, Open, Word as LeafWord}

-- a word so far goes on from i to r; from there no word's byte comes, or the word is as long as a name may be
pub record Ran (text : List ℕ) (start i r : ℕ) : Type 0 where
  pub forward : i ≤ r
  pub within : r ≤ length text
  pub short : r ≤ start + name_length
  pub stops : r < start + name_length → is_name_byte (get_or text r 0) ≡ false
  pub grows : (v : List ℕ) → start + length v ≡ i → (x : List ℕ) × (start + length (v ++ x) ≡ r) × ((d : ℕ)
      → ScanPasses text (in_word v d) i [] (in_word (v ++ x) d) r) × (take (r - i) (drop i text) ≡ x)

-- behind `X[`: 33 is `!`, 93 is `]`
abbrev pub Strong : List ℕ → ℕ → Result Awaited Stop → Type 0
Strong text at (Ok (PrefixOperator next code)) = (at < next) × ((d : ℕ) → ScanPasses text (rest 33 (93 ∷ []) (pre strong_next) d) at (pre strong_next ∷ []) (ready d) next) ×
    (code ≡ unary_code strong_next)
Strong text at (Ok (Open next)) = ⊥
Strong text at (Ok (LeafWord next start)) = ⊥
Strong text at (Err stop) = (d : ℕ) → Stops text (rest 33 (93 ∷ []) (pre strong_next) d) at stop.0

-- the word from one offset to another is this leaf's
pub record LeafAt (text : List ℕ) (start next : ℕ) (l : Atom) : Type 0 where
  pub some : start < next
  pub within : next ≤ length text
  pub leaf : classify (take (next - start) (drop start text)) ≡ leafy l

-- what stands where an operand is awaited
abbrev pub Fronts : List ℕ → ℕ → Result Awaited Stop → Type 0
Fronts text at (Ok (PrefixOperator next code)) = (at < next) × (u : Unary) × ((d : ℕ) → ScanPasses text (ready d) at (pre u ∷ []) (ready d) next) × (code ≡ unary_code u)
Fronts text at (Ok (Open next)) = (at < next) × ((d : ℕ) → ScanPasses text (ready d) at (opens ∷ []) (ready (suc d)) next)
Fronts text at (Ok (LeafWord next start)) = (at < next) × (l : Atom) × ((d : ℕ) → ScanPasses text (ready d) at (atom l ∷ []) (after d) next) × LeafAt text start next l
Fronts text at (Err stop) = Refuses text at stop.0

-- .. from any offset: past the text's end there is no operand, and none is looked for
abbrev pub Front : List ℕ → ℕ → Result Awaited Stop → Type 0
Front text at r = (at ≤ length text → Fronts text at r) × (length text < at → r ≡ Err (record { 0 = at }))
