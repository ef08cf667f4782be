-- The infix operator that comes next in a text, from an offset on, in the terms of the grammar's scan (`Passing`).
-- Assumes nothing.
use Rattle.std.specs.Prelude.{◌≡◌, cond, List, [], ◌∷◌, Result, Ok, Err, ℕ, ◌+◌, drop, get_or}
use Rattle.sequence.specs.Operators.{Binary, binary_code}
use Rattle.names.specs.Names.{is_name_byte}
use Rattle.grammar.specs.Grammar.{level, right_level}
use Rattle.grammar.specs.Passing.{Peek, op, nothing, cut, expect, peek}
use Rattle.tokens.specs.declared.Stop.{Stop}
use Rattle.tokens.specs.declared.operator.Next.{Next}
use Rattle.tokens.specs.declared.operator.Next.TheVariants.{Infix, Nothing}

-- the next operator, with offsets of the whole text
abbrev pub PeekSaid : ℕ → Peek → Result Next Stop → Type 0
PeekSaid at (op o n) (Ok (Infix i)) = (i.level ≡ level o) × (i.right ≡ right_level o) × (i.next ≡ at + n) × (i.code ≡ binary_code o)
PeekSaid at (op o n) (Ok (Nothing i)) = ⊥
PeekSaid at (op o n) (Err stop) = ⊥
PeekSaid at (nothing n) (Ok (Infix i)) = ⊥
PeekSaid at (nothing n) (Ok (Nothing i)) = i ≡ at + n
PeekSaid at (nothing n) (Err stop) = ⊥
PeekSaid at (cut n) (Ok (Infix i)) = ⊥
PeekSaid at (cut n) (Ok (Nothing i)) = ⊥
PeekSaid at (cut n) (Err stop) = stop.0 ≡ at + n

abbrev pub Operator : List ℕ → ℕ → Result Next Stop → Type 0
Operator text at r = PeekSaid at (peek (drop at text)) r

-- the last byte of `->` or `<->`
abbrev pub Arrow : List ℕ → ℕ → ℕ → ℕ → Result Next Stop → Type 0
Arrow text at code right r = (o : Binary) → level o ≡ 0 → right_level o ≡ right → binary_code o ≡ code → PeekSaid at (expect (62 ∷ []) o (drop at text)) r

-- behind `U` or `R`
abbrev pub Word : List ℕ → ℕ → ℕ → ℕ → Result Next Stop → Type 0
Word text at code right r =
    (o : Binary) → level o ≡ 3 → right_level o ≡ right → binary_code o ≡ code → PeekSaid at (cond (is_name_byte (get_or text at 0)) (cut 0) (op o 0)) r
