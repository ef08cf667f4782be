-- Texts read by computing: the offset of 11, and the tree.
-- Assumes nothing.
use mathlib.Core.Path.{◌≡◌, refl}
use mathlib.Core.Bool.{true}
use mathlib.Core.List.{List, [], ◌∷◌, map}
use Prim.Native.Nat.{ℕ}
use Rattle.formula.specs.Formula.{leaf, unary, binary}
use Rattle.grammar.specs.Token.{Typed, name, constant}
use Rattle.sequence.specs.Operators.Unary.{not, weak_next, strong_next, finally, globally}
use Rattle.sequence.specs.Operators.Binary.{or, and, until, release, implies, equiv}
use Rattle.grammar.specs.Grammar.{Reads, Refused11}
use Rattle.grammar.specs.Scan.{bad, scan, scan_text, scan_step, kind, classify, scan_end}
use Rattle.grammar.specs.Reader.{got, read_text, read_infix}
use Rattle.grammar.proofs.Theorems.{scan-refused, read-formula}

abbrev P : Typed
P = leaf (name (112 ∷ []))

abbrev Q : Typed
Q = leaf (name (113 ∷ []))

abbrev R : Typed
R = leaf (name (114 ∷ []))

-- ---- refused, with the offset

record Refusal : Type 0 where
  text : List ℕ
  offset : ℕ

abbrev at : ℕ → List ℕ → Refusal
at k text = record { text = text; offset = k }

refusals : List Refusal
refusals =
    at 1 (85 ∷ 32 ∷ 112 ∷ [])  -- `U p`
    ∷ at 3 (112 ∷ 32 ∷ 85 ∷ 113 ∷ [])  -- `p Uq`
    ∷ at 4 (112 ∷ 32 ∷ 60 ∷ 45 ∷ 32 ∷ 113 ∷ [])  -- `p <- q`
    ∷ at 3 (122 ∷ 122 ∷ 32 ∷ 41 ∷ [])  -- `zz )`
    ∷ at 2 (88 ∷ 32 ∷ 91 ∷ 33 ∷ 93 ∷ 32 ∷ 112 ∷ [])  -- `X [!] p`
    ∷ at 16 (97 ∷ 97 ∷ 97 ∷ 97 ∷ 97 ∷ 97 ∷ 97 ∷ 97 ∷ 97 ∷ 97 ∷ 97 ∷ 97 ∷ 97 ∷ 97 ∷ 97 ∷ 97 ∷ 97 ∷ [])  -- 17 letters
    ∷ at 0 ([])  -- nothing
    ∷ at 1 (112 ∷ 40 ∷ [])  -- `p(`
    ∷ at 2 (40 ∷ 112 ∷ [])  -- `(p`
    ∷ at 3 (112 ∷ 32 ∷ 85 ∷ 88 ∷ 91 ∷ 33 ∷ 93 ∷ 113 ∷ [])  -- `p UX[!]q`
    ∷ at 3 (112 ∷ 32 ∷ 45 ∷ [])  -- `p -`
    ∷ at 3 (88 ∷ 91 ∷ 33 ∷ [])  -- `X[!`
    ∷ at 0 (49 ∷ 112 ∷ [])  -- `1p`
    ∷ at 1 (85 ∷ [])  -- `U`
    ∷ at 3 (40 ∷ 112 ∷ 41 ∷ 41 ∷ [])  -- `(p))`
    ∷ at 2 (112 ∷ 32 ∷ 113 ∷ [])  -- `p q`
    ∷ at 16 (97 ∷ 97 ∷ 97 ∷ 97 ∷ 97 ∷ 97 ∷ 97 ∷ 97 ∷ 97 ∷ 97 ∷ 97 ∷ 97 ∷ 97 ∷ 97 ∷ 97 ∷ 97 ∷ 97 ∷ 32 ∷ 38 ∷ 32 ∷ 112 ∷ [])  -- 17 letters and ` & p`
    ∷ at 1 (112 ∷ 9 ∷ 113 ∷ [])  -- `p<tab>q`
    ∷ []

refused : map (λ r. scan_text r.text) refusals ≡ map (λ r. bad r.offset) refusals
unfolding refusals scan scan_step kind classify scan_end
refused = refl

-- ---- read, with the tree

record Reading : Type 0 where
  text : List ℕ
  tree : Typed

abbrev to : Typed → List ℕ → Reading
to t text = record { text = text; tree = t }

readings : List Reading
readings =
    to P (112 ∷ [])  -- `p`
    ∷ to (unary strong_next P) (88 ∷ 91 ∷ 33 ∷ 93 ∷ 112 ∷ [])  -- `X[!]p`
    ∷ to (leaf (name (88 ∷ 112 ∷ []))) (88 ∷ 112 ∷ [])  -- `Xp`
    ∷ to (unary not (unary weak_next P)) (32 ∷ 33 ∷ 32 ∷ 88 ∷ 32 ∷ 112 ∷ 32 ∷ [])  -- ` ! X p `
    ∷ to (binary until P (binary until Q R)) (112 ∷ 32 ∷ 85 ∷ 32 ∷ 113 ∷ 32 ∷ 85 ∷ 32 ∷ 114 ∷ [])  -- `p U q U r`
    ∷ to (binary and (binary and P Q) R) (112 ∷ 32 ∷ 38 ∷ 32 ∷ 113 ∷ 32 ∷ 38 ∷ 32 ∷ 114 ∷ [])  -- `p & q & r`
    ∷ to (binary or P (binary and Q R)) (112 ∷ 124 ∷ 113 ∷ 38 ∷ 114 ∷ [])  -- `p|q&r`
    ∷ to (binary implies P (binary equiv Q R)) (112 ∷ 32 ∷ 45 ∷ 62 ∷ 32 ∷ 113 ∷ 32 ∷ 60 ∷ 45 ∷ 62 ∷ 32 ∷ 114 ∷ [])  -- `p -> q <-> r`
    ∷ to (binary until (unary not P) (binary release Q R)) (33 ∷ 112 ∷ 32 ∷ 85 ∷ 32 ∷ 113 ∷ 32 ∷ 82 ∷ 32 ∷ 114 ∷ [])  -- `!p U q R r`
    ∷ to (binary implies (binary or (binary and (binary release P Q) R) P) Q)
    (112 ∷ 32 ∷ 82 ∷ 32 ∷ 113 ∷ 32 ∷ 38 ∷ 32 ∷ 114 ∷ 32 ∷ 124 ∷ 32 ∷ 112 ∷ 32 ∷ 45 ∷ 62 ∷ 32 ∷ 113 ∷ [])  -- `p R q & r | p -> q`
    ∷ to (binary until (unary finally P) Q) (70 ∷ 40 ∷ 112 ∷ 41 ∷ 85 ∷ 40 ∷ 113 ∷ 41 ∷ [])  -- `F(p)U(q)`
    ∷ to (unary globally (binary implies P (leaf (constant true)))) (71 ∷ 40 ∷ 112 ∷ 32 ∷ 45 ∷ 62 ∷ 32 ∷ 116 ∷ 114 ∷ 117 ∷ 101 ∷ 41 ∷ [])  -- `G(p -> true)`
    ∷ to P (40 ∷ 40 ∷ 112 ∷ 41 ∷ 41 ∷ [])  -- `((p))`
    ∷ []

read : map (λ r. read_text r.text) readings ≡ map (λ r. got r.tree []) readings
unfolding readings scan scan_step kind classify scan_end read_infix
read = refl

-- ---- so the definitions themselves say it of a text: `U p`, and `p & q & r`

refused-first : Refused11 (85 ∷ 32 ∷ 112 ∷ []) 1
unfolding scan scan_step kind classify scan_end
refused-first = scan-refused refl

left_and : Reads (112 ∷ 32 ∷ 38 ∷ 32 ∷ 113 ∷ 32 ∷ 38 ∷ 32 ∷ 114 ∷ []) (binary and (binary and P Q) R)
unfolding scan scan_step kind classify scan_end read_infix
left_and = read-formula (112 ∷ 32 ∷ 38 ∷ 32 ∷ 113 ∷ 32 ∷ 38 ∷ 32 ∷ 114 ∷ []) refl
