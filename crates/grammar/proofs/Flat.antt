-- Precedence does not matter for what is an expression: tokens are one just where operands and infix operators alternate and brackets match.
-- Assumes nothing.
use mathlib.Core.Path.{◌≡◌, refl, sym, ap, ◌∙◌}
use mathlib.Core.List.{List, [], ◌∷◌, ◌++◌, append_assoc, append-nil}
use Prim.Native.Nat.{ℕ, zero, suc, ◌≤◌}
use native.Mathlib.Omega.{arith}
use native.Mathlib.Decide.{dec_le}
use native.Mathlib.Nat.{lt_of_not-le}
use Rattle.sequence.specs.Operators.{Unary, Binary}
use Rattle.grammar.specs.Token.{Typed, Atom, Token, pre, mid, atom, opens, closes}
use Rattle.grammar.specs.Grammar.{level, left_level, right_level, operand, Derives, alone, prefix, bracket, between, looser}
use Rattle.grammar.proofs.Levels.{sides, takes-over, lower}

pub data Phase : Type 0 where
  awaits has : Phase

-- what may come where an operand is awaited, or is there, inside so many brackets
pub data Flat : Phase → ℕ → List Token → Type 0 where
  done : Flat has zero []
  leaves : {d : ℕ} {ts : List Token} (l : Atom) → Flat has d ts → Flat awaits d (atom l ∷ ts)
  prefixes : {d : ℕ} {ts : List Token} (u : Unary) → Flat awaits d ts → Flat awaits d (pre u ∷ ts)
  opened : {d : ℕ} {ts : List Token} → Flat awaits (suc d) ts → Flat awaits d (opens ∷ ts)
  infixes : {d : ℕ} {ts : List Token} (o : Binary) → Flat awaits d ts → Flat has d (mid o ∷ ts)
  closed : {d : ℕ} {ts : List Token} → Flat has d ts → Flat has (suc d) (closes ∷ ts)

-- ---- an expression is flat

pub flat : {n : ℕ} {ts : List Token} {t : Typed} → Derives n ts t → (d : ℕ) (more : List Token) → Flat has d more → Flat awaits d (ts ++ more)
flat (alone l) d more f = leaves l f
flat (prefix u e) d more f = prefixes u (flat e d more f)
flat (bracket {ts} e) d more f =
    let inner : Flat awaits (suc d) ((ts ++ (closes ∷ [])) ++ more) = rw (append_assoc ts) (flat e (suc d) (closes ∷ more) (closed f)) in
    opened inner
flat (between {ls} {rs} o a b) d more f = rw (append_assoc ls) (flat a d (mid o ∷ (rs ++ more)) (infixes o (flat b d more f)))
flat (looser e) d more f = flat e d more f

-- ---- what is flat is an expression

abbrev Some : ℕ → List Token → Type 0
Some n ts = (t : Typed) × Derives n ts t

-- a prefix operator goes to the leftmost operand
put-prefix : (u : Unary) {n : ℕ} {ts : List Token} {t : Typed} → Derives n ts t → Some n (pre u ∷ ts)
put-prefix u (alone l) = (_, prefix u (alone l))
put-prefix u (prefix v e) = (_, prefix u (prefix v e))
put-prefix u (bracket e) = (_, prefix u (bracket e))
put-prefix u (between o a b) = (_, between o (put-prefix u a).1 b)
put-prefix u (looser e) = (_, looser (put-prefix u e).1)

module _ {us : List Token} {a : Typed} (first : Derives operand us a) (o : Binary) where
  whole : {n : ℕ} {ts : List Token} {t : Typed} → Derives n ts t → right_level o ≤ n → (m : ℕ) → m ≤ level o → Some m (us ++ (mid o ∷ ts))
  whole e r m h = let s = sides o in (_, lower h (between o (lower (omega arith) first) (lower r e)))

  -- an operand and an infix operator go before an expression: whole, or into its left side
  put-infix : {n : ℕ} {ts : List Token} {t : Typed} → Derives n ts t → (m : ℕ) → m ≤ n → m ≤ level o → Some m (us ++ (mid o ∷ ts))
  put-infix (alone l) m h g = let s = sides o in whole (alone l) (omega arith) m g
  put-infix (prefix u e) m h g = let s = sides o in whole (prefix u e) (omega arith) m g
  put-infix (bracket e) m h g = let s = sides o in whole (bracket e) (omega arith) m g
  put-infix (looser e) m h g = put-infix e m (omega arith) g
  put-infix (between {ls} {rs} p x y) m h g =
      elim (dec_le (left_level p) (level o)) [
        | yes l ↦
            let i = put-infix x (left_level p) (omega arith) l in
            (_, lower h (rw (append_assoc us (mid o ∷ ls) (mid p ∷ rs)) at (between p i.1 y)))
        | no l ↦ whole (between p x y) (elim (dec_le (right_level o) (level p)) [ yes r ↦ r | no r ↦ absurd (l (takes-over o p (lt_of_not-le r))) ]) m g
      ]

-- an expression, and after it all that the open brackets await
abbrev Front : (List Token → Type 0) → List Token → Type 0
Front End ts = (xs : List Token) × (rest : List Token) × (ts ≡ xs ++ rest) × Some 0 xs × End rest

End : ℕ → List Token → Type 0
End zero rest = rest ≡ []
End (suc d) rest = (ts : List Token) × (rest ≡ closes ∷ ts) × ((us : List Token) → Some operand us → Front (End d) (us ++ ts))

abbrev Meaning : Phase → ℕ → List Token → Type 0
Meaning awaits d ts = Front (End d) ts
Meaning has d ts = (us : List Token) → Some operand us → Front (End d) (us ++ ts)

meaning : {p : Phase} {d : ℕ} {ts : List Token} → Flat p d ts → Meaning p d ts
unfolding End
meaning done = λ us a. (us, [], refl, (_, lower (omega arith) a.1), refl)
meaning (leaves l f) = meaning f (atom l ∷ []) (_, alone l)
meaning (prefixes u f) =
    let m = meaning f in
    (pre u ∷ m.0, m.1, ap (λ (x : List Token). pre u ∷ x) m.2, put-prefix u m.3.1, m.4)
meaning (opened {d} {ts} f) =
    let m = meaning f in
    let xs = m.0 in
    let e : opens ∷ ts ≡ (opens ∷ (xs ++ (closes ∷ []))) ++ m.4.0 = ap (λ (x : List Token). opens ∷ x)
    (m.2 ∙ ap (λ (x : List Token). xs ++ x) m.4.1 ∙ sym (append_assoc xs (closes ∷ []) m.4.0)) in
    rw e (m.4.2 (opens ∷ (xs ++ (closes ∷ []))) (_, bracket m.3.1))
meaning (infixes {d} {ts} o f) = λ us a.
    let m = meaning f in
    (us ++ (mid o ∷ m.0), m.1, ap (λ (x : List Token). us ++ (mid o ∷ x)) m.2 ∙ sym (append_assoc us (mid o ∷ m.0) m.1), put-infix a.1 o m.3.1 0 (omega arith) (omega arith), m.4)
meaning (closed {d} {ts} f) = λ us a. (us, closes ∷ ts, refl, (_, lower (omega arith) a.1), (ts, refl, meaning f))

pub from-flat : {ts : List Token} → Flat awaits 0 ts → (t : Typed) × Derives 0 ts t
unfolding End
from-flat {ts} f =
    let m = meaning f in
    let e : ts ≡ m.0 = m.2 ∙ ap (λ (x : List Token). m.0 ++ x) m.4 ∙ append-nil m.0 in
    rw e m.3
