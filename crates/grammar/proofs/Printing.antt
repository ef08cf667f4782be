-- "What the printer writes, read back": the text of a formula under good names is a formula to the grammar, with the tree that has the propositions'
-- names at its leaves.
-- Assumes nothing.
use mathlib.Core.Path.{refl}
use mathlib.Core.Bool.{true, false}
use mathlib.Core.List.{List, [], ◌∷◌, ◌++◌, append_assoc, append-nil}
use Prim.Native.Nat.{ℕ}
use native.Mathlib.Omega.{arith}
use Rattle.sequence.specs.Operators.{unary_token, binary_token}
use Rattle.formula.specs.Formula.{leaf, unary, binary, Leaf, proposition, Formula}
use Rattle.formula.specs.Formula as formula
use Rattle.text.specs.Text.{space, bracketed, leaf_text, text}
use Rattle.grammar.specs.Token.{constant, Typed, Token, pre, mid, atom, opens, closes, NoWordByte, SpelledBy, end, gap, token}
use Rattle.grammar.specs.Grammar.{Derives, alone, prefix, bracket, between}
use Rattle.grammar.specs.Naming.{atom_of, typed, GoodLeaf, AllNamed}
use Rattle.grammar.specs.Promises.{Printed}
use Rattle.grammar.proofs.Levels.{sides, lower}
use Rattle.grammar.proofs.Sound.{plain}

abbrev in_brackets : List Token → List Token
in_brackets ts = opens ∷ (ts ++ (closes ∷ []))

-- a printed formula's tokens
tokens : Typed → List Token
tokens (leaf l) = atom l ∷ []
tokens (unary u t) = pre u ∷ in_brackets (tokens t)
tokens (binary o l r) = in_brackets (tokens l) ++ (mid o ∷ in_brackets (tokens r))

derives : (t : Typed) → Derives 0 (tokens t) t
unfolding tokens
derives (leaf l) = lower (omega arith) (alone l)
derives (unary u t) = lower (omega arith) (prefix u (bracket (derives t)))
derives (binary o l r) = let s = sides o in lower (omega arith) (between o (lower (omega arith) (bracket (derives l))) (lower (omega arith) (bracket (derives r))))

-- the text spells the tokens, before whatever begins with no word's byte
abbrev Prints : List Token → List ℕ → Type 0
Prints ts text = (us : List Token) (more : List ℕ) → NoWordByte more → SpelledBy us more → SpelledBy (ts ++ us) (text ++ more)

-- in brackets, before anything
wrap : (ts : List Token) (text : List ℕ) → Prints ts text → {us : List Token} {more : List ℕ} → SpelledBy us more → SpelledBy (in_brackets ts ++ us) (bracketed text ++ more)
wrap ts text p {us} {more} s =
    let inner : SpelledBy ((ts ++ (closes ∷ [])) ++ us) ((text ++ (41 ∷ [])) ++ more) = rw
    (append_assoc ts (closes ∷ []) us, append_assoc text (41 ∷ []) more) (p (closes ∷ us) (41 ∷ more) refl (plain closes tt refl s)) in
    plain opens tt refl inner

module _ (names : List (List ℕ)) where
  prints-leaf : (c : Leaf) → GoodLeaf names c → Prints (atom (atom_of names c) ∷ []) (leaf_text names c)
  prints-leaf (proposition p) g us more a s = token (atom (atom_of names (proposition p))) g (λ _. a) s
  prints-leaf (formula.constant true) g us more a s = token (atom (constant true)) tt (λ _. a) s
  prints-leaf (formula.constant false) g us more a s = token (atom (constant false)) tt (λ _. a) s

  prints : (t : Formula) → AllNamed names t → Prints (tokens (typed names t)) (text names t)
  unfolding tokens typed AllNamed
  prints (leaf c) g us more a s = prints-leaf c g us more a s
  prints (unary u t) g us more a s =
      rw (append_assoc (unary_token u) (space ∷ bracketed (text names t)) more)
      (token (pre u) tt (λ _. refl) (gap (wrap (tokens (typed names t)) (text names t) (prints t g) s)))
  prints (binary o l r) g us more a s =
      let ls = tokens (typed names l) in
      let rs = tokens (typed names r) in
      let right : SpelledBy (mid o ∷ (in_brackets rs ++ us)) (binary_token o ++ (space ∷ (bracketed (text names r) ++ more))) = token (mid o) tt
      (λ _. refl) (gap (wrap rs (text names r) (prints r g.1) s)) in
      rw (
        append_assoc (in_brackets ls) (mid o ∷ in_brackets rs) us,
        append_assoc (bracketed (text names l)) (space ∷ (binary_token o ++ (space ∷ bracketed (text names r)))) more,
        append_assoc (binary_token o) (space ∷ bracketed (text names r)) more,
      )
      (wrap ls (text names l) (prints l g.0) (gap right))

pub printed : (names : List (List ℕ)) (t : Formula) → Printed names t
printed names t g =
    let s : SpelledBy (tokens (typed names t)) (text names t) = rw append-nil at (rw append-nil at (prints names t g [] [] tt end)) in
    record { tokens = tokens (typed names t); spelt = s; derived = derives (typed names t) }
