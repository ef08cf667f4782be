-- A list that is filled from the front, one element a turn of a loop.
-- Assumes nothing.
use mathlib.Core.Path.{◌≡◌, sym, ◌∙◌, ap}
use mathlib.Core.List.{List, [], ◌∷◌, ◌++◌}
use Prim.Native.Nat.{ℕ, ◌+◌, ◌<◌, min}
use native.Mathlib.Numerals.{add-one}
use native.Mathlib.Decide.{dec_le}
use native.Mathlib.Omega.{arith}
use lib.ListN.{length, get_or, set, take}
use lib.Seq.{take_all, take-suc, take-suc-set}

-- the first i are L's, and so are the first i + 1 once L's element i is stored
pub one_more : {A : Type 0} (d : A) (L ys : List A) (i : ℕ) (v : A)
    → i < length L → i < length ys → get_or L i d ≡ v → take i ys ≡ take i L → take (i + 1) (set ys i v) ≡ take (i + 1) L
one_more {A} d L ys i v h h' e t =
    ap (λ (k : ℕ). take k (set ys i v)) (add-one i)
    ∙ take-suc-set ys i v h'
    ∙ ap (λ (l : List A). l ++ (v ∷ [])) t
    ∙ ap (λ (a : A). take i L ++ (a ∷ [])) (sym e)
    ∙ sym (take-suc L i d h)
    ∙ ap (λ (k : ℕ). take k L) (sym (add-one i))

-- as many as both have are L's
pub as_many : {A : Type 0} (L ys : List A) (i room : ℕ)
    → i ≡ min (length L) room → length ys ≡ room → take i ys ≡ take i L → take room L ≡ take (length L) ys
as_many {A} L ys i room m e t =
    elim (dec_le (length L) room) [
      | yes h ↦ let j : i ≡ length L = omega arith in
          take_all room L h ∙ sym (take_all i L (omega arith)) ∙ sym t ∙ ap (λ (k : ℕ). take k ys) j
      | no h ↦ let j : i ≡ room = omega arith in
          ap (λ (k : ℕ). take k L) (sym j) ∙ sym t ∙ take_all i ys (omega arith) ∙ sym (take_all (length L) ys (omega arith))
    ]
