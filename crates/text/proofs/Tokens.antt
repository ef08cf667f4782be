-- The reserved words are the tokens that could be names, and nothing else; so no name in a formula's text is a token. An operator that is added to the
-- table with a word for its token has to be added to the reserved words too: `unary-reserved` and `binary-reserved` go through all operators.
-- Assumes nothing.
use mathlib.Core.Path.{◌≡◌, refl, sym, ap, subst}
use mathlib.Core.Logic.{◌⊎◌, inl, inr}
use mathlib.Core.Bool.{Bool, true, false}
use mathlib.Core.List.Memᴰ
use mathlib.Core.List.{List, [], ◌∷◌, ◌++◌, Memᴰ}
use Prim.Native.Nat.{ℕ, ◌≤◌}
use native.Mathlib.Decide.{dec_lt}
use native.Mathlib.Nat.{lt_of_not-le}
use native.Mathlib.Omega.{arith}
use lib.Dec.{lit≤}
use lib.ListN.{length, get_or, take, get_or-eq_default}
use Rattle.sequence.specs.Operators.{Unary, Binary, unary_token, binary_token}
use Rattle.sequence.specs.Operators.Unary.{not, weak_next, strong_next, finally, globally}
use Rattle.sequence.specs.Operators.Binary.{or, and, until, release, implies, equiv}
use Rattle.rules.specs.Lists.{Each}
use Rattle.formula.specs.Formula.{leaf, unary, binary, proposition, constant, Formula}
use Rattle.reading.proofs.Lists.{true-false}
use Rattle.reading.proofs.Ends.{each_at, end-sound}
use Rattle.names.specs.Reserved.{reserved}
use Rattle.names.specs.Names.{GoodName, names_up_to, names_in}
use Rattle.rules.specs.Limits.{most_propositions}
use Rattle.names.proofs.NameLaws.{names-sound}
use Rattle.text.specs.Text.{leaf_text}
use Rattle.text.specs.Tokens.{IsToken, IsWord, names_of}
use Rattle.text.specs.Promises.{NoNameIsAToken}

-- ---- the reserved words

-- every token that is a word is reserved
pub unary-reserved : (op : Unary) → IsWord (unary_token op) → Memᴰ (unary_token op) reserved
unfolding Each reserved
unary-reserved not w = absurd (true-false w.1.0 refl)
unary-reserved weak_next w = Memᴰ.tail (Memᴰ.tail (Memᴰ.head refl))
unary-reserved strong_next w = absurd (true-false w.1.1.0 refl)
unary-reserved finally w = Memᴰ.tail (Memᴰ.tail (Memᴰ.tail (Memᴰ.head refl)))
unary-reserved globally w = Memᴰ.tail (Memᴰ.tail (Memᴰ.tail (Memᴰ.tail (Memᴰ.head refl))))

pub binary-reserved : (op : Binary) → IsWord (binary_token op) → Memᴰ (binary_token op) reserved
unfolding Each reserved
binary-reserved or w = absurd (true-false w.1.0 refl)
binary-reserved and w = absurd (true-false w.1.0 refl)
binary-reserved until w = Memᴰ.head refl
binary-reserved release w = Memᴰ.tail (Memᴰ.head refl)
binary-reserved implies w = absurd (true-false w.1.0 refl)
binary-reserved equiv w = absurd (true-false w.1.0 refl)

pub constant-reserved : (b : Bool) → Memᴰ (leaf_text [] (constant b)) reserved
unfolding reserved
constant-reserved true = Memᴰ.tail (Memᴰ.tail (Memᴰ.tail (Memᴰ.tail (Memᴰ.tail (Memᴰ.head refl)))))
constant-reserved false = Memᴰ.tail (Memᴰ.tail (Memᴰ.tail (Memᴰ.tail (Memᴰ.tail (Memᴰ.tail (Memᴰ.head refl))))))

-- so a token that is a word is reserved, and a reserved word is a token
pub word-reserved : (w : List ℕ) → IsWord w → IsToken w → Memᴰ w reserved
word-reserved w s (inl (op, e)) = subst (λ (x : List ℕ). Memᴰ x reserved) e (unary-reserved op (subst IsWord (sym e) s))
word-reserved w s (inr (inl (op, e))) = subst (λ (x : List ℕ). Memᴰ x reserved) e (binary-reserved op (subst IsWord (sym e) s))
word-reserved w s (inr (inr (b, e))) = subst (λ (x : List ℕ). Memᴰ x reserved) e (constant-reserved b)

pub reserved-token : (w : List ℕ) → Memᴰ w reserved → IsToken w
unfolding reserved
reserved-token w m = one (Memᴰ.cases_cons m)
  where
    seven : (w ≡ 102 ∷ 97 ∷ 108 ∷ 115 ∷ 101 ∷ []) ⊎ Memᴰ w [] → IsToken w
    seven (inl e) = inr (inr (false, sym e))
    seven (inr n) = absurd (Memᴰ.not-nil n)

    six : (w ≡ 116 ∷ 114 ∷ 117 ∷ 101 ∷ []) ⊎ Memᴰ w ((102 ∷ 97 ∷ 108 ∷ 115 ∷ 101 ∷ []) ∷ []) → IsToken w
    six (inl e) = inr (inr (true, sym e))
    six (inr n) = seven (Memᴰ.cases_cons n)

    five : (w ≡ 71 ∷ []) ⊎ Memᴰ w ((116 ∷ 114 ∷ 117 ∷ 101 ∷ []) ∷ (102 ∷ 97 ∷ 108 ∷ 115 ∷ 101 ∷ []) ∷ []) → IsToken w
    five (inl e) = inl (globally, sym e)
    five (inr n) = six (Memᴰ.cases_cons n)

    four : (w ≡ 70 ∷ []) ⊎ Memᴰ w ((71 ∷ []) ∷ (116 ∷ 114 ∷ 117 ∷ 101 ∷ []) ∷ (102 ∷ 97 ∷ 108 ∷ 115 ∷ 101 ∷ []) ∷ []) → IsToken w
    four (inl e) = inl (finally, sym e)
    four (inr n) = five (Memᴰ.cases_cons n)

    three : (w ≡ 88 ∷ []) ⊎ Memᴰ w ((70 ∷ []) ∷ (71 ∷ []) ∷ (116 ∷ 114 ∷ 117 ∷ 101 ∷ []) ∷ (102 ∷ 97 ∷ 108 ∷ 115 ∷ 101 ∷ []) ∷ []) → IsToken w
    three (inl e) = inl (weak_next, sym e)
    three (inr n) = four (Memᴰ.cases_cons n)

    two : (w ≡ 82 ∷ []) ⊎ Memᴰ w ((88 ∷ []) ∷ (70 ∷ []) ∷ (71 ∷ []) ∷ (116 ∷ 114 ∷ 117 ∷ 101 ∷ []) ∷ (102 ∷ 97 ∷ 108 ∷ 115 ∷ 101 ∷ []) ∷ []) → IsToken w
    two (inl e) = inr (inl (release, sym e))
    two (inr n) = three (Memᴰ.cases_cons n)

    one : (w ≡ 85 ∷ []) ⊎ Memᴰ w ((82 ∷ []) ∷ (88 ∷ []) ∷ (70 ∷ []) ∷ (71 ∷ []) ∷ (116 ∷ 114 ∷ 117 ∷ 101 ∷ []) ∷ (102 ∷ 97 ∷ 108 ∷ 115 ∷ 101 ∷ []) ∷ []) → IsToken w
    one (inl e) = inr (inl (until, sym e))
    one (inr n) = two (Memᴰ.cases_cons n)

-- ---- names

-- a good name is no token
pub good-no-token : (before : List (List ℕ)) (w : List ℕ) → GoodName before w → IsToken w → ⊥
good-no-token before w g t = g.free (word-reserved w (g.some, g.letters) t)

-- no token is empty
some-token : (w : List ℕ) → IsToken w → 1 ≤ length w
some-token w (inl (op, e)) = subst (λ (x : List ℕ). 1 ≤ length x) e (by op)
  where
    by : (op : Unary) → 1 ≤ length (unary_token op)
    by not = lit≤ tt
    by weak_next = lit≤ tt
    by strong_next = lit≤ tt
    by finally = lit≤ tt
    by globally = lit≤ tt
some-token w (inr (inl (op, e))) = subst (λ (x : List ℕ). 1 ≤ length x) e (by op)
  where
    by : (op : Binary) → 1 ≤ length (binary_token op)
    by or = lit≤ tt
    by and = lit≤ tt
    by until = lit≤ tt
    by release = lit≤ tt
    by implies = lit≤ tt
    by equiv = lit≤ tt
some-token w (inr (inr (true, e))) = subst (λ (x : List ℕ). 1 ≤ length x) e (lit≤ tt)
some-token w (inr (inr (false, e))) = subst (λ (x : List ℕ). 1 ≤ length x) e (lit≤ tt)

module _ (names : List (List ℕ)) (good : Each GoodName [] names) where
  -- whatever number a leaf has: past the last name nothing stands there
  no-token-at : (p : ℕ) → IsToken (get_or names p []) → ⊥
  no-token-at p t =
      elim (dec_lt p (length names)) [
        | yes h ↦ good-no-token ([] ++ take p names) (get_or names p []) (each_at GoodName [] names [] good p h) t
        | no h ↦
            let n = some-token (get_or names p []) t in
            let e : get_or names p [] ≡ [] = get_or-eq_default names [] {n = p} (omega (arith, lt_of_not-le h)) in
            omega (arith, n, ap length e)
      ]

  no-name-is-token : (t : Formula) (w : List ℕ) → Memᴰ w (names_of names t) → IsToken w → ⊥
  no-name-is-token (leaf (proposition p)) w m s = alone (Memᴰ.cases_cons m)
    where
      alone : (w ≡ get_or names p []) ⊎ Memᴰ w [] → ⊥
      alone (inl e) = no-token-at p (subst IsToken e s)
      alone (inr n) = Memᴰ.not-nil n
  no-name-is-token (leaf (constant b)) w m s = Memᴰ.not-nil m
  no-name-is-token (unary op t) w m s = no-name-is-token t w m s
  no-name-is-token (binary op l r) w m s = either (λ n. no-name-is-token l w n s) (λ n. no-name-is-token r w n s) (Memᴰ.append_cases (names_of names l) m)
    where
      either : (Memᴰ w (names_of names l) → ⊥) → (Memᴰ w (names_of names r) → ⊥) → Memᴰ w (names_of names l) ⊎ Memᴰ w (names_of names r) → ⊥
      either f g (inl n) = f n
      either f g (inr n) = g n

pub no-name-is-a-token : NoNameIsAToken
no-name-is-a-token file g t w =
    let good = names-sound file most_propositions 0 (end-sound file (names_up_to most_propositions file 0) g.1).0 in
    no-name-is-token (names_in file) good.fits t w
