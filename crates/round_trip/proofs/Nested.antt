-- How deep the brackets of a printed formula nest: no deeper than its size.
-- Assumes nothing.
use mathlib.Core.Path.{◌≡◌, refl, sym, ap, subst, ◌∙◌}
use mathlib.Core.Bool.{Bool, true, false, cond}
use mathlib.Core.List.{List, [], ◌∷◌, ◌++◌}
use Prim.Native.Nat.{ℕ, zero, suc, ◌+◌, ◌-◌, ◌≤◌, ◌<◌}
use native.Mathlib.Omega.{arith}
use native.Mathlib.Decide.{dec_le}
use borrow.Author.Tests.{eqb-true}
use lib.Dec.{eqb}
use lib.ListN.{length, get_or, take}
use lib.Seq.{take-nil}
use Rattle.sequence.specs.Operators.{Unary, Binary, unary_token, binary_token}
use Rattle.sequence.specs.Operators.Unary.{not, weak_next, strong_next, finally, globally}
use Rattle.sequence.specs.Operators.Binary.{or, and, until, release, implies, equiv}
use Rattle.formula.specs.Formula.{leaf, unary, binary, size, Leaf, proposition, constant, Formula}
use Rattle.reading.proofs.Lists.{true-false}
use Rattle.names.specs.Names.{is_name_byte}
use Rattle.text.specs.Text.{space, bracketed, leaf_text, text}
use Rattle.grammar.proofs.Words.{WordBytes}
use Rattle.typed.specs.Words.{how_many, most_brackets, Deep}
use Rattle.round_trip.proofs.Worded.{AllListed, Listed}

many-both : (b : ℕ) (xs ys : List ℕ) → how_many b (xs ++ ys) ≡ how_many b xs + how_many b ys
unfolding how_many
many-both b [] ys = omega arith
many-both b (x ∷ xs) ys = omega (arith, many-both b xs ys)

-- after any number of its bytes at most d brackets are open, and at its end none
record Shallow (d : ℕ) (t : List ℕ) : Type 0 where
  under : (j : ℕ) → how_many 40 (take j t) ≤ d + how_many 41 (take j t)
  even : how_many 40 t ≡ how_many 41 t

deeper : {d e : ℕ} {t : List ℕ} → d ≤ e → Shallow d t → Shallow e t
deeper h s = record { under = λ j. let u = s.under j in omega arith; even = s.even }

-- the bytes of the first list, then those of the second
parted : (b : ℕ) (xs ys : List ℕ) (j : ℕ) → how_many b (take j (xs ++ ys)) ≡ how_many b (take j xs) + how_many b (take (j - length xs) ys)
unfolding how_many
parted b [] ys j =
    let z : j - 0 ≡ j = omega arith in
    omega (arith, ap (how_many b) (take-nil j), ap (λ (n : ℕ). how_many b (take n ys)) z)
parted b (x ∷ xs) ys zero = let z : 0 - suc (length xs) ≡ 0 = omega arith in omega (arith, ap (λ (n : ℕ). how_many b (take n ys)) z)
parted b (x ∷ xs) ys (suc j) = let z : suc j - suc (length xs) ≡ j - length xs = omega arith in omega (arith, parted b xs ys j, ap (λ (n : ℕ). how_many b (take n ys)) z)

-- behind the end of a list all of it is taken
all-taken : (b : ℕ) (xs : List ℕ) (j : ℕ) → length xs ≤ j → how_many b (take j xs) ≡ how_many b xs
unfolding how_many
all-taken b [] zero h = refl
all-taken b [] (suc j) h = refl
all-taken b (x ∷ xs) zero h = absurd (omega arith)
all-taken b (x ∷ xs) (suc j) h = omega (arith, all-taken b xs j (omega arith))

none-taken : (b : ℕ) (ys : List ℕ) (n : ℕ) → n ≡ 0 → how_many b (take n ys) ≡ 0
unfolding how_many
none-taken b ys n e = rw e

joined : {d : ℕ} {xs ys : List ℕ} → Shallow d xs → Shallow d ys → Shallow d (xs ++ ys)
joined {d} {xs} {ys} s r = record {
  under = λ j. elim (dec_le (length xs) j) [
    | yes h ↦
        let a = r.under (j - length xs) in
        omega (arith, parted 40 xs ys j, parted 41 xs ys j, all-taken 40 xs j h, all-taken 41 xs j h, s.even)
    | no h ↦
        let z : j - length xs ≡ 0 = omega arith in
        let a = s.under j in
        omega (arith, parted 40 xs ys j, parted 41 xs ys j, none-taken 40 ys (j - length xs) z, none-taken 41 ys (j - length xs) z)
  ];
  even = omega (arith, many-both 40 xs ys, many-both 41 xs ys, s.even, r.even);
}

-- a bracket before and after
in-brackets : {d : ℕ} {t : List ℕ} → Shallow d t → Shallow (suc d) (bracketed t)
unfolding how_many
in-brackets {d} {t} s = record {
  under = λ j. by_place j;
  even = omega (arith, many-both 40 t (41 ∷ []), many-both 41 t (41 ∷ []), s.even);
}
  where
    last : (n : ℕ) → how_many 40 (take n (41 ∷ [])) ≡ 0
    last zero = refl
    last (suc zero) = refl
    last (suc (suc n)) = refl

    by_place : (j : ℕ) → how_many 40 (take j (bracketed t)) ≤ suc d + how_many 41 (take j (bracketed t))
    by_place zero = omega arith
    by_place (suc j) =
        let a = s.under j in
        omega (arith, parted 40 t (41 ∷ []) j, parted 41 t (41 ∷ []) j, last (j - length t))

-- ---- parts without brackets

abbrev Bare : List ℕ → Type 0
Bare [] = Unit {0}
Bare (b ∷ w) = (eqb b 40 ≡ false) × (eqb b 41 ≡ false) × Bare w

bare-none : (w : List ℕ) → Bare w → (j : ℕ) → (how_many 40 (take j w) ≡ 0) × (how_many 41 (take j w) ≡ 0)
unfolding how_many
bare-none [] h zero = (refl, refl)
bare-none [] h (suc j) = (refl, refl)
bare-none (b ∷ w) h zero = (refl, refl)
bare-none (b ∷ w) h (suc j) =
    let i = bare-none w h.2 j in
    let x : ◌≡◌ {A = ℕ} (cond (eqb b 40) 1 0) 0 = ap (λ (t : Bool). cond t 1 0) h.0 in
    let y : ◌≡◌ {A = ℕ} (cond (eqb b 41) 1 0) 0 = ap (λ (t : Bool). cond t 1 0) h.1 in
    (omega (arith, i.0), omega (arith, i.1))

bare-shallow : (w : List ℕ) → Bare w → Shallow 0 w
bare-shallow w h = record {
  under = λ j. omega (arith, (bare-none w h j).0);
  even =
      let n = bare-none w h (length w) in
      omega (arith, n.0, n.1, all-taken 40 w (length w) (omega arith), all-taken 41 w (length w) (omega arith));
}

no-bracket : (b c : ℕ) → is_name_byte c ≡ false → is_name_byte b ≡ true → eqb b c ≡ false
no-bracket b c n h = go (eqb b c) refl
  where
    go : (t : Bool) → eqb b c ≡ t → t ≡ false
    go true e = absurd (true-false h (rw (eqb-true b c e) n))
    go false e = refl

word-bare : (w : List ℕ) → WordBytes w → Bare w
word-bare [] h = tt
word-bare (b ∷ w) h = (no-bracket b 40 refl h.0, no-bracket b 41 refl h.0, word-bare w h.1)

unary-bare : (u : Unary) → Bare (unary_token u)
unary-bare not = (refl, refl, tt)
unary-bare weak_next = (refl, refl, tt)
unary-bare strong_next = (refl, refl, (refl, refl, (refl, refl, (refl, refl, tt))))
unary-bare finally = (refl, refl, tt)
unary-bare globally = (refl, refl, tt)

binary-bare : (o : Binary) → Bare (binary_token o)
binary-bare or = (refl, refl, tt)
binary-bare and = (refl, refl, tt)
binary-bare until = (refl, refl, tt)
binary-bare release = (refl, refl, tt)
binary-bare implies = (refl, refl, (refl, refl, tt))
binary-bare equiv = (refl, refl, (refl, refl, (refl, refl, tt)))

-- ---- a printed formula

module _ (names : List (List ℕ)) where
  leaf-bare : (c : Leaf) → Listed names c → Bare (leaf_text names c)
  leaf-bare (proposition p) h = word-bare (get_or names p []) h.0
  leaf-bare (constant true) h = word-bare (leaf_text [] (constant true)) (refl, (refl, (refl, (refl, tt))))
  leaf-bare (constant false) h = word-bare (leaf_text [] (constant false)) (refl, (refl, (refl, (refl, (refl, tt)))))

  spaced : {d : ℕ} {t : List ℕ} → Shallow d t → Shallow d (space ∷ t)
  spaced {d} {t} s = joined {xs = space ∷ []} (deeper (omega arith) (bare-shallow (space ∷ []) (refl, refl, tt))) s

  nested : (t : Formula) → AllListed names t → Shallow (size t) (text names t)
  unfolding AllListed
  nested (leaf c) h = deeper (omega arith) (bare-shallow (leaf_text names c) (leaf-bare c h))
  nested (unary u t) h =
      joined (deeper (omega arith) (bare-shallow (unary_token u) (unary-bare u))) (spaced (deeper (omega arith) (in-brackets (nested t h))))
  nested (binary o l r) h =
      joined (deeper (omega arith) (in-brackets (nested l h.0)))
      (spaced (joined (deeper (omega arith) (bare-shallow (binary_token o) (binary-bare o)))
      (spaced (deeper (omega arith) (in-brackets (nested r h.1))))))

  -- so a formula of a size that print takes is not too deep
  pub not-deep : (t : Formula) → AllListed names t → size t ≤ most_brackets → Deep (text names t) → ⊥
  not-deep t h l (j, d) = let u = (nested t h).under j in omega arith
