-- A number said after a list's first numbers is said where the list has it; where a write fails, a front of the list is said.
-- Assumes nothing.
use Rattle.std.proofs.Common.{◌≡◌, ℕ, ◌+◌, ◌<◌, List, [], ◌∷◌, ◌++◌, length, take, drop, slice_index_or, refl, sym, ap, ◌∙◌, subst}
use Rattle.std.specs.declared.option.Option.{Option}
use Rattle.std.specs.Io.KnownBytes.{Appends}
use Rattle.std.proofs.KnownBytes.{Appends-trans}
use Rattle.std.proofs.lemmas.List.{take_more, take-append-drop}
use Rattle.stored.proofs.Fronts.{of-first, of-second}
use Rattle.stored.specs.Failures.{SaidFront}
use Rattle.stored.specs.Lists.{spaced, listed}
use mathlib.Core.List.{append_assoc, append-nil}

-- what is said of a list, and then of another
spaced-append : {X : Type 0} (text : X → List ℕ) (xs ys : List X) → spaced text (xs ++ ys) ≡ spaced text xs ++ spaced text ys
spaced-append text [] ys = refl
spaced-append text (x ∷ xs) ys =
    ap (λ l. 32 ∷ l) (ap (λ l. text x ++ l) (spaced-append text xs ys) ∙ sym (append_assoc (text x) (spaced text xs) (spaced text ys)))

listed-more : {X : Type 0} (text : X → List ℕ) (xs : List X) (i : ℕ) (x : X) → i < length xs
    → listed text (take (i + 1) xs) ≡ listed text (take i xs) ++ (32 ∷ text (slice_index_or xs i x))
listed-more text xs i x within =
    ap (listed text) (take_more xs i x within)
    ∙ ap (λ l. 32 ∷ 124 ∷ l) (spaced-append text (take i xs) (slice_index_or xs i x ∷ []))
    ∙ ap (λ l. listed text (take i xs) ++ (32 ∷ l)) (append-nil (text (slice_index_or xs i x)))

-- what is said of one number more is said behind the first ones
more-is-behind : {X : Type 0} (text : X → List ℕ) (xs : List X) (i : ℕ) (x : X) → i < length xs → slice_index_or xs i x ≡ x
    → listed text (take (i + 1) xs) ≡ listed text (take i xs) ++ (32 ∷ text x)
more-is-behind text xs i x within is = listed-more text xs i x within ∙ ap (λ y. listed text (take i xs) ++ (32 ∷ text y)) is

pub said-more : {X : Type 0} (text : X → List ℕ) (a b c : Option (List ℕ)) (xs : List X) (i : ℕ) (x : X) → i < length xs → slice_index_or xs i x ≡ x
    → Appends a b (listed text (take i xs)) → Appends b c (32 ∷ text x) → Appends a c (listed text (take (i + 1) xs))
said-more text a b c xs i x within is before next =
    subst (Appends a c) (sym (more-is-behind text xs i x within is)) (Appends-trans a b c (listed text (take i xs)) (32 ∷ text x) before next)

-- ---- where a write failed

-- a front of the bar is a front of the whole
pub failed-bar : {X : Type 0} (text : X → List ℕ) (a b : Option (List ℕ)) (xs : List X) → SaidFront a b (32 ∷ 124 ∷ []) → SaidFront a b (listed text xs)
failed-bar text a b xs front = of-first a b (32 ∷ 124 ∷ []) (spaced text xs) front

-- and so are the first numbers with a front of the next one
pub failed-next : {X : Type 0} (text : X → List ℕ) (a b c : Option (List ℕ)) (xs : List X) (i : ℕ) (x : X) → i < length xs → slice_index_or xs i x ≡ x
    → Appends a b (listed text (take i xs)) → SaidFront b c (32 ∷ text x) → SaidFront a c (listed text xs)
failed-next text a b c xs i x within is before front =
    let first = take (i + 1) xs in
    let rest = drop (i + 1) xs in
    let said = of-second a b c (listed text (take i xs)) (32 ∷ text x) before front in
    let begun : SaidFront a c (listed text first) = subst (SaidFront a c) (sym (more-is-behind text xs i x within is)) said in
    let whole : listed text xs ≡ listed text first ++ spaced text rest =
    ap (listed text) (sym (take-append-drop (i + 1) xs)) ∙ ap (λ l. 32 ∷ 124 ∷ l) (spaced-append text first rest) in
    subst (SaidFront a c) (sym whole) (of-first a c (listed text first) (spaced text rest) begun)
