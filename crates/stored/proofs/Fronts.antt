-- What was written of a text when a write failed: a front of it.
-- Assumes nothing.
use Rattle.std.proofs.Common.{◌≡◌, ℕ, ◌+◌, ◌-◌, ◌≤◌, List, ◌++◌, length, take, drop, arith, sym, subst, length-append, OnErr}
use Rattle.std.specs.declared.option.Option.{Option}
use Rattle.std.specs.declared.result.Result.{Result}
use Rattle.std.specs.Io.KnownBytes.{Appends, Keeps}
use Rattle.std.proofs.KnownBytes.{Appends-trans, Appends-kept}
use Rattle.std.proofs.Math.Seq.{take-append-add}
use Rattle.std.proofs.lemmas.List.{take-append-le, take_rest}
use Rattle.std.proofs.lemmas.Result.{on_err_weaker}
use Rattle.stored.specs.Failures.{SaidFront}
use lib.Seq.{take-add}

-- a piece written behind a front makes a longer front
pub longer : (a b c : Option (List ℕ)) (at n : ℕ) (text : List ℕ) → Appends a b (take at text) → Appends b c (take n (take (length text - at) (drop at text)))
    → Appends a c (take (at + n) text)
longer a b c at n text first next =
    let joined = Appends-trans a b c _ _ first (subst (λ l. Appends b c (take n l)) (take_rest text at) next) in
    subst (Appends a c) (sym (take-add at n text)) joined

-- a front stays one when nothing more is written
pub kept : (a b c : Option (List ℕ)) (at : ℕ) (text : List ℕ) → at ≤ length text → Appends a b (take at text) → Keeps b c → SaidFront a c text
kept a b c at text within first keeps = (at, within, Appends-kept a b c _ first keeps)

-- a front of the first part is a front of the whole
pub of-first : (a b : Option (List ℕ)) (xs ys : List ℕ) → SaidFront a b xs → SaidFront a b (xs ++ ys)
of-first a b xs ys front =
    let n = front.0 in
    let same : take n (xs ++ ys) ≡ take n xs = take-append-le n xs ys front.1 in
    let long = length-append xs ys in
    let within = front.1 in
    let fits : n ≤ length (xs ++ ys) = omega arith in
    (n, fits, subst (Appends a b) (sym same) front.2)

-- and so is the first part with a front of the second
pub of-second : (a b c : Option (List ℕ)) (xs ys : List ℕ) → Appends a b xs → SaidFront b c ys → SaidFront a c (xs ++ ys)
of-second a b c xs ys first front =
    let n = front.0 in
    let same : take (length xs + n) (xs ++ ys) ≡ xs ++ take n ys = take-append-add xs ys n in
    let long = length-append xs ys in
    let within = front.1 in
    let fits : length xs + n ≤ length (xs ++ ys) = omega arith in
    (length xs + n, fits, subst (Appends a c) (sym same) (Appends-trans a b c _ _ first front.2))

-- so what a failed write leaves behind a first part, where the text is what was to be said
pub behind : {X E : Type 0} (r : Result X E) (a b c : Option (List ℕ)) (xs ys text : List ℕ) → text ≡ ys → Appends a b xs → OnErr r (SaidFront b c text)
    → OnErr r (SaidFront a c (xs ++ ys))
behind r a b c xs ys text same first = on_err_weaker r (λ front. subst (λ t. SaidFront a c (xs ++ t)) same (of-second a b c xs text first front))
