-- The text of a number has as many bytes as the number has digits.
-- Assumes nothing.
use Rattle.std.proofs.Common.{◌≡◌, ℕ, zero, suc, ◌+◌, ◌-◌, ◌*◌, ◌/◌, ◌%◌, ◌^◌, ◌<◌, ◌≤◌, List, [], ◌∷◌, ◌++◌, length, arith, sym, ap, ◌∙◌, subst, IfOk, Ok, Err}
use Rattle.std.specs.declared.result.Result.{Result}
use Rattle.std.specs.Fmt.{decimal}
use Rattle.std.proofs.lemmas.Fmt.{decimal_by_steps}
use Rattle.std.proofs.Math.Nat.{pow-suc}
use Rattle.std.proofs.lemmas.List.{length-append}
use Rattle.stored.specs.Digits.{IsDigitCount}

-- ten times as much has a place more
tens : (k : ℕ) → 10 ^ (k + 1) ≡ 10 ^ k * 10
tens k = let e : k + 1 ≡ suc k = omega arith in ap (λ j. 10 ^ j) e ∙ pow-suc 10 k

-- a number whose tens have k digits reaches from 10 ^ k on
least : (n k : ℕ) → 10 ≤ n → IsDigitCount 10 1 (n / 10) k → 10 ^ k ≤ n
least n zero many counted = let some = counted.0 in omega arith
least n (suc zero) many counted = many
least n (suc (suc j)) many counted =
    let e : 10 ^ suc (suc j) ≡ 10 ^ suc j * 10 = pow-suc 10 (suc j) in
    let same : suc (suc j) - 1 ≡ suc j = omega arith in
    let rest : 10 ^ suc j ≤ n / 10 = subst (λ i. 10 ^ i ≤ n / 10) same (counted.2 (omega arith)) in
    omega arith

-- so it has a digit more than its tens
step : (n k : ℕ) → 10 ≤ n → IsDigitCount 10 1 (n / 10) k → IsDigitCount 10 1 n (k + 1)
step n k many counted =
    let e = tens k in
    let below = counted.1 in
    let same : k + 1 - 1 ≡ k = omega arith in
    (omega arith, omega arith, λ _. subst (λ j. 10 ^ j ≤ n) (sym same) (least n k many counted))

length-snoc : (ds : List ℕ) (d : ℕ) → length (ds ++ (d ∷ [])) ≡ length ds + 1
length-snoc ds d = length-append ds (d ∷ [])

pub decimal_counted : (n : ℕ) → n < 2 ^ 64 → IsDigitCount 10 1 n (length (decimal n))
decimal_counted n fits = decimal_by_steps (λ m ds. IsDigitCount 10 1 m (length ds))
    (λ m small. (omega arith, omega arith, λ more. omega arith))
    (λ m ds many counted. subst (IsDigitCount 10 1 m) (sym (length-snoc ds (48 + m % 10))) (step m (length ds) many counted)) n fits

-- so who says that text and answers how many bytes were said answers how many digits there are
pub said_counted : {E : Type 0} (r : Result ℕ E) (n : ℕ) (text : List ℕ) → n < 2 ^ 64 → text ≡ decimal n → IfOk r (λ k. k ≡ length text) → IfOk r (IsDigitCount 10 1 n)
said_counted (Ok k) n text fits same said = subst (IsDigitCount 10 1 n) (sym (said ∙ ap length same)) (decimal_counted n fits)
said_counted (Err e) n text fits same said = tt
