-- The counts after a candidate are the walk's.
-- Assumes nothing.
use mathlib.Core.Path.{◌≡◌, ap, ap₂}
use mathlib.Core.List.{[], ◌∷◌}
use Prim.Native.Nat.{ℕ, suc}
use native.Mathlib.Omega.{arith}
use lib.ListN.{length-append}
use Rattle.walk.specs.Walk.{tally}
use Rattle.counting.specs.declared.Fate.TheVariants.{Found, Dropped, Full, Kept}
use Rattle.counting.specs.Counting.{one_more}
use Rattle.counting.specs.Promises.{CountsAreWalks}

pub counts-are-walks : CountsAreWalks
counts-are-walks Found n x k c f l d =
    let a : one_more n.tried ≡ suc n.tried = omega arith in
    (ap (λ (p : ℕ). tally p n.dropped) a, c)
counts-are-walks Dropped n x k c f l d =
    let a : one_more n.tried ≡ suc n.tried = omega arith in
    let b : one_more n.dropped ≡ suc n.dropped = omega arith in
    (ap₂ (λ (p q : ℕ). tally p q) a b, c)
counts-are-walks Full n x k c f l d =
    let a : one_more n.tried ≡ suc n.tried = omega arith in
    (ap (λ (p : ℕ). tally p n.dropped) a, c)
counts-are-walks Kept n x k c f l d =
    let a : one_more n.tried ≡ suc n.tried = omega arith in
    (ap (λ (p : ℕ). tally p n.dropped) a, omega (arith, c, length-append k (x ∷ [])))
