-- The numbers from one on: how many there are, and what is made of each.
-- Assumes nothing.
use mathlib.Core.Path.{◌≡◌, refl, ap, ◌∙◌}
use mathlib.Core.List.{map}
use Prim.Native.Nat.{ℕ, zero, suc, ◌+◌, ◌<◌}
use native.Mathlib.Omega.{arith}
use lib.ListN.{length, get_or}
use Rattle.rules.specs.Lists.{count}

pub length-count : (a n : ℕ) → length (count a n) ≡ n
unfolding count
length-count a zero = refl
length-count a (suc n) = omega (arith, length-count (suc a) n)

pub get_d-map-count : {A : Type 0} (f : ℕ → A) (a n o : ℕ) (d : A) → o < n → get_or (map f (count a n)) o d ≡ f (a + o)
unfolding count
get_d-map-count f a zero o d h = absurd (omega arith)
get_d-map-count f a (suc n) zero d h = ap f (let e : a ≡ a + 0 = omega arith in e)
get_d-map-count f a (suc n) (suc o) d h = get_d-map-count f (suc a) n o d (omega arith) ∙ ap f (let e : suc a + o ≡ a + suc o = omega arith in e)
