-- Codes: at which position one stands, and whether it is in a group.
-- Assumes nothing.
use mathlib.Core.Path.{◌≡◌, refl, sym}
use mathlib.Core.Logic.{◌⊎◌, inl, inr, ⊎_elim}
use mathlib.Core.List.Memᴰ
use mathlib.Core.List.{List, [], ◌∷◌}
use Prim.Native.Nat.{ℕ, zero, suc, ◌+◌, ◌-◌, ◌<◌}
use native.Mathlib.Omega.{arith}
use native.Mathlib.Decide.{dec_le}
use lib.ListN.{length, get_or}
use Rattle.sequence.specs.Operators.{Unary, Binary, unary_code, binary_code}
use Rattle.sequence.proofs.Groups.{unary-below, binary-between}
use Rattle.rules.specs.Lists.{◌∈◌}
use Rattle.walk.specs.Input.{Once}

-- a member stands at a position
pub at_position : {A : Type 0} (l : List A) (x d : A) → x ∈ l → (p : ℕ) × (p < length l) × (get_or l p d ≡ x)
at_position [] x d m = absurd (Memᴰ.not-nil m)
at_position (y ∷ l) x d m = ⊎_elim
    (λ e. (0, omega arith, sym e))
    (λ h. let (p, lt, e) = at_position l x d h in (suc p, omega arith, e)) (Memᴰ.cases_cons m)

pub good-once : (l : List ℕ) → ((p q : ℕ) → p < q → q < length l → get_or l p 0 ≡ get_or l q 0 → ⊥) → Once l
good-once [] f = tt
good-once (c ∷ l) f = (
  λ m. let (p, lt, e) = at_position l c 0 m in f 0 (suc p) (omega arith) (omega arith) (sym e),
  good-once l (λ p q h lt e. f (suc p) (suc q) (omega arith) (omega arith) e),
)

-- ---- a code is in a group or not

pub unary-or : (c : ℕ) → ((op : Unary) × (unary_code op ≡ c)) ⊎ ((op : Unary) → unary_code op ≡ c → ⊥)
unary-or zero = inl (Unary.not, refl)
unary-or (suc zero) = inl (Unary.weak_next, refl)
unary-or (suc (suc zero)) = inl (Unary.strong_next, refl)
unary-or (suc (suc (suc zero))) = inl (Unary.finally, refl)
unary-or (suc (suc (suc (suc zero)))) = inl (Unary.globally, refl)
unary-or (suc (suc (suc (suc (suc c))))) = inr λ op e. omega (arith, unary-below op)

binary-from : (c : ℕ) → ((op : Binary) × (binary_code op ≡ 5 + c)) ⊎ ((op : Binary) → binary_code op ≡ 5 + c → ⊥)
binary-from zero = inl (Binary.or, refl)
binary-from (suc zero) = inl (Binary.and, refl)
binary-from (suc (suc zero)) = inl (Binary.until, refl)
binary-from (suc (suc (suc zero))) = inl (Binary.release, refl)
binary-from (suc (suc (suc (suc zero)))) = inl (Binary.implies, refl)
binary-from (suc (suc (suc (suc (suc zero))))) = inl (Binary.equiv, refl)
binary-from (suc (suc (suc (suc (suc (suc c)))))) = inr λ op e. omega (arith, (binary-between op).1)

pub binary-or : (c : ℕ) → ((op : Binary) × (binary_code op ≡ c)) ⊎ ((op : Binary) → binary_code op ≡ c → ⊥)
binary-or c = elim (dec_le 5 c) [
  | yes h ↦ (let e : 5 + (c - 5) ≡ c = omega arith in rw e at (binary-from (c - 5)))
  | no h ↦ inr λ op e. omega (arith, (binary-between op).0)
]
