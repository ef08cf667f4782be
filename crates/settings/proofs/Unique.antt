-- Any two answers that a contract of the settings allows for the same input are equal: what is right and what is wrong exclude each other.
-- Assumes nothing.
use mathlib.Core.Path.{◌≡◌, refl}
use mathlib.Core.Logic.{inl, inr, ⊎_elim}
use mathlib.Core.Bool.{Bool, true, false}
use mathlib.Core.List.{List}
use Prim.Native.Nat.{ℕ}
use native.Mathlib.Omega.{arith}
use Rattle.settings.specs.Settings.{SettingsTold, GoodCodes, BadCodes, CodesTold}

pub settings-right : (bound room constants : ℕ) → SettingsTold bound room constants true → SettingsTold bound room constants false → ⊥
settings-right bound room constants w = ⊎_elim (λ x. ⊎_elim (λ y. omega (arith, w.0)) (λ y. omega (arith, w.1)) x)
    (λ x. ⊎_elim (λ y. ⊎_elim (λ z. omega (arith, w.2)) (λ z. omega (arith, w.3)) y) (λ y. omega (arith, w.4)) x)

pub codes-right : {unary : Bool} {codes : List ℕ} → GoodCodes unary codes → BadCodes unary codes → ⊥
codes-right g (inl (o, h, f)) = f (g.in_group o h)
codes-right g (inr (p, q, h, l, e)) = g.once p q h l e

pub settings-unique : (bound room constants : ℕ) (b b' : Bool) → SettingsTold bound room constants b → SettingsTold bound room constants b' → b ≡ b'
settings-unique bound room constants true true p q = refl
settings-unique bound room constants true false p q = absurd (settings-right bound room constants p q)
settings-unique bound room constants false true p q = absurd (settings-right bound room constants q p)
settings-unique bound room constants false false p q = refl

pub codes-unique : (unary : Bool) (codes : List ℕ) (b b' : Bool) → CodesTold unary codes b → CodesTold unary codes b' → b ≡ b'
codes-unique unary codes true true p q = refl
codes-unique unary codes true false p q = absurd (codes-right p q)
codes-unique unary codes false true p q = absurd (codes-right q p)
codes-unique unary codes false false p q = refl
