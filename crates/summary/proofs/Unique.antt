-- Uniqueness: any two summaries that the contract of `summary_of` allows for the same reading are equal.
-- Assumes nothing.
use mathlib.Core.Path.{◌≡◌, refl, sym, ap, ◌∙◌}
use mathlib.Core.Logic.{inl, inr, ⊎_elim}
use Prim.Native.Nat.{ℕ, zero, suc}
use native.Mathlib.Decide.{dec_lt}
use native.Mathlib.Nat.{eq-or-lt_of_le}
use native.Mathlib.Omega.{arith}
use Rattle.words.specs.Ltlf.{Reading}
use Rattle.std.specs.Prelude.{Option, Some, None}
use Rattle.summary.specs.declared.values.Summary.{Summary}
use Rattle.summary.specs.Values.{LeastIn, CountIn, Summed}

least-unique : (n : ℕ) (f : Reading) (a b : Option ℕ) → LeastIn n f a → LeastIn n f b → a ≡ b
least-unique n f None None p q = refl
least-unique n f None (Some b) p q = absurd (p b q.0 q.1)
least-unique n f (Some a) None p q = absurd (q a p.0 p.1)
least-unique n f (Some a) (Some b) p q =
    elim (dec_lt a b) [
      | yes h ↦ absurd (q.2 a h p.1)
      | no h ↦ ⊎_elim (λ e. ap Some (sym e)) (λ g. absurd (p.2 b g q.1)) (eq-or-lt_of_le {n = b} {m = a} (omega arith))
    ]

count-unique : (n : ℕ) (f : Reading) (a b : ℕ) → CountIn n f a → CountIn n f b → a ≡ b
count-unique zero f a b p q = p ∙ sym q
count-unique (suc n) f a b (inl (h, (c, d, p))) (inl (k, (e, g, q))) = let s = count-unique n f c e p q in omega arith
count-unique (suc n) f a b (inl (h, p)) (inr (k, q)) = absurd (k h)
count-unique (suc n) f a b (inr (h, p)) (inl (k, q)) = absurd (h k)
count-unique (suc n) f a b (inr (h, p)) (inr (k, q)) = count-unique n f a b p q

pub summed-unique : {n : ℕ} {f : Reading} (s t : Summary) → Summed n f s → Summed n f t → s ≡ t
summed-unique {n} {f} s t a b =
    ap (λ (x : Option ℕ). record { holds = x; fails = s.fails; count = s.count }) (least-unique n f s.holds t.holds a.holds b.holds)
    ∙ ap (λ (x : Option ℕ). record { holds = t.holds; fails = x; count = s.count }) (least-unique n _ s.fails t.fails a.fails b.fails)
    ∙ ap (λ (x : ℕ). record { holds = t.holds; fails = t.fails; count = x }) (count-unique n f s.count t.count a.count b.count)
