-- The reading of the empty trace: each clause at 0, where no snapshot is below the length.
-- Assumes nothing.
use mathlib.Core.Logic.{◌↔◌, inl, inr, ⊎_elim}
use native.Mathlib.Omega.{arith}
use Rattle.sequence.specs.Operators.{not, weak_next, strong_next, finally, globally, or, and, until, release, implies, equiv}
use Rattle.formula.specs.Formula.{Formula, leaf, unary, binary, proposition, constant, Trace, Accepts}
use Rattle.formula.specs.Empty.{OnEmpty, Empty}
use Rattle.formula.specs.Promises.{EmptyTrace}

module _ (τ : Trace) (e : Empty τ) where
  table : (t : Formula) → Accepts τ t ↔ OnEmpty t
  table (leaf (proposition p)) = (e.nothing p, λ q. absurd q)
  table (leaf (constant b)) = (λ q. q, λ q. q)
  table (unary not t) = let a = table t in (λ q p. q (a.1 p), λ q p. q (a.0 p))
  table (unary weak_next t) = (λ q. tt, λ q l. absurd (omega (arith, e.no-snapshot)))
  table (unary strong_next t) = (λ q. absurd (omega (arith, e.no-snapshot, q.0)), λ q. absurd q)
  table (unary finally t) = (λ q. absurd (omega (arith, e.no-snapshot, q.2)), λ q. absurd q)
  table (unary globally t) = (λ q. tt, λ q j h l. absurd (omega (arith, e.no-snapshot)))
  table (binary or l r) =
      let a = table l in
      let b = table r in
      (⊎_elim (λ q. inl (a.0 q)) (λ q. inr (b.0 q)), ⊎_elim (λ q. inl (a.1 q)) (λ q. inr (b.1 q)))
  table (binary and l r) = let a = table l in let b = table r in (λ q. (a.0 q.0, b.0 q.1), λ q. (a.1 q.0, b.1 q.1))
  table (binary until l r) = (λ q. absurd (omega (arith, e.no-snapshot, q.2)), λ q. absurd q)
  table (binary release l r) = (λ q. tt, λ q j h m. absurd (omega (arith, e.no-snapshot)))
  table (binary implies l r) = let a = table l in let b = table r in (λ q p. b.0 (q (a.1 p)), λ q p. b.1 (q (a.0 p)))
  table (binary equiv l r) =
      let a = table l in
      let b = table r in
      (λ q. (λ p. b.0 (q.0 (a.1 p)), λ p. a.0 (q.1 (b.1 p))), λ q. (λ p. b.1 (q.0 (a.0 p)), λ p. a.1 (q.1 (b.0 p))))

pub empty-trace : EmptyTrace
empty-trace τ e t = table τ e t
