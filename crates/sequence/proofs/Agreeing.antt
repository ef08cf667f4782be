-- Readings that agree at the places of a formula's word: the operators look only there, so children that agree give readings that agree.
-- Assumes nothing.
use mathlib.Core.Logic.Iff
use mathlib.Core.Logic.{◌↔◌, inl, inr, ⊎_elim}
use Prim.Native.Nat.{ℕ, ◌+◌, ◌<◌}
use native.Mathlib.Omega.{arith}
use Rattle.words.specs.Ltlf.{Reading}
use Rattle.words.specs.Word.{places, Means}
use Rattle.sequence.specs.Operators.{Unary, Binary, unary_reading, binary_reading}

abbrev pub Agree : ℕ → Reading → Reading → Type 0
Agree n f g = (i : ℕ) → i < places n → f i ↔ g i

-- a snapshot is such a place
snapshot : {n : ℕ} (f g : Reading) → Agree n f g → (j : ℕ) → j < n → f j ↔ g j
snapshot f g a j h = a j (omega arith)

pub means-agree : {n x : ℕ} {f g : Reading} → Means n x f → Agree n f g → Means n x g
means-agree m a = record { wf = m.wf; holds = λ i h. Iff.trans (m.holds i h) (a i h) }

pub unary-agree : (op : Unary) (n : ℕ) (f g : Reading) → Agree n f g → Agree n (unary_reading op n f) (unary_reading op n g)
unary-agree Unary.not n f g a i h = (λ p q. p ((a i h).1 q), λ p q. p ((a i h).0 q))
unary-agree Unary.weak_next n f g a i h = let b = snapshot f g a in (λ p l. (b (i + 1) l).0 (p l), λ p l. (b (i + 1) l).1 (p l))
unary-agree Unary.strong_next n f g a i h = let b = snapshot f g a in (λ p. (p.0, (b (i + 1) p.0).0 p.1), λ p. (p.0, (b (i + 1) p.0).1 p.1))
unary-agree Unary.finally n f g a i h =
    let b = snapshot f g a in (λ t. (t.0, t.1, t.2, (b t.0 t.2).0 t.3), λ t. (t.0, t.1, t.2, (b t.0 t.2).1 t.3))
unary-agree Unary.globally n f g a i h = let b = snapshot f g a in (λ t j l m. (b j m).0 (t j l m), λ t j l m. (b j m).1 (t j l m))

pub binary-agree : (op : Binary) (n : ℕ) (f f' g g' : Reading) → Agree n f f' → Agree n g g' → Agree n (binary_reading op n f g) (binary_reading op n f' g')
binary-agree Binary.or n f f' g g' a b i h =
    (λ p. ⊎_elim (λ q. inl ((a i h).0 q)) (λ q. inr ((b i h).0 q)) p, λ p. ⊎_elim (λ q. inl ((a i h).1 q)) (λ q. inr ((b i h).1 q)) p)
binary-agree Binary.and n f f' g g' a b i h = (λ p. ((a i h).0 p.0, (b i h).0 p.1), λ p. ((a i h).1 p.0, (b i h).1 p.1))
binary-agree Binary.until n f f' g g' a b i h = let s = snapshot f f' a in let r = snapshot g g' b in (
  λ t. (t.0, t.1, t.2, (r t.0 t.2).0 t.3, λ k l m. (s k (omega (arith, t.2))).0 (t.4 k l m)),
  λ t. (t.0, t.1, t.2, (r t.0 t.2).1 t.3, λ k l m. (s k (omega (arith, t.2))).1 (t.4 k l m)),
)
binary-agree Binary.release n f f' g g' a b i h = let s = snapshot f f' a in let r = snapshot g g' b in (
  λ t j l m. ⊎_elim (λ q. inl ((r j m).0 q)) (λ q. inr (q.0, q.1, q.2, (s q.0 (omega (arith, q.2))).0 q.3)) (t j l m),
  λ t j l m. ⊎_elim (λ q. inl ((r j m).1 q)) (λ q. inr (q.0, q.1, q.2, (s q.0 (omega (arith, q.2))).1 q.3)) (t j l m),
)
binary-agree Binary.implies n f f' g g' a b i h = (λ p q. (b i h).0 (p ((a i h).1 q)), λ p q. (b i h).1 (p ((a i h).0 q)))
binary-agree Binary.equiv n f f' g g' a b i h = (
  λ p. (λ q. (b i h).0 (p.0 ((a i h).1 q)), λ q. (a i h).0 (p.1 ((b i h).1 q))),
  λ p. (λ q. (b i h).1 (p.0 ((a i h).0 q)), λ q. (a i h).1 (p.1 ((b i h).0 q))),
)
