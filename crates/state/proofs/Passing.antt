-- A state that 14 lets pass has its numbers in range, and one whose numbers are in range passes.
-- Assumes nothing.
use mathlib.Core.Logic.{inl, inr}
use Prim.Native.Nat.{ℕ, suc, ◌≤◌, ◌<◌}
use native.Mathlib.Omega.{arith}
use native.Mathlib.Nat.{lt_of_not-le}
use native.Mathlib.Decide.{dec_le}
use lib.Dec.{ltb}
use borrow.Author.Tests.{lt-ltb, le-ltb}
use Rattle.state.specs.declared.State.{State}
use Rattle.state.specs.Row.{list_end, state_wrong, StateIn}
use Rattle.rules.specs.Answers.{Tested}

at_most : {a b : ℕ} → (b < a → ⊥) → a ≤ b
at_most {a} {b} h = elim (dec_le a b) [ yes l ↦ l | no l ↦ absurd (h (lt_of_not-le l)) ]

module _ {m bound room constants unary binary : ℕ} {st : State} where
  pub passes-in : ((state_wrong m bound room constants unary binary st).given → ⊥) → StateIn m bound room constants unary binary st
  passes-in w = record {
    kept_in = at_most (λ h. w (inl h));
    kept-tried = at_most (λ h. w (inr (inl h)));
    size_in = (at_most (λ h. w (inr (inr (inl (inl h))))), at_most (λ h. w (inr (inr (inl (inr h))))));
    left_in = at_most (λ h. w (inr (inr (inr (inl h)))));
    right-in = at_most (λ h. w (inr (inr (inr (inr (inl h))))));
    operator-in = at_most (λ h. w (inr (inr (inr (inr (inr h))))));
  }

  pub in-passes : StateIn m bound room constants unary binary st → (state_wrong m bound room constants unary binary st).given → ⊥
  in-passes w (inl h) = omega (arith, w.kept_in)
  in-passes w (inr (inl h)) = omega (arith, w.kept-tried)
  in-passes w (inr (inr (inl (inl h)))) = omega (arith, w.size_in)
  in-passes w (inr (inr (inl (inr h)))) = omega (arith, w.size_in)
  in-passes w (inr (inr (inr (inl h)))) = omega (arith, w.left_in)
  in-passes w (inr (inr (inr (inr (inl h))))) = omega (arith, w.right-in)
  in-passes w (inr (inr (inr (inr (inr h))))) = omega (arith, w.operator-in)

-- ---- where all other numbers are in range, the position decides

pub record Others (bound room : ℕ) (st : State) : Type 0 where
  pub kept_in : st.counts.kept ≤ room
  pub kept-tried : st.counts.kept ≤ st.counts.tried
  pub size_in : (1 ≤ st.size) × (st.size ≤ bound)
  pub left_in : st.at.left ≤ st.counts.kept
  pub right-in : st.at.right ≤ st.counts.kept

module _ (m constants unary binary : ℕ) {bound room : ℕ} {st : State} (w : Others bound room st) where
  pub position-passes : st.at.operator ≤ list_end m constants unary binary st.size st.at.split
      → (state_wrong m bound room constants unary binary st).given → ⊥
  position-passes h = in-passes {m = m} {constants = constants} {unary = unary} {binary = binary} {st = st} (record {
    kept_in = w.kept_in;
    kept-tried = w.kept-tried;
    size_in = w.size_in;
    left_in = w.left_in;
    right-in = w.right-in;
    operator-in = h;
  })

  pub position-tells : (a b : ℕ) → (a < b → list_end m constants unary binary st.size st.at.split < st.at.operator)
      → (b ≤ a → st.at.operator ≤ list_end m constants unary binary st.size st.at.split)
      → Tested (state_wrong m bound room constants unary binary st).given (ltb a b)
  position-tells a b f g = elim (dec_le (suc a) b) [
    | yes h ↦ rw (lt-ltb a b h) (inr (inr (inr (inr (inr (f h))))))
    | no h ↦ rw (le-ltb a b (omega arith)) (position-passes (g (omega arith)))
  ]
