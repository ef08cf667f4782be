-- A state put into lent words: by their number; and any two results are equal.
-- Assumes nothing.
use mathlib.Core.Path.{◌≡◌, refl, sym, ◌∙◌}
use mathlib.Core.List.{List}
use Prim.Native.Nat.{ℕ, ◌≤◌, ◌<◌}
use native.Mathlib.Decide.{ℕ_discrete}
use native.Mathlib.Omega.{arith}
use lib.ListN.{length}
use Rattle.rules.proofs.Refusals.{decided-unique, decided-given, decided-not}
use Rattle.state.specs.declared.State.{State}
use Rattle.state_words.specs.Words.{state_words, Narrow}
use Rattle.state_words.specs.Written.{state_short, state_over, StateDone}

pub state-short : (s : State) (old : List ℕ) → length old < state_words → StateDone s old 3 old
state-short s old h = record { number = decided-given (state_short old) h; refused = λ _. refl; passed = λ e. absurd (omega arith) }

pub state-long : (s : State) (old new : List ℕ) → state_words ≤ length old → Narrow s.root → new ≡ state_over s old → StateDone s old 0 new
state-long s old new h n e = record { number = decided-not (state_short old) (λ g. omega arith); refused = λ f. absurd (f refl); passed = λ _. (n, e) }

-- number and words
pub state-done-unique : (s : State) (old : List ℕ) (k l : ℕ) (x y : List ℕ) → StateDone s old k x → StateDone s old l y → (k ≡ l) × (x ≡ y)
state-done-unique s old k l x y p q =
    let n = decided-unique _ k l p.number q.number in
    elim (ℕ_discrete k 0) [
      | yes e ↦ (n, (p.passed e).1 ∙ sym (q.passed (sym n ∙ e)).1)
      | no e ↦ (n, p.refused e ∙ sym (q.refused (λ z. e (n ∙ z))))
    ]
