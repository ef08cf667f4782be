-- A turn, by whether the walk has ended, by the step, and by what is left of the budget.
-- Assumes nothing.
use mathlib.Core.Path.{◌≡◌}
use Prim.Native.Nat.{ℕ}
use borrow.Author.Tests.{ne_eqb}
use Rattle.std.specs.Prelude.{None, Some}
use Rattle.split.specs.declared.Candidate.{Candidate}
use Rattle.state.specs.declared.End.{End}
use Rattle.state.proofs.Ends.{not_more}
use Rattle.onward.specs.declared.Seen.{Seen}
use Rattle.onward.specs.declared.Turn.TheVariants.{Rests}
use Rattle.onward.specs.Onward.{more_state, none_state, try_turn, turn_of}

module _ (seen : Seen) (left : ℕ) where
  pub turn-stays : (seen.state.end ≡ End.More → ⊥) → turn_of seen left ≡ Rests seen.state
  turn-stays e = rw (not_more seen.state.end e)

  module _ (goes_on : seen.state.end ≡ End.More) where
    pub turn-none : seen.step ≡ None → turn_of seen left ≡ Rests (none_state seen.state.size seen.state.counts)
    turn-none e = rw (goes_on, e)

    module _ {c : Candidate} (told : seen.step ≡ Some c) where
      pub turn-spent : left ≡ 0 → turn_of seen left ≡ Rests (more_state seen.state.size seen.state.at seen.state.counts)
      turn-spent e = rw (goes_on, told, e)

      pub turn-tries : (left ≡ 0 → ⊥) → turn_of seen left ≡ try_turn seen.state c
      turn-tries e = rw (goes_on, told, ne_eqb left 0 e)
