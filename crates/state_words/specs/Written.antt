-- A state put into the words that a C program lends, and scarfpylon_fresh: what is returned and left, for every input.
-- Assumes nothing.
use Rattle.std.specs.Prelude.{◌≡◌, List, [], ◌∷◌, ℕ, ◌<◌, length}
use Rattle.rules.specs.Refusals.{Row, Decided}
use Rattle.state.specs.declared.State.{State}
use Rattle.out.specs.Out.{written, in_order}
use Rattle.state_words.specs.Words.{state_words, words_of_state, Narrow}

-- "3 (state below 16 words ..)"
abbrev pub state_short : List ℕ → Row
state_short words = record { number = 3; given = length words < state_words }

-- the state's words in the first 16; what follows them stays
abbrev pub state_over : State → List ℕ → List ℕ
state_over s words = written (in_order 0 (words_of_state s)) words

-- "writes a fresh state into its first 16 words; 3"; "a refusal writes nothing"
pub record StateDone (s : State) (old : List ℕ) (returned : ℕ) (new : List ℕ) : Type 0 where
  pub number : Decided (state_short old ∷ []) returned
  pub refused : (returned ≡ 0 → ⊥) → new ≡ old
  pub passed : returned ≡ 0 → Narrow s.root × (new ≡ state_over s old)
