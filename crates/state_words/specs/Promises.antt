-- What is promised of a state's words. Proved under its name in proofs/Back: state-comes-back.
-- Assumes nothing.
use Rattle.std.specs.Prelude.{◌≡◌, List, ℕ, ◌≤◌, length}
use Rattle.state.specs.declared.State.{State}
use Rattle.state.specs.Ends.{Ours}
use Rattle.state_words.specs.Words.{state_words, state_read, Narrow}
use Rattle.state_words.specs.Written.{state_over}

-- a state whose end a walk comes to comes back from its words as it was
abbrev pub StateComesBack : Type 0
StateComesBack = (s : State) (words : List ℕ) → state_words ≤ length words → Ours s.end → Narrow s.root → state_read (state_over s words) ≡ s
