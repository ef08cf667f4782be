-- scarfpylon_resume: what it returns and leaves in the lent slices, in the state's words and in `out`, for every input.
-- Assumes nothing.
use Rattle.std.specs.Prelude.{◌≡◌, List, [], ◌∷◌, ℕ, Ok}
use Rattle.rules.specs.Refusals.{Row, Decided}
use Rattle.formula.specs.declared.kinds.Node.{Node}
use Rattle.walk.specs.Input.{Input}
use Rattle.table.specs.Slices.{Cols}
use Rattle.state.specs.declared.State.{State}
use Rattle.state.specs.declared.End.{End}
use Rattle.slices.specs.Slices.{resume_rows_with}
use Rattle.slices.specs.Resume.{Called}
use Rattle.out.specs.Out.{OutWord, word_from, written, long_short}
use Rattle.state_words.specs.Words.{state_read, Narrow}
use Rattle.state_words.specs.Written.{state_short, state_over}

-- "out as search's": at FOUND the case, the size, and the root's code, left, right, size
abbrev pub found_words : Node → List OutWord
found_words root =
    word_from 0 1 ∷ word_from 1 root.size ∷ word_from 4 root.code ∷ word_from 5 root.left.0 ∷ word_from 6 root.right.0 ∷ word_from 7 root.size ∷ []

-- ".. with case 4 MORE": 2 is NONE, and 3 is FULL with its size
abbrev pub words_at : End → State → List OutWord
words_at End.More s = word_from 0 4 ∷ []
words_at (End.Other n) s = word_from 0 4 ∷ []
words_at End.Found s = found_words s.root
words_at End.None s = word_from 0 2 ∷ []
words_at End.Full s = word_from 0 3 ∷ word_from 1 s.size ∷ []

abbrev pub end_words : State → List OutWord
end_words s = words_at s.end s

-- words 2, 3 and 8: tried, kept, dropped
abbrev pub told_words : State → List OutWord
told_words s = word_from 2 s.counts.tried ∷ word_from 3 s.counts.kept ∷ word_from 8 s.counts.dropped ∷ end_words s

module _ (i : Input) (t : Cols) (budget : ℕ) (state old : List ℕ) where
  -- "1, 2 (budget above 1,000,000 too), 3 (state below 16 words too), 4, 5, 6, 7, 14"
  abbrev pub out_resume_rows : List Row
  out_resume_rows = resume_rows_with (long_short old ∷ state_short state ∷ []) i t budget (state_read state)

  -- the rows decide; "a refusal writes nothing"; else the call of the search in slices on the state that the words are read as, the state after it in the words
  -- ("reads the state's first 16 words and writes them anew"), and what that state tells in `out`
  pub record ResumeDone (returned : ℕ) (t' : Cols) (state' new : List ℕ) : Type 0 where
    pub number : Decided out_resume_rows returned
    pub refused : (returned ≡ 0 → ⊥) → (t' ≡ t) × (state' ≡ state) × (new ≡ old)
    pub passed : returned ≡ 0
        → (after : State) × Called i t budget (state_read state) (Ok after) t' × Narrow after.root × (state' ≡ state_over after state) × (new ≡ written (told_words after) old)
