-- What is promised of the search in slices at the C boundary, for words that calls wrote, with room and input unaltered: request E7's sentences over the
-- words. Each is proved under its name in proofs/Promises: fresh-words-stand, resume-means, resume-done-unique, end-words-repeat; and, for any words, resume-safe.
-- Assumes nothing.
use Rattle.std.specs.Prelude.{◌≡◌, ◌⊎◌, List, ℕ, ◌+◌, ◌≤◌, ◌<◌}
use Rattle.walk.specs.Walk.{tried}
use Rattle.walk.specs.Input.{Input, Passes, search}
use Rattle.walk.specs.Kept.{begun, go_on}
use Rattle.checks.specs.Promises.{RoomThere}
use Rattle.table.specs.Slices.{Cols, table_over}
use Rattle.slices.specs.Said.{walk_said}
use Rattle.turns.specs.Standing.{kept_in}
use Rattle.turns.specs.Turns.{StateIn}
use Rattle.slices.specs.Slices.{fresh_state, state_said, more_said, StandsAt}
use Rattle.out.specs.Out.{written}
use Rattle.state_words.specs.Words.{state_read}
use Rattle.state_words.specs.Written.{StateDone}
use Rattle.out_resume.specs.Resume.{told_words, ResumeDone}

-- words and room stand at count n of the walk: the words are read as the state that does
abbrev pub WordsStand : Input → Cols → ℕ → List ℕ → Cols → Type 0
WordsStand i t₀ n words t = StandsAt i t₀ n (state_read words) t

-- the words that scarfpylon_fresh leaves stand at count 0, whatever the slices hold
abbrev pub FreshWordsStand : Type 0
FreshWordsStand = (i : Input) → Passes i → (t : Cols) (old new : List ℕ) → StateDone fresh_state old 0 new → WordsStand i t 0 new t

-- what words, slices and `out` say at count n: `out` has what the words' state tells. "After a call with budget k the count tried has grown by exactly k or
-- the walk has ended, and the lent room holds just what the walk has kept by then"; "Any cutting ends as the whole search does"
pub record WordsMeant (i : Input) (t₀ : Cols) (n : ℕ) (words old : List ℕ) (t : Cols) (new : List ℕ) : Type 0 where
  pub stands : WordsStand i t₀ n words t
  pub told : new ≡ written (told_words (state_read words)) old
  pub grown : (((state_read words).counts.tried ≡ n) × (n < tried (search i)) × (state_said (state_read words) ≡ more_said (state_read words).counts))
      ⊎ ((state_said (state_read words) ≡ walk_said (search i)) × (tried (search i) ≤ n))
  pub holds : t ≡ table_over (kept_in (go_on i n (begun i))) t₀

-- every call that answers keeps it
abbrev pub ResumeMeans : Type 0
ResumeMeans = (i : Input) (t₀ t : Cols) (budget n : ℕ) (words old : List ℕ) (t' : Cols) (words' new : List ℕ) → RoomThere i t₀ → WordsStand i t₀ n words t
    → ResumeDone i t budget words old 0 t' words' new → WordsMeant i t₀ (n + budget) words' old t' new

-- any two results for the same input are equal: number, slices, words and `out`
abbrev pub ResumeUnique : Type 0
ResumeUnique = (i : Input) (t₀ t : Cols) (budget n : ℕ) (words old : List ℕ) → RoomThere i t₀ → WordsStand i t₀ n words t
    → (k l : ℕ) (u v : Cols) (x y p q : List ℕ) → ResumeDone i t budget words old k u x p → ResumeDone i t budget words old l v y q
    → (k ≡ l) × (u ≡ v) × (x ≡ y) × (p ≡ q)

-- "A call after the end repeats it", for every budget: the state and the slices stay
abbrev pub EndWordsRepeat : Type 0
EndWordsRepeat = (i : Input) (t₀ t : Cols) (budget n : ℕ) (words old : List ℕ) (t' : Cols) (words' new : List ℕ) → RoomThere i t₀ → WordsStand i t₀ n words t
    → tried (search i) ≤ n → ResumeDone i t budget words old 0 t' words' new → (state_read words' ≡ state_read words) × (t' ≡ t)

-- whatever words and room hold: the number is one, and a call that answers leaves words that 14 lets pass, with at most `budget` tried
abbrev pub ResumeSafe : Type 0
ResumeSafe = (i : Input) (t : Cols) (budget : ℕ) (words old : List ℕ) (t' : Cols) (words' new : List ℕ) → ResumeDone i t budget words old 0 t' words' new
    → StateIn i (state_read words') × ((state_read words').counts.tried ≤ (state_read words).counts.tried + budget)

abbrev pub NumberUnique : Type 0
NumberUnique = (i : Input) (t : Cols) (budget : ℕ) (words old : List ℕ) (k l : ℕ) (u v : Cols) (x y p q : List ℕ)
    → ResumeDone i t budget words old k u x p → ResumeDone i t budget words old l v y q → k ≡ l
