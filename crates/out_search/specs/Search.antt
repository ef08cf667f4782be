-- scarfpylon_search: what it returns and leaves in the lent slices and in `out`, for every input.
-- Assumes nothing.
use Rattle.std.specs.Prelude.{◌≡◌, List, [], ◌∷◌, ℕ, Ok}
use Rattle.rules.specs.Refusals.{Row, Decided}
use Rattle.walk.specs.Input.{Input}
use Rattle.search.specs.declared.SearchAnswer.{SearchAnswer}
use Rattle.search.specs.declared.SearchAnswer.TheVariants.{Found, None, Full}
use Rattle.table.specs.Slices.{Cols}
use Rattle.checks.specs.Refusals.{search_rows_with}
use Rattle.search.specs.Search.{Searched}
use Rattle.out.specs.Out.{OutWord, word_from, written, long_short}

-- the words of `out` (docs/DECISIONS.md): case (1 found, 2 none, 3 full), size (found, full), tried, kept, and at found the root's code, left, right, size;
-- out[8] = dropped
abbrev pub search_words : SearchAnswer → List OutWord
search_words (Found root n) =
    word_from 0 1
    ∷ word_from 1 root.size
    ∷ word_from 2 n.tried
    ∷ word_from 3 n.kept
    ∷ word_from 4 root.code
    ∷ word_from 5 root.left.0
    ∷ word_from 6 root.right.0
    ∷ word_from 7 root.size
    ∷ word_from 8 n.dropped
    ∷ []
search_words (None n) = word_from 0 2 ∷ word_from 2 n.tried ∷ word_from 3 n.kept ∷ word_from 8 n.dropped ∷ []
search_words (Full size n) = word_from 0 3 ∷ word_from 1 size ∷ word_from 2 n.tried ∷ word_from 3 n.kept ∷ word_from 8 n.dropped ∷ []

module _ (i : Input) (t : Cols) (old : List ℕ) where
  -- the search's rows, with that of `out` "at the place that 3 has"
  abbrev pub out_search_rows : List Row
  out_search_rows = search_rows_with i (long_short old ∷ []) t

  -- "Every function returns a u64: 0 where it answered, else the refusal number ..; a refusal writes nothing"; an answer is the search's
  pub record SearchDone (returned : ℕ) (t' : Cols) (new : List ℕ) : Type 0 where
    pub number : Decided out_search_rows returned
    pub refused : (returned ≡ 0 → ⊥) → (t' ≡ t) × (new ≡ old)
    pub passed : returned ≡ 0 → (answer : SearchAnswer) × Searched i t (Ok answer) t' × (new ≡ written (search_words answer) old)
