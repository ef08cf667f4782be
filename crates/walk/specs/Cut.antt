-- The walk cut after any candidate, and going on from there with no more than what was kept and four numbers.
-- Assumes nothing.
use Rattle.std.specs.Prelude.{cond, ℕ, zero, suc, ◌-◌, length, take, drop, ltb}
use mathlib.Core.List.{List, [], foldl}
use Rattle.walk.specs.Walk.{Offer, Candidate, Ending, none, Tally, tally, WalkState, going, ended, layer, consider}

-- a cut walk: more to try, at size s after j of its candidates, with what is kept and the tally; or at its end
pub data Cut (Mat : Type 0) : Type 0 where
  more : ℕ → ℕ → List (Candidate Mat) → Tally → Cut Mat
  over : Ending → List (Candidate Mat) → Tally → Cut Mat

module _ {L U B Mat : Type 0} (O : Offer L U B Mat) (C b : ℕ) where
  -- the cut walk at size s after j of its candidates, where d sizes are left, s among them. An ended walk is at its end. One that goes on
  -- stands before the next candidate of size s; if there is none, before the first candidate of the next size that has any; and if no size
  -- has any, request E7's "a walk with no candidate left has ended"
  unfoldable pub settle : ℕ → ℕ → ℕ → WalkState Mat → Cut Mat
  settle d s j (ended e k n) = over e k n
  settle zero s j (going k n) = over none k n
  settle (suc d) s j (going k n) =
      let later = settle d (suc s) 0 (going k n) in
      cond (ltb j (length (layer O s k))) (more s j k n) later

  -- a walk of which nothing is tried
  unfoldable pub start : Cut Mat
  start = settle b 1 0 (going [] (tally 0 0))

  -- one candidate more; the end stays
  unfoldable pub step : Cut Mat → Cut Mat
  step (more s j k n) = settle (suc b - s) s (suc j) (foldl (consider O C) (going k n) (take 1 (drop j (layer O s k))))
  step (over e k n) = over e k n

  -- a turn of at most that many candidates
  unfoldable pub turn : ℕ → Cut Mat → Cut Mat
  turn zero c = c
  turn (suc k) c = turn k (step c)
