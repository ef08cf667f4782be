-- Runs of bytes from an offset on: one byte more at either end.
-- Assumes nothing.
use mathlib.Core.Path.{◌≡◌}
use mathlib.Core.List.{List, [], ◌∷◌, ◌++◌}
use Prim.Native.Nat.{ℕ, suc, ◌+◌, ◌<◌}
use native.Mathlib.Omega.{arith}
use native.Mathlib.Numerals.{add-one}
use lib.ListN.{length, get_or, take, drop, length-drop}
use lib.Seq.{drop-cons, take-suc, get_or-drop}

module _ (file : List ℕ) where
  pub run_on : (m x : ℕ) → x < length file → take (suc m) (drop x file) ≡ get_or file x 0 ∷ take m (drop (x + 1) file)
  run_on m x h = rw (drop-cons file x 0 h, add-one)

  pub run_more : (from i : ℕ) → from + i < length file → take (i + 1) (drop from file) ≡ take i (drop from file) ++ (get_or file (from + i) 0 ∷ [])
  run_more from i h = rw (add-one, take-suc (drop from file) i 0 (omega (arith, length-drop from file)), get_or-drop from file i 0)
