-- The words that no name may be: those of document 02's E1. That every operator's token that is a word, and the two constants, are among them, and
-- nothing else, is proved in text (proofs/Tokens.antt).
-- Assumes nothing.
use Rattle.std.specs.Prelude.{List, [], ◌∷◌, ℕ}

-- "Names `U`, `R`, `X`, `F`, `G`, `true` and `false` are refused from now on": these bytes exactly, so `u`, `True`, `X1` and `trueish` are good
unfoldable pub reserved : List (List ℕ)
reserved =
    (85 ∷ [])
    ∷ (82 ∷ [])
    ∷ (88 ∷ [])
    ∷ (70 ∷ [])
    ∷ (71 ∷ [])
    ∷ (116 ∷ 114 ∷ 117 ∷ 101 ∷ [])
    ∷ (102 ∷ 97 ∷ 108 ∷ 115 ∷ 101 ∷ [])
    ∷ []
