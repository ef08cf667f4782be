-- What the functions of the C boundary have in common: the slice `out`, and the number returned.
-- Assumes nothing.
use Rattle.std.specs.Prelude.{cond, List, [], ◌∷◌, ℕ, suc, ◌+◌, ◌*◌, ◌<◌, eqb, length, set}
use Rattle.rules.specs.Refusals.{Row}
use Rattle.rules.specs.Answers.{Said}

-- "Answers go to a last slice `out` of at least 8 words"
abbrev pub out_words : ℕ
out_words = 8

-- "a shorter one is 3"
abbrev pub out_short : List ℕ → Row
out_short out = record { number = 3; given = length out < out_words }

-- "scarfpylon_search: out has at least 16 words from here on (resume too)"
abbrev pub long_words : ℕ
long_words = 16

-- "a shorter one is 3"
abbrev pub long_short : List ℕ → Row
long_short out = record { number = 3; given = length out < long_words }

-- a word of `out` that an answer names
pub record OutWord : Type 0 where
  pub at : ℕ
  pub value : ℕ

abbrev pub word_from : ℕ → ℕ → OutWord
word_from at value = record { at = at; value = value }

-- "Words of `out` that the lines below don't name for the case at hand stay as they were"
abbrev pub written : List OutWord → List ℕ → List ℕ
written [] out = out
written (w ∷ ws) out = written ws (set out w.at w.value)

-- values in the order of their words
abbrev pub in_order : ℕ → List ℕ → List OutWord
in_order at [] = []
in_order at (v ∷ vs) = word_from at v ∷ in_order (suc at) vs

-- ---- an answer in document 01's terms: its number, and its values (of numbers 8, 11 and 13 the offset)

-- "0 where it answered, else the refusal number, with 256 x offset added for numbers 8, 11 and 13": those that carry one
abbrev pub refused_at : ℕ → ℕ → ℕ
refused_at number offset = number + 256 * offset

abbrev pub broken_at : ℕ → ℕ
broken_at offset = refused_at 8 offset

abbrev pub number_with : ℕ → List ℕ → ℕ
number_with k [] = k
number_with k (v ∷ vs) = cond (eqb k 0) 0 (refused_at k v)

abbrev pub returned_of : Said → ℕ
returned_of s = number_with s.number s.values

-- the values of an answer from the first word on; "a refusal writes nothing"
abbrev pub words_with : ℕ → List ℕ → List OutWord
words_with k [] = []
words_with k (v ∷ vs) = cond (eqb k 0) (in_order 0 (v ∷ vs)) []

abbrev pub said_words : Said → List OutWord
said_words s = words_with s.number s.values
