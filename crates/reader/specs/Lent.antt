-- For the reader's private functions: what they write into the lent slices, and what a text is answered whose names are good. No public contract cites
-- this file.
-- Assumes nothing.
use Rattle.std.specs.Prelude.{◌≡◌, List, [], ◌∷◌, map, ℕ, ◌/◌, ◌%◌, ◌≤◌, length, take}
use Rattle.std.proofs.lemmas.List.Edits.{sets}
use Rattle.rules.specs.Answers.{Said}
use Rattle.reader.specs.Parsing.{Columns, Decides, long_text, no_formula, unknown_name, large_formula, short_node_room, Taken}

pub record Enough (n : ℕ) (s c l r z : List ℕ) : Type 0 where
  pub scratch : n ≤ length s
  pub codes : n ≤ length c
  pub lefts : n ≤ length l
  pub rights : n ≤ length r
  pub sizes : n ≤ length z

pub record Unpacked (n : ℕ) (s c l r z c' l' r' z' : List ℕ) : Type 0 where
  pub codes : c' ≡ sets c 0 (map (λ e. e / 1 % 256) (take n s))
  pub lefts : l' ≡ sets l 0 (map (λ e. e / 256 % 65536) (take n s))
  pub rights : r' ≡ sets r 0 (map (λ e. e / 16777216 % 65536) (take n s))
  pub sizes : z' ≡ sets z 0 (map (λ e. e / 1099511627776 % 256) (take n s))

-- the contract from the second row on
pub record ReadsGood (file text : List ℕ) (old new : Columns) (s : Said) : Type 0 where
  pub answer : Decides (
      long_text file text old
      ∷ no_formula file text old
      ∷ unknown_name file text old
      ∷ large_formula file text old
      ∷ short_node_room file text old
      ∷ []
      ) (Taken file text old new) s
  pub refused : (s.number ≡ 0 → ⊥) → new ≡ old
