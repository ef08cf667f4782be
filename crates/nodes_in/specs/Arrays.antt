-- Nodes in an array, by value: which of a list it has, and what is said of the list by way of it.
-- Assumes nothing.
use Rattle.std.specs.Prelude.{◌≡◌, List, ℕ, ◌+◌, length, take}
use Rattle.formula.specs.Nodes as walk
use Rattle.session.specs.Recording.{Recording}
use Rattle.rules.specs.Limits.{most_room}
use Rattle.rules.specs.Answers.{Said}
use Rattle.formula.specs.declared.kinds.Node.{Node}
use Rattle.verdict.specs.Check.{CheckAnswer}
use Rattle.text.specs.Print.{Prints}
use Rattle.nodes_in.specs.Lists.{plain, codes_of, lefts_of, rights_of, sizes_of}

-- one more than 4,096: by so many nodes a list shows that it is too long
abbrev pub seen : ℕ
seen = most_room + 1

-- the nodes that are looked at are the array's first ones
pub record Copied (ns list : List Node) : Type 0 where
  pub full : length list ≡ seen
  pub same : take seen ns ≡ take (length ns) list

-- the first i fields of four lists as long as the list are its nodes'
pub record FieldsFilled (list : List Node) (i : ℕ) (codes lefts rights sizes : List ℕ) : Type 0 where
  pub codes-long : length codes ≡ length list
  pub lefts-long : length lefts ≡ length list
  pub rights-long : length rights ≡ length list
  pub sizes-long : length sizes ≡ length list
  pub codes-are : take i codes ≡ take i (codes_of list)
  pub lefts-are : take i lefts ≡ take i (lefts_of list)
  pub rights-are : take i rights ≡ take i (rights_of list)
  pub sizes-are : take i sizes ≡ take i (sizes_of list)

-- the check's answer for whatever list of n nodes the array was copied from
abbrev pub Checks : Recording → List Node → ℕ → walk.Node → Said → Type 0
Checks i list n root s = (ns : List Node) → length ns ≡ n → Copied ns list → CheckAnswer i (plain ns) root s

-- printing's, in the same way
abbrev pub Printing : List ℕ → List Node → ℕ → walk.Node → List ℕ → Said → List ℕ → Type 0
Printing file list n root old s new = (ns : List Node) → length ns ≡ n → Copied ns list → Prints file (plain ns) root old s new
