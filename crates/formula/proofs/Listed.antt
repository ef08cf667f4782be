-- The nodes of four lists: how many they are, the node at a place, and that past the last there is none.
-- Assumes nothing.
use mathlib.Core.Path.{◌≡◌, refl, ap, ◌∙◌}
use mathlib.Core.List.{List, map}
use Prim.Native.Nat.{ℕ, zero, suc, ◌+◌, ◌≤◌, ◌<◌}
use native.Mathlib.Omega.{arith}
use lib.ListN.{length, get_or}
use Rattle.formula.specs.Nodes.{Node, node_at}
use Rattle.rules.specs.Lists.{count}
use Rattle.formula.specs.Kinds.{node, count_of, nodes}

module _ {A : Type 0} (f : ℕ → A) (d : A) where
  counted : (a n j : ℕ) → j < n → get_or (map f (count a n)) j d ≡ f (a + j)
  unfolding count
  counted a zero j h = absurd (omega arith)
  counted a (suc n) zero h = ap f (let e : a ≡ a + 0 = omega arith in e)
  counted a (suc n) (suc j) h = counted (suc a) n j (omega arith) ∙ ap f (let e : suc a + j ≡ a + suc j = omega arith in e)

  counted-off : (a n j : ℕ) → n ≤ j → get_or (map f (count a n)) j d ≡ d
  unfolding count
  counted-off a zero j h = refl
  counted-off a (suc n) zero h = absurd (omega arith)
  counted-off a (suc n) (suc j) h = counted-off (suc a) n j (omega arith)

  length-counted : (a n : ℕ) → length (map f (count a n)) ≡ n
  unfolding count
  length-counted a zero = refl
  length-counted a (suc n) = ap suc (length-counted (suc a) n)

module _ (codes lefts rights sizes : List ℕ) where
  at : ℕ → Node
  at p = node (get_or codes p 0) (get_or lefts p 0) (get_or rights p 0) (get_or sizes p 0)

  pub length-nodes : length (nodes codes lefts rights sizes) ≡ count_of codes lefts rights sizes
  unfolding nodes at
  length-nodes = length-counted at (node 0 0 0 0) 0 (count_of codes lefts rights sizes)

  pub node-at : (p : ℕ) → p < count_of codes lefts rights sizes
      → node_at (nodes codes lefts rights sizes) p ≡ node (get_or codes p 0) (get_or lefts p 0) (get_or rights p 0) (get_or sizes p 0)
  unfolding nodes at
  node-at p h = counted at (node 0 0 0 0) 0 (count_of codes lefts rights sizes) p h ∙ ap at (let e : 0 + p ≡ p = omega arith in e)

  pub node-off : (p : ℕ) → count_of codes lefts rights sizes ≤ p → node_at (nodes codes lefts rights sizes) p ≡ node 0 0 0 0
  unfolding nodes at
  node-off p h = counted-off at (node 0 0 0 0) 0 (count_of codes lefts rights sizes) p h
