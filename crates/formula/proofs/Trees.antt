-- Trees and the nodes that spell them: a formula's size is at least 1 and its node's, and a longer list spells the same.
-- Assumes nothing.
use mathlib.Core.Path.{◌≡◌, sym, subst}
use mathlib.Core.List.{List, ◌++◌}
use Prim.Native.Nat.{ℕ, ◌≤◌, ◌<◌}
use native.Mathlib.Omega.{arith}
use lib.ListN.{length, length-append, get_or-append}
use Rattle.formula.specs.Formula.{Tree, leaf, unary, binary, size}
use Rattle.formula.specs.Nodes.{Node, Codes, node_at, Spells}

pub size-pos : {L U B : Type 0} (t : Tree L U B) → 1 ≤ size t
size-pos (leaf c) = omega arith
size-pos (unary op t) = omega arith
size-pos (binary op l r) = omega arith

module _ {L U B : Type 0} (K : Codes L U B) where
  pub spells-size : (k : List Node) (n : Node) (t : Tree L U B) → Spells K k n t → n.size ≡ size t
  spells-size k n (leaf c) s = s.3
  spells-size k n (unary op t) s = s.2
  spells-size k n (binary op l r) s = s.1

  -- a longer list has the same nodes at its first places
  longer : (k x : List Node) (p : ℕ) → p < length k → node_at k p ≡ node_at (k ++ x) p
  longer k x p h = sym (get_or-append k x (record { code = 0; left = 0; right = 0; size = 0 }) p h)

  pub spells-longer : (k x : List Node) (n : Node) (t : Tree L U B) → Spells K k n t → Spells K (k ++ x) n t
  spells-longer k x n (leaf c) s = s
  spells-longer k x n (unary op t) s = (
    s.0,
    s.1,
    s.2,
    (let e = length-append k x in omega (arith, s.3)),
    subst (λ (m : Node). Spells K (k ++ x) m t) (longer k x n.left s.3) (spells-longer k x (node_at k n.left) t s.4),
  )
  spells-longer k x n (binary op l r) s = (
    s.0,
    s.1,
    (let e = length-append k x in omega (arith, s.2)),
    subst (λ (m : Node). Spells K (k ++ x) m l) (longer k x n.left s.2) (spells-longer k x (node_at k n.left) l s.3),
    (let e = length-append k x in omega (arith, s.4)),
    subst (λ (m : Node). Spells K (k ++ x) m r) (longer k x n.right s.4) (spells-longer k x (node_at k n.right) r s.5),
  )
