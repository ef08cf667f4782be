-- What the core is handed, the first fields of an array of nodes, are the nodes that the array was copied from.
-- Assumes nothing.
use mathlib.Core.Path.{◌≡◌, sym, ap, ◌∙◌, subst}
use mathlib.Core.List.{List}
use Prim.Native.Nat.{ℕ, ◌<◌, min}
use native.Mathlib.Decide.{dec_le}
use native.Mathlib.Omega.{arith}
use lib.ListN.{length, take, length-map, get_or-map}
use lib.Seq.{take_all, ext_get_or}
use Rattle.rules.specs.Answers.{Said}
use Rattle.formula.specs.Nodes as walk
use Rattle.session.specs.Recording.{Recording}
use Rattle.formula.specs.declared.kinds.Node.{Node}
use Rattle.formula.specs.Kinds.{node_of, node, nodes, no_node}
use Rattle.verdict.specs.Check.{CheckAnswer}
use Rattle.text.specs.Print.{Prints}
use Rattle.formula.proofs.Listed.{length-nodes, node-at}
use Rattle.nodes_in.specs.Lists.{plain, codes_of, lefts_of, rights_of, sizes_of}
use Rattle.nodes_in.specs.Arrays.{seen, Copied, FieldsFilled, Checks, Printing}
use Rattle.nodes_in.proofs.Fields.{map-take}
use Rattle.nodes_in.proofs.Cut.{check-whole, print-whole}

-- ---- four lists of fields are the nodes

module _ (ns : List Node) where
  same_count : length (nodes (codes_of ns) (lefts_of ns) (rights_of ns) (sizes_of ns)) ≡ length (plain ns)
  same_count = omega (
    arith,
    length-nodes (codes_of ns) (lefts_of ns) (rights_of ns) (sizes_of ns),
    length-map ns (λ n. n.code),
    length-map ns (λ n. n.left.0),
    length-map ns (λ n. n.right.0),
    length-map ns (λ n. n.size),
    length-map ns node_of,
  )

  same-node : (p : ℕ) → p < length (nodes (codes_of ns) (lefts_of ns) (rights_of ns) (sizes_of ns))
      → walk.node_at (nodes (codes_of ns) (lefts_of ns) (rights_of ns) (sizes_of ns)) p ≡ walk.node_at (plain ns) p
  same-node p h =
      node-at (codes_of ns) (lefts_of ns) (rights_of ns) (sizes_of ns) p (omega (arith, length-nodes (codes_of ns) (lefts_of ns) (rights_of ns) (sizes_of ns)))
      ∙ rw (
        get_or-map (λ n. n.code) ns p no_node,
        get_or-map (λ n. n.left.0) ns p no_node,
        get_or-map (λ n. n.right.0) ns p no_node,
        get_or-map (λ n. n.size) ns p no_node,
        get_or-map node_of ns p no_node,
      )

  columns-nodes : nodes (codes_of ns) (lefts_of ns) (rights_of ns) (sizes_of ns) ≡ plain ns
  columns-nodes = ext_get_or (node 0 0 0 0) _ _ same_count same-node

first-nodes : (list : List Node) (n : ℕ) {c l r s : List ℕ} → FieldsFilled list n c l r s → nodes (take n c) (take n l) (take n r) (take n s) ≡ plain (take n list)
first-nodes list n f =
    rw (
      f.codes-are ∙ sym (map-take (λ m. m.code) n list),
      f.lefts-are ∙ sym (map-take (λ m. m.left.0) n list),
      f.rights-are ∙ sym (map-take (λ m. m.right.0) n list),
      f.sizes-are ∙ sym (map-take (λ m. m.size) n list),
    ) (columns-nodes (take n list))

-- ---- the array and the list that it was copied from

cut-same : (ns list : List Node) (n : ℕ) → n ≡ min (length ns) seen → Copied ns list → take n list ≡ take seen ns
cut-same ns list n e k =
    elim (dec_le (length ns) seen) [
      | yes h ↦ let j : n ≡ length ns = omega arith in ap (λ (m : ℕ). take m list) j ∙ sym k.same
      | no h ↦ take_all n list (omega (arith, k.full)) ∙ sym (take_all (length ns) list (omega (arith, k.full))) ∙ sym k.same
    ]

-- ---- the core's answer for the first fields is the answer for the list

module _ (list : List Node) (long n : ℕ) {c l r s : List ℕ} (e : n ≡ min long seen) (f : FieldsFilled list n c l r s) where
  what-is-seen : (ns : List Node) → length ns ≡ long → Copied ns list → nodes (take n c) (take n l) (take n r) (take n s) ≡ plain (take seen ns)
  what-is-seen ns h k = first-nodes list n f ∙ ap plain (cut-same ns list n (omega arith) k)

  pub checks-seen : (i : Recording) (root : walk.Node) (a : Said) → CheckAnswer i (nodes (take n c) (take n l) (take n r) (take n s)) root a → Checks i list long root a
  checks-seen i root a x ns h k = check-whole i ns root a (subst (λ (q : List walk.Node). CheckAnswer i q root a) (what-is-seen ns h k) x)

  pub prints-seen : (file : List ℕ) (root : walk.Node) (old : List ℕ) (a : Said) (new : List ℕ)
      → Prints file (nodes (take n c) (take n l) (take n r) (take n s)) root old a new → Printing file list long root old a new
  prints-seen file root old a new x ns h k = print-whole file ns root old a new (subst (λ (q : List walk.Node). Prints file q root old a new) (what-is-seen ns h k) x)
