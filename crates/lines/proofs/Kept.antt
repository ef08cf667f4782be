-- The kept formulas as a node list: no node of it is broken, and the four lent lists are its columns.
-- Assumes nothing.
use mathlib.Core.Path.{◌≡◌, refl, sym, ap, ◌∙◌, subst}
use mathlib.Core.List.Memᴰ
use mathlib.Core.List.{List, [], ◌∷◌, ◌++◌, map, map-append, append-nil, append_assoc}
use Prim.Native.Nat.{ℕ, zero, suc, ◌+◌, ◌≤◌, ◌<◌}
use native.Mathlib.Omega.{arith}
use lib.ListN.{length, get_or, length-append, length-map, get_or-append}
use lib.Seq.{ext_get_or}
use Rattle.formula.specs.Formula.{size, Leaf, proposition, constant, Formula, Language, LeafOffered, Offered}
use Rattle.rules.specs.Lists.{◌∈◌}
use Rattle.formula.proofs.Trees.{spells-size}
use Rattle.formula.specs.Formula.Tree.{leaf, unary, binary}
use Rattle.formula.specs.Nodes.{Node, node_at, Spells, codes}
use Rattle.walk.specs.Walk.{Candidate}
use Rattle.walk.specs.Input.{Input, language}
use Rattle.rules.specs.Limits.{most_size, most_room}
use Rattle.walk.specs.Kept.{Table}
use Rattle.walk.specs.Promises.{KeepsAll, Kept, FoundAs}
use Rattle.walk.specs.Kept as tables
use Rattle.formula.specs.Kinds.{node, nodes}
use Rattle.formula.specs.Rule.{Broken}
use Rattle.formula.specs.Faultless.{LeafIn, Fits}
use Rattle.formula.specs.Faultless.Fits.{leaf as a-leaf, unary as a-unary, binary as a-binary}
use Rattle.formula.proofs.Listed.{length-nodes, node-at}
use Rattle.formula.proofs.Faults.{fits_whole}

-- ---- no node is broken

leaf-in : (ℒ : Language) (c : Leaf) → LeafOffered ℒ c → LeafIn ℒ.propositions c
leaf-in ℒ (proposition p) h = h
leaf-in ℒ (constant b) h = tt

module _ (k x : List Node) where
  child : (p : ℕ) (t : Formula) → p < length k → Spells codes k (node_at k p) t → (node_at (k ++ x) p).size ≡ size t
  child p t h s = ap (λ (n : Node). n.size) (get_or-append k x (node 0 0 0 0) p h) ∙ spells-size codes k (node_at k p) t s

  -- a node that spells a formula over the first nodes of a list has no fault in that list
  spells-fits : (ℒ : Language) (n : Node) (t : Formula) → Spells codes k n t → Offered ℒ t → n.size ≤ most_size → Fits ℒ.propositions (k ++ x) (length k) n
  spells-fits ℒ n (leaf c) s o h = a-leaf c s.0 s.1 (leaf-in ℒ c o) s.2 s.3
  spells-fits ℒ n (unary op t) s o h =
      a-unary op s.0 s.3 s.1 (let e = child n.left t s.3 s.4 in omega (arith, s.2)) h
  spells-fits ℒ n (binary op l r) s o h =
      a-binary op s.0 s.2 s.4 (let e = child n.left l s.2 s.3 in let f = child n.right r s.4 s.5 in omega (arith, s.1)) h

module _ (i : Input) where
  -- the nodes after those before
  all_fit : (before k : Table) (ts : List Formula) → KeepsAll i before k ts → ((c : Candidate (List ℕ)) → c ∈ k → c.node.size ≤ most_size)
      → (p : ℕ) → p < length k → Fits i.recording.propositions (tables.table_nodes (before ++ k)) (length before + p) (node_at (tables.table_nodes k) p)
  all_fit before [] ts a s p h = absurd (omega arith)
  all_fit before (c ∷ k) [] a s p h = absurd a
  all_fit before (c ∷ k) (t ∷ ts) a s zero h =
      let f = spells-fits (tables.table_nodes before) (tables.table_nodes (c ∷ k)) (language i) c.node t a.0.spelled a.0.offered (s c (Memᴰ.head refl)) in
      let e : length (tables.table_nodes before) ≡ length before + 0 = length-map before (λ c. c.node) ∙ (let z : length before ≡ length before + 0 = omega arith in z) in
      subst (λ (b : ℕ). Fits i.recording.propositions (tables.table_nodes (before ++ (c ∷ k))) b c.node) e
      (subst (λ (l : List Node). Fits i.recording.propositions l (length (tables.table_nodes before)) c.node) (sym (map-append (λ c. c.node) before (c ∷ k))) f)
  all_fit before (c ∷ k) (t ∷ ts) a s (suc p) h =
      let f = all_fit (before ++ (c ∷ [])) k ts a.1 (λ d m. s d (Memᴰ.tail m)) p (omega arith) in
      let e : length (before ++ (c ∷ [])) + p ≡ length before + suc p = (let z = length-append before (c ∷ []) in omega arith) in
      subst (λ (b : ℕ). Fits i.recording.propositions (tables.table_nodes (before ++ (c ∷ k))) b (node_at (tables.table_nodes k) p)) e
      (subst (λ (l : Table). Fits i.recording.propositions (tables.table_nodes l) (length (before ++ (c ∷ [])) + p) (node_at (tables.table_nodes k) p)) (append_assoc before (c ∷ []) k) f)

  -- what the walk keeps, with the root that it finds
  pub kept_whole : (root : Node) (k : Table) → Kept i k → FoundAs i root k → ((c : Candidate (List ℕ)) → c ∈ k → c.node.size ≤ most_size)
      → i.room ≤ most_room → i.bound ≤ most_size → Broken i.recording.propositions (tables.table_nodes k) root → ⊥
  kept_whole root k a f s h b =
      fits_whole i.recording.propositions (tables.table_nodes k) root
      (let e = length-map k (λ c. c.node) in omega (arith, a.room))
      (λ p l.
      let z : 0 + p ≡ p = omega arith in
      subst (λ (q : ℕ). Fits i.recording.propositions (tables.table_nodes k) q (node_at (tables.table_nodes k) p)) z
      (all_fit [] k a.formulas a.kept s p (let e = length-map k (λ c. c.node) in omega arith)))
      (subst (λ (l : List Node). Fits i.recording.propositions l (length (tables.table_nodes k)) root) (append-nil (tables.table_nodes k))
      (spells-fits (tables.table_nodes k) [] (language i) root f.formula f.spelled f.offered (omega (arith, f.sized, f.within))))

-- ---- the columns

at_place : (k : Table) (p : ℕ) → p < length k
    → node (get_or (map (λ c. c.node.code) k) p 0) (get_or (map (λ c. c.node.left) k) p 0) (get_or (map (λ c. c.node.right) k) p 0) (get_or (map (λ c. c.node.size) k) p 0)
    ≡ node_at (tables.table_nodes k) p
at_place [] p h = absurd (omega arith)
at_place (c ∷ k) zero h = refl
at_place (c ∷ k) (suc p) h = at_place k p (omega arith)

pub columns : (k : Table) → nodes (map (λ c. c.node.code) k) (map (λ c. c.node.left) k) (map (λ c. c.node.right) k) (map (λ c. c.node.size) k) ≡ tables.table_nodes k
columns k =
    let a = length-map k (λ c. c.node.code) in
    let b = length-map k (λ c. c.node.left) in
    let c = length-map k (λ c. c.node.right) in
    let d = length-map k (λ c. c.node.size) in
    let e = length-map k (λ c. c.node) in
    let n = length-nodes (map (λ c. c.node.code) k) (map (λ c. c.node.left) k) (map (λ c. c.node.right) k) (map (λ c. c.node.size) k) in
    ext_get_or (node 0 0 0 0) _ _ (omega arith)
    (λ p h. node-at (map (λ c. c.node.code) k) (map (λ c. c.node.left) k) (map (λ c. c.node.right) k) (map (λ c. c.node.size) k) p (omega arith) ∙ at_place k p
    (omega arith))
