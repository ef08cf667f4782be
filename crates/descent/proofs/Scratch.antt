-- Nodes in the scratch: a run behind a run, and the node of an operator behind its operands.
-- Assumes nothing.
use mathlib.Core.Path.{◌≡◌, refl, sym, ap, ◌∙◌}
use mathlib.Core.List.{List, [], ◌∷◌, ◌++◌, map-append}
use Prim.Native.Nat.{ℕ, ◌+◌, ◌-◌, ◌≤◌}
use native.Mathlib.Omega.{arith}
use lib.ListN.{length, set, length-append, length-map}
use lib.Seq.{sets, length-sets}
use Rattle.sequence.specs.Operators.{Unary, Binary, unary_code, binary_code}
use Rattle.formula.specs.Formula.{Tree, leaf, unary, binary, size}
use Rattle.formula.specs.Nodes.{Node, Codes}
use Rattle.writing.proofs.Writing.{sets-both}
use Rattle.grammar.specs.Token.{Atom, Typed}
use Rattle.grammar.specs.Nodes.{nodes_of}
use Rattle.formula.specs.Kinds.{node}
use Rattle.grammar.proofs.Passage.{behind_left}
use Rattle.names.specs.Names.{names_in}
use Rattle.descent.specs.Packed.{codes_by, pack, packs, atom_code, atom_field}
use Rattle.descent.specs.Packed.{NodesWritten}
use Rattle.descent.specs.Answers.{Room}

packs-both : (xs ys : List Node) → packs (xs ++ ys) ≡ packs xs ++ packs ys
packs-both xs ys = map-append pack xs ys

packs-length : (xs : List Node) → length (packs xs) ≡ length xs
packs-length xs = length-map xs pack

-- as many nodes as the size says
pub nodes-length : {L U B : Type 0} (C : Codes L U B) (p : ℕ) (t : Tree L U B) → length (nodes_of C p t) ≡ size t
unfolding nodes_of
nodes-length C p (leaf l) = refl
nodes-length C p (unary u t) = let n = nodes-length C p t in simp length-append (omega arith)
nodes-length C p (binary o l r) =
    let n = nodes-length C p l in
    let m = nodes-length C (p + size l) r in
    simp length-append (omega arith)

pub written-length : (old : List ℕ) {new : List ℕ} (p : ℕ) (ns : List Node) → new ≡ sets old p (packs ns) → length new ≡ length old
written-length old p ns e = ap length e ∙ length-sets old p (packs ns)

-- one run behind another
pub written_then : (old : List ℕ) {mid new : List ℕ} (p : ℕ) (xs ys : List Node) {q : ℕ} → q ≡ p + length xs → mid ≡ sets old p (packs xs) → new ≡ sets mid q (packs ys)
    → new ≡ sets old p (packs (xs ++ ys))
written_then old {mid} {new} p xs ys {q} z e f =
    f ∙ ap (λ (l : List ℕ). sets l q (packs ys)) e
    ∙ ap (λ (n : ℕ). sets (sets old p (packs xs)) n (packs ys)) (z ∙ ap (λ (n : ℕ). p + n) (sym (packs-length xs)))
    ∙ sym (sets-both old p (packs xs) (packs ys))
    ∙ ap (sets old p) (sym (packs-both xs ys))

module _ (file text : List ℕ) (place : ℕ) (old : List ℕ) where
  pub written-leaf : {new : List ℕ} {code left : ℕ} (l : Atom) → (code ≡ atom_code l) × (left ≡ atom_field (names_in file) l)
      → new ≡ set old place (pack (node code left 0 1)) → NodesWritten file place (leaf l) old new
  unfolding nodes_of
  written-leaf {new} {code} {left} l f e = e ∙ ap (λ (c : ℕ). set old place (pack (node c left 0 1))) f.0 ∙ ap (λ (v : ℕ). set old place (pack (node (atom_code l) v 0 1))) f.1

  module _ (mid : List ℕ) {new : List ℕ} where
    pub written-unary : {code m : ℕ} (u : Unary) (t : Typed) → code ≡ unary_code u → size t ≡ m → NodesWritten file place t old mid
        → new ≡ set mid (place + m) (pack (node code (place + m - 1) 0 (1 + m))) → NodesWritten file place (unary u t) old new
    unfolding nodes_of
    written-unary {code} {m} u t c z e f =
        let C = codes_by (names_in file) in
        let g : new ≡ sets mid (place + size t) (packs (node (unary_code u) (place + size t - 1) 0 (1 + size t) ∷ [])) =
        f ∙ ap (λ (x : ℕ). set mid (place + m) (pack (node x (place + m - 1) 0 (1 + m)))) c
        ∙ ap (λ (x : ℕ). set mid (place + x) (pack (node (unary_code u) (place + x - 1) 0 (1 + x)))) (sym z) in
        written_then old place (nodes_of C place t) (node (unary_code u) (place + size t - 1) 0 (1 + size t) ∷ []) (ap (λ (x : ℕ). place + x) (sym (nodes-length C place t))) e g

  -- the right side, the operator, and what goes on
  pub written-more : (mid both : List ℕ) {new : List ℕ} {code : ℕ} (before : ℕ) {w : ℕ} (o : Binary) (r : Typed) (more : List Node) → code ≡ binary_code o → size r ≡ w
      → NodesWritten file (place + before) r old mid
      → both ≡ set mid (place + before + w) (pack (node code (place + before - 1) (place + before + w - 1) (1 + before + w)))
      → new ≡ sets both (place + (1 + (before + w))) (packs more)
      → new ≡ sets old (place + before) (packs (behind_left text (codes_by (names_in file)) place before o r ++ more))
  written-more mid both {new} {code} before {w} o r more c z e f g =
      let C = codes_by (names_in file) in
      let p = place + before in
      let own : List Node = node (binary_code o) (p - 1) (p + size r - 1) (1 + before + size r) ∷ [] in
      let n = nodes-length C p r in
      let h : both ≡ sets mid (p + size r) (packs own) =
      f ∙ ap (λ (x : ℕ). set mid (p + w) (pack (node x (p - 1) (p + w - 1) (1 + before + w)))) c
      ∙ ap (λ (x : ℕ). set mid (p + x) (pack (node (binary_code o) (p - 1) (p + x - 1) (1 + before + x)))) (sym z) in
      let k : both ≡ sets old p (packs (nodes_of C p r ++ own)) = written_then old p (nodes_of C p r) own (omega arith) e h in
      written_then old p (nodes_of C p r ++ own) more (omega (arith, length-append (nodes_of C p r) own)) k g

-- the room, further on
pub room-on : {file text old new : List ℕ} {place at p a : ℕ} → Room file text old place at → length new ≡ length old → a ≤ length text → p ≤ a → Room file text new p a
room-on r e h g = record { names = r.names; short = r.short; within = h; before = g; room = omega (arith, r.room) }
