-- Printing a node over its children: the room it needs, and its bytes.
-- Assumes nothing.
use mathlib.Core.Path.{◌≡◌, refl, sym, ap, ◌∙◌, subst}
use mathlib.Core.Logic.{◌⊎◌}
use mathlib.Core.Bool.{true, false}
use mathlib.Core.List.{List, [], ◌∷◌, ◌++◌, append_assoc}
use Prim.Native.Nat.{ℕ, ◌≤◌, ◌<◌}
use native.Mathlib.Omega.{arith}
use lib.ListN.{length, get_or}
use Rattle.sequence.specs.Operators.{unary_token}
use Rattle.formula.specs.Formula.{leaf, unary, binary, proposition, constant, Formula}
use Rattle.formula.specs.Nodes.{Node, node_at, Spells, codes}
use Rattle.formula.proofs.Trees.{spells-size}
use Rattle.formula.specs.Rule.{IsUnary, IsBinary, proposition_code}
use Rattle.text.specs.Text.{space, bracketed, text, leaf_text, most_text}
use Rattle.names.specs.Names.{names_in}
use Rattle.writing.specs.Writing.{Wrote}
use Rattle.text.specs.Inner.{Printable, TextWritten, WrittenAt, spaced, TokenWritten, BetweenWritten}
use Rattle.formula.proofs.Faults.{not-both, not-unary-leaf, not-binary-leaf, fits-small, left-fits, right-fits}
use Rattle.formula.proofs.Spelled.{spelled}
use Rattle.names.proofs.Starts.{short-names}
use Rattle.writing.proofs.Writing.{wrote-both}
use Rattle.text.proofs.Texts.{unary-token, binary-token, text-fits}

module _ (file : List ℕ) (k : List Node) where
  -- what is asked of a node over the list is asked of its children, which are smaller
  pub printable-left : {nd : Node} → Printable file k nd → IsUnary nd.code ⊎ IsBinary nd.code
      → Printable file k (node_at k nd.left) × ((node_at k nd.left).size < nd.size)
  printable-left {nd} r u = let f = left-fits (length (names_in file)) k r.all nd r.fits u in (record { good = r.good; all = r.all; fits = f.0 }, f.1)

  pub printable-right : {nd : Node} → Printable file k nd → IsBinary nd.code → Printable file k (node_at k nd.right) × ((node_at k nd.right).size < nd.size)
  printable-right {nd} r u = let f = right-fits (length (names_in file)) k r.all nd r.fits u in (record { good = r.good; all = r.all; fits = f.0 }, f.1)

  -- the formula of a node, and the room that its text needs
  pub formula-of : {nd : Node} → Printable file k nd → (t : Formula) × Spells codes k nd t
  formula-of {nd} r = spelled (length (names_in file)) k r.all (length k) (omega arith) nd r.fits

  pub text-bound : {nd : Node} → Printable file k nd → (t : Formula) → Spells codes k nd t → length (text (names_in file) t) ≤ most_text
  text-bound {nd} r t s =
      let z = spells-size codes k nd t s in
      text-fits (names_in file) (short-names file r.good) t (omega (arith, fits-small (length (names_in file)) k (length k) nd r.fits))

  module _ (nd : Node) where
    -- ---- leaves

    -- the text of a leaf by its code
    pub proposition-text : nd.code ≡ proposition_code → (t : Formula) → Spells codes k nd t → text (names_in file) t ≡ get_or (names_in file) nd.left []
    proposition-text e (leaf (proposition p)) s = ap (λ (n : ℕ). get_or (names_in file) n []) (sym s.1)
    proposition-text e (leaf (constant false)) s = absurd (omega (arith, s.0))
    proposition-text e (leaf (constant true)) s = absurd (omega (arith, s.0))
    proposition-text e (unary op t) s = absurd (not-unary-leaf nd.code (op, sym s.0) (proposition 0, sym e))
    proposition-text e (binary op l t) s = absurd (not-binary-leaf nd.code (op, sym s.0) (proposition 0, sym e))

    pub false_text : nd.code ≡ 17 → (t : Formula) → Spells codes k nd t → text (names_in file) t ≡ leaf_text (names_in file) (constant false)
    false_text e (leaf (proposition p)) s = absurd (omega (arith, s.0))
    false_text e (leaf (constant false)) s = refl
    false_text e (leaf (constant true)) s = absurd (omega (arith, s.0))
    false_text e (unary op t) s = absurd (not-unary-leaf nd.code (op, sym s.0) (constant false, sym e))
    false_text e (binary op l t) s = absurd (not-binary-leaf nd.code (op, sym s.0) (constant false, sym e))

    pub true_text : nd.code ≡ 18 → (t : Formula) → Spells codes k nd t → text (names_in file) t ≡ leaf_text (names_in file) (constant true)
    true_text e (leaf (proposition p)) s = absurd (omega (arith, s.0))
    true_text e (leaf (constant false)) s = absurd (omega (arith, s.0))
    true_text e (leaf (constant true)) s = refl
    true_text e (unary op t) s = absurd (not-unary-leaf nd.code (op, sym s.0) (constant true, sym e))
    true_text e (binary op l t) s = absurd (not-binary-leaf nd.code (op, sym s.0) (constant true, sym e))

    -- where its text is known, its bytes are
    pub known_written : {bytes : List ℕ} → ((t : Formula) → Spells codes k nd t → text (names_in file) t ≡ bytes)
        → {old new : List ℕ} {at r : ℕ} → Wrote old at bytes new r → TextWritten file k nd old at new r
    known_written is {old} {new} {at} {r} w t s = subst (λ (u : List ℕ). Wrote old at u new r) (sym (is t s)) w

    -- ---- operators

    -- what is written before the child, and the child
    pub unary-written : IsUnary nd.code → {l m n : List ℕ} {at a r : ℕ} → TokenWritten nd.code l at m a
        → WrittenAt file k nd.left m a n r → TextWritten file k nd l at n r
    unary-written u w v (leaf c) s = absurd (not-unary-leaf nd.code u (c, sym s.0))
    unary-written u w v (binary op x y) s = absurd (not-both nd.code u (op, sym s.0))
    unary-written u {l} {m} {n} {at} {a} {r} (o, ls, w) v (unary op t) s =
        let b = bracketed (text (names_in file) t) in
        let same : spaced o ++ b ≡ text (names_in file) (unary op t) =
        ap (λ (y : List ℕ). (y ++ (space ∷ [])) ++ b) (unary-token o ls (op, sym s.0)).is ∙ append_assoc (unary_token op) (space ∷ []) b in
        subst (λ (y : List ℕ). Wrote l at y n r) same (wrote-both (spaced o) b w (v t s.4))

    -- the left child, what stands between, and the right child
    pub binary-written : IsBinary nd.code → {l0 l1 l2 l3 : List ℕ} {at a1 a2 r : ℕ}
        → WrittenAt file k nd.left l0 at l1 a1 → BetweenWritten nd.code l1 a1 l2 a2 → WrittenAt file k nd.right l2 a2 l3 r → TextWritten file k nd l0 at l3 r
    binary-written u v w z (leaf c) s = absurd (not-binary-leaf nd.code u (c, sym s.0))
    binary-written u v w z (unary op t) s = absurd (not-both nd.code (op, sym s.0) u)
    binary-written u {l0} {l1} {l2} {l3} {at} {a1} {a2} {r} v (o, ls, w) z (binary op x y) s =
        let p = bracketed (text (names_in file) x) in
        let q = bracketed (text (names_in file) y) in
        let same : (p ++ (space ∷ spaced o)) ++ q ≡ text (names_in file) (binary op x y) =
        ap (λ (b : List ℕ). (p ++ (space ∷ (b ++ (space ∷ [])))) ++ q) (binary-token o ls (op, sym s.0)).is ∙ simp append_assoc in
        subst (λ (b : List ℕ). Wrote l0 at b l3 r) same (wrote-both (p ++ (space ∷ spaced o)) q (wrote-both p (space ∷ spaced o) (v x s.3) w) (z y s.5))

  -- a child in its brackets
  pub child-written : (p : ℕ) {nd : Node} → nd ≡ node_at k p → {l0 l1 l2 l3 : List ℕ} {at a b r : ℕ}
      → Wrote l0 at (40 ∷ []) l1 a → TextWritten file k nd l1 a l2 b → Wrote l2 b (41 ∷ []) l3 r → WrittenAt file k p l0 at l3 r
  child-written p e w v z t s =
      let x = text (names_in file) t in
      wrote-both ((40 ∷ []) ++ x) (41 ∷ []) (wrote-both (40 ∷ []) x w (v t (subst (λ (c : Node). Spells codes k c t) (sym e) s))) z
