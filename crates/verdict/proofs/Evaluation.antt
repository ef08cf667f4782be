-- The sequence of a node is its formula's, if the children's are theirs: one law for each kind of node.
-- Assumes nothing.
use mathlib.Core.Path.{◌≡◌, refl, sym, ◌∙◌, subst}
use mathlib.Core.Bool.{true, false, true≢false}
use mathlib.Core.Logic.{◌⊎◌}
use mathlib.Core.List.{List}
use Prim.Native.Nat.{ℕ, ◌+◌, ◌≤◌}
use native.Mathlib.Omega.{arith}
use lib.ListN.{length, get_or}
use Rattle.words.specs.Ltlf.{Reading}
use Rattle.words.specs.Masked.{PlacesOn}
use Rattle.words.specs.Word.{width, At, WfComputed, Means}
use Rattle.words.proofs.At.{means, recorded-computed}
use Rattle.words.proofs.Bits.{bit-zero}
use Rattle.words.proofs.Lengths.{Mask, places-cut}
use Rattle.sequence.specs.Operators.{Unary, Binary, unary_reading, binary_reading}
use Rattle.sequence.specs.declared.CharSeq.{CharSeq}
use Rattle.sequence.specs.Sequence.{seq, WellFormed, Denotes}
use Rattle.sequence.specs.Masked.{UnaryBy, BinaryBy}
use Rattle.sequence.specs.Masked.UnaryBy.{operator as by-unary, nothing as no-unary}
use Rattle.sequence.specs.Masked.BinaryBy.{operator as by-binary, nothing as no-binary}
use Rattle.sequence.proofs.Masked.{unary-reads, binary-reads}
use Rattle.sequence.proofs.Unique.{unary-one, binary-one}
use Rattle.sequence.proofs.Groups.{unary-below, binary-between}
use Rattle.formula.specs.Formula.{proposition, constant, Holds}
use Rattle.formula.specs.Formula.Tree.{leaf, unary, binary}
use Rattle.formula.specs.Nodes.{Node, node_at}
use Rattle.sequence.proofs.Agreeing.{means-agree, unary-agree, binary-agree}
use Rattle.formula.specs.Rule.{IsUnary, IsBinary, proposition_code}
use Rattle.formula.specs.Faultless.{Fits}
use Rattle.verdict.specs.Inner.{trace_at, Ready, Evaluated, ReadyAt}
use Rattle.verdict.proofs.Places.{reaches-left, reaches-right, reach-low}
use Rattle.formula.proofs.Faults.{not-both, not-unary-leaf, not-binary-leaf, proposition-under, left-fits, right-fits}

-- another node that fits is as ready
ready_of : {n : ℕ} {words : List ℕ} {from : ℕ} {k : List Node} {nd c : Node} (r : Ready n words from k nd) → Fits r.propositions k (length k) c → Ready n words from k c
ready_of r f = record { short = r.short; propositions = r.propositions; few = r.few; there = r.there; clear = r.clear; all = r.all; fits = f }

module _ (n : ℕ) (words : List ℕ) (from : ℕ) (k : List Node) (nd : Node) where
  -- ---- leaves

  pub word-of-proposition : (l : List Node) → Ready n words from l nd → nd.code ≡ proposition_code → Evaluated n words from k nd (seq n (get_or words (from + nd.left) 0))
  word-of-proposition l r e (leaf (proposition p)) s =
      let here = get_or words (from + nd.left) 0 in
      let w : Means n here (At here) = record { wf = recorded-computed (r.clear nd.left (proposition-under r.propositions l (length l) nd r.fits e)); holds = λ i h. (λ z. z, λ z. z) } in
      record { length = refl; means = subst (λ (q : ℕ). Means n here (At (get_or words (from + q) 0))) s.1 w }
  word-of-proposition l r e (leaf (constant false)) s = absurd (omega (arith, s.0))
  word-of-proposition l r e (leaf (constant true)) s = absurd (omega (arith, s.0))
  word-of-proposition l r e (unary op t) s = absurd (omega (arith, unary-below op, s.0))
  word-of-proposition l r e (binary op a t) s = let x = binary-between op in absurd (omega (arith, s.0))

  pub word-of-false : n ≤ width → nd.code ≡ 17 → Evaluated n words from k nd (seq n 0)
  word-of-false h e (leaf (proposition p)) s = absurd (omega (arith, s.0))
  word-of-false h e (leaf (constant false)) s =
      record { length = refl; means = means h (λ i a. absurd (omega (arith, bit-zero i))) (λ i l a. absurd (true≢false (sym a))) }
  word-of-false h e (leaf (constant true)) s = absurd (omega (arith, s.0))
  word-of-false h e (unary op t) s = absurd (omega (arith, unary-below op, s.0))
  word-of-false h e (binary op l t) s = let x = binary-between op in absurd (omega (arith, s.0))

  pub word-of-true : (m : ℕ) {r : ℕ} → n ≤ width → nd.code ≡ 18 → Mask n m → Means width r (PlacesOn (At m)) → Evaluated n words from k nd (seq n r)
  word-of-true m h e q a (leaf (proposition p)) s = absurd (omega (arith, s.0))
  word-of-true m h e q a (leaf (constant false)) s = absurd (omega (arith, s.0))
  word-of-true m h e q a (leaf (constant true)) s = record { length = refl; means = places-cut h q a (λ i. refl) }
  word-of-true m h e q a (unary op t) s = absurd (omega (arith, unary-below op, s.0))
  word-of-true m h e q a (binary op l t) s = let x = binary-between op in absurd (omega (arith, s.0))

  -- what is asked of a node over the list is asked of its children, which stand in the list
  pub ready-left : (r : Ready n words from k nd) → IsUnary nd.code ⊎ IsBinary nd.code → ReadyAt n words from k nd.left
  ready-left r u = (omega (arith, reaches-left nd u, reach-low nd r.fits), ready_of r (left-fits r.propositions k r.all nd r.fits u).0)

  pub ready-right : (r : Ready n words from k nd) → IsBinary nd.code → ReadyAt n words from k nd.right
  ready-right r u = (omega (arith, reaches-right nd u, reach-low nd r.fits), ready_of r (right-fits r.propositions k r.all nd r.fits u).0)

  -- ---- operators

  -- a child's sequence is well formed, and of the session's length
  child : {f : Reading} (x : CharSeq) → Denotes n f x → WellFormed x
  child x d = subst (λ (l : ℕ). WfComputed l x.values) (sym d.length) d.means.wf

  pub word-of-unary : {x r : CharSeq} → IsUnary nd.code → Evaluated n words from k (node_at k nd.left) x
      → UnaryBy nd.code x r → Evaluated n words from k nd r
  word-of-unary u ev w (leaf c) s = absurd (not-unary-leaf nd.code u (c, sym s.0))
  word-of-unary u ev w (binary op l t) s = absurd (not-both nd.code u (op, sym s.0))
  word-of-unary u ev (no-unary g e) (unary op t) s = absurd (g op (sym s.0))
  word-of-unary {x} {r} u ev (by-unary op' e p) (unary op t) s =
      let y = ev t s.4 in
      let d : Denotes n (unary_reading op' n (At x.values)) r =
      subst (λ (l : ℕ). Denotes l (unary_reading op' l (At x.values)) r) y.length (unary-reads op' x r (child x y) p) in
      let τ = trace_at n words from in
      subst (λ (o : Unary). Denotes n (unary_reading o n (Holds τ t)) r) (unary-one op' op (e ∙ s.0))
      (record { length = d.length; means = means-agree d.means (unary-agree op' n (At x.values) (Holds τ t) y.means.holds) })

  pub word-of-binary : {x y r : CharSeq} → IsBinary nd.code → Evaluated n words from k (node_at k nd.left) x
      → Evaluated n words from k (node_at k nd.right) y → BinaryBy nd.code x y r → Evaluated n words from k nd r
  word-of-binary u ev ew w (leaf c) s = absurd (not-binary-leaf nd.code u (c, sym s.0))
  word-of-binary u ev ew w (unary op t) s = absurd (not-both nd.code (op, sym s.0) u)
  word-of-binary u ev ew (no-binary g e) (binary op l t) s = absurd (g op (sym s.0))
  word-of-binary {x} {y} {r} u ev ew (by-binary op' e p) (binary op l t) s =
      let a = ev l s.3 in
      let b = ew t s.5 in
      let right : WfComputed x.length y.values = subst (λ (i : ℕ). WfComputed i y.values) (sym a.length) b.means.wf in
      let d : Denotes n (binary_reading op' n (At x.values) (At y.values)) r =
      subst (λ (i : ℕ). Denotes i (binary_reading op' i (At x.values) (At y.values)) r) a.length (binary-reads op' x y r (child x a) right p) in
      let τ = trace_at n words from in
      subst (λ (o : Binary). Denotes n (binary_reading o n (Holds τ l) (Holds τ t)) r) (binary-one op' op (e ∙ s.0))
      (record { length = d.length; means = means-agree d.means (binary-agree op' n (At x.values) (Holds τ l) (At y.values) (Holds τ t) a.means.holds b.means.holds) })
