-- A candidate's code and fields make the walk's formula: the one that the table writes, and the one that the walk offers.
-- Assumes nothing.
use mathlib.Core.Path.{◌≡◌, refl, sym, ap, ap₂, ◌∙◌}
use mathlib.Core.Logic.{inl, inr}
use mathlib.Core.Bool.{Bool, true, false, not, cond}
use mathlib.Core.List.{List, [], ◌∷◌, ◌++◌, map}
use Prim.Native.Nat.{ℕ, zero, suc, ◌≤◌, ◌<◌}
use native.Mathlib.Omega.{arith}
use lib.ListN.{length, get_or}
use lib.Dec.{eqb}
use borrow.Author.Tests.{eq-eqb, ne_eqb}
use Rattle.sequence.specs.Operators.{Unary, Binary, unary_code, binary_code, commutes, unary_of, binary_of}
use Rattle.formula.specs.Formula.{Leaf, proposition, constant}
use Rattle.formula.specs.Nodes.{leaf_code, leaf_number}
use Rattle.walk.specs.Walk.{Candidate, seed}
use Rattle.rules.specs.Lists.{count}
use Rattle.walk.specs.Input as walk
use Rattle.walk.specs.Input.{Input, Passes, offer}
use Rattle.walk.specs.Kept.{Table}
use Rattle.split.specs.Split.{Cand, cand, commuting}
use Rattle.order.specs.Size.{first_place, leaf_cands, constant_cands}
use Rattle.order.specs.Steps.{CodeIn, Safe}
use Rattle.order.proofs.Layers as layers
use Rattle.order.proofs.Lists.{map-append}
use Rattle.rows.specs.Formulas.{no_candidate, matrix_at, Makes}
use Rattle.rows.proofs.Groups.{unary-or-binary, unary-or-leaf, binary-or-leaf}
use Rattle.rows.specs.Formulas as rows
use Rattle.sequence.proofs.Decoding.{unary-of, binary-of}
use Rattle.checks.proofs.Passing.{at_in}
use Rattle.turns.specs.Standing.{layer_at}

-- ---- a candidate by its code and fields, as the walk's formula

-- the leaf with a code
abbrev pub leaf_of : ℕ → ℕ → Leaf
leaf_of code number = cond (eqb code 16) (proposition number) (constant (not (eqb code 17)))

-- its matrix, over the kept ones
unfoldable pub cand_matrix : Input → Table → Cand → List ℕ
cand_matrix i k c =
    cond (eqb (unary_code (unary_of c.code)) c.code) ((offer i).unary_matrix (unary_of c.code) (matrix_at k c.left))
    (cond (eqb (binary_code (binary_of c.code)) c.code) ((offer i).binary_matrix (binary_of c.code) (matrix_at k c.left) (matrix_at k c.right))
    ((offer i).leaf_matrix (leaf_of c.code c.left)))

abbrev pub make : Input → Table → ℕ → Cand → Candidate (List ℕ)
make i k s c = record { node = record { code = c.code; left = c.left; right = c.right; size = s }; matrix = cand_matrix i k c }

-- ---- the operator with a code

leaf-of : (c : Leaf) → leaf_of (leaf_code c) (leaf_number c) ≡ c
leaf-of (proposition p) = refl
leaf-of (constant true) = refl
leaf-of (constant false) = refl

module _ (code : ℕ) where
  unary-code : (op : Unary) → unary_code op ≡ code → (unary_of code ≡ op) × (eqb (unary_code (unary_of code)) code ≡ true)
  unary-code op e =
      let f : unary_of code ≡ op = ap unary_of (sym e) ∙ unary-of op in
      (f, eq-eqb (unary_code (unary_of code)) code (ap unary_code f ∙ e))

  binary-code : (op : Binary) → binary_code op ≡ code
      → (binary_of code ≡ op) × (eqb (unary_code (unary_of code)) code ≡ false) × (eqb (binary_code (binary_of code)) code ≡ true)
  binary-code op e =
      let f : binary_of code ≡ op = ap binary_of (sym e) ∙ binary-of op in
      (f, ne_eqb (unary_code (unary_of code)) code (λ d. unary-or-binary (unary_of code) op (d ∙ sym e)), eq-eqb (binary_code (binary_of code)) code (ap binary_code f ∙ e))

  leaf-code : (c : Leaf) → leaf_code c ≡ code → (eqb (unary_code (unary_of code)) code ≡ false) × (eqb (binary_code (binary_of code)) code ≡ false)
  leaf-code c e = (
    ne_eqb (unary_code (unary_of code)) code (λ d. unary-or-leaf (unary_of code) c (d ∙ sym e)),
    ne_eqb (binary_code (binary_of code)) code (λ d. binary-or-leaf (binary_of code) c (d ∙ sym e)),
  )

-- ---- the matrix, by code

module _ (i : Input) (k : Table) where
  made-unary : (op : Unary) (code left right : ℕ) → unary_code op ≡ code → cand_matrix i k (cand code left right) ≡ (offer i).unary_matrix op (matrix_at k left)
  unfolding cand_matrix
  made-unary op code left right e = let w = unary-code code op e in rw (w.1, w.0)

  made-binary : (op : Binary) (code left right : ℕ) → binary_code op ≡ code → cand_matrix i k (cand code left right) ≡ (offer i).binary_matrix op (matrix_at k left) (matrix_at k right)
  unfolding cand_matrix
  made-binary op code left right e = let w = binary-code code op e in rw (w.1, w.2, w.0)

  made-leaf : (c : Leaf) (code left right : ℕ) → leaf_code c ≡ code → leaf_number c ≡ left → cand_matrix i k (cand code left right) ≡ (offer i).leaf_matrix c
  unfolding cand_matrix
  made-leaf c code left right e f =
      let w = leaf-code code c e in
      rw (w.0, w.1) (ap (offer i).leaf_matrix (ap₂ leaf_of (sym e) (sym f) ∙ leaf-of c))

  -- it is the one that the table writes
  pub made-written : {m n code left right : ℕ} (c : Makes m n code left right) → rows.made i k c ≡ cand_matrix i k (cand code left right)
  made-written {code = code} {left} {right} (Makes.leaf c e f z h) = sym (made-leaf c code left right e f)
  made-written {code = code} {left} {right} (Makes.unary op e l z) = sym (made-unary op code left right e)
  made-written {code = code} {left} {right} (Makes.binary op e l q) = sym (made-binary op code left right e)

-- ---- what a step tells can be made

module _ (i : Input) (ok : Passes i) (s : ℕ) (starts : List ℕ) where
  listed-unary : (code : ℕ) → CodeIn i.unary code → (op : Unary) × (unary_code op ≡ code)
  listed-unary code w = let (op, e) = ok.unary-in _ (at_in i.unary w.position w.within) in (op, e ∙ w.is)

  listed-binary : (code : ℕ) → CodeIn i.binary code → (op : Binary) × (binary_code op ≡ code)
  listed-binary code w = let (op, e) = ok.binary-in _ (at_in i.binary w.position w.within) in (op, e ∙ w.is)

  pub safe-makes : (n : ℕ) (c : Cand) → first_place starts s ≤ n → Safe (layer_at i s starts) c → Makes i.recording.propositions n c.code c.left c.right
  safe-makes n c h (Safe.proposition e l z) = Makes.leaf (proposition c.left) (sym e) refl z l
  safe-makes n c h (Safe.constant (inl e) f z) = Makes.leaf (constant false) (sym e) (sym f) z tt
  safe-makes n c h (Safe.constant (inr e) f z) = Makes.leaf (constant true) (sym e) (sym f) z tt
  safe-makes n c h (Safe.unary w l z) = let (op, e) = listed-unary c.code w in Makes.unary op e (omega arith) z
  safe-makes n c h (Safe.binary w l q) = let (op, e) = listed-binary c.code w in Makes.binary op e (omega arith) (omega arith)

  -- ---- and is what the walk offers

  module _ (k : Table) where
    leaf-seed : (c : Leaf) (code left : ℕ) → leaf_code c ≡ code → leaf_number c ≡ left → make i k 1 (cand code left 0) ≡ seed (offer i) c
    leaf-seed c code left e f = rw (made-leaf i k c code left 0 e f, ← e, ← f)

    named : (n a : ℕ) → map (make i k 1) (map (λ p. cand 16 p 0) (count a n)) ≡ map (seed (offer i)) (map proposition (count a n))
    unfolding count
    named zero a = refl
    named (suc n) a = ap₂ (λ (x : Candidate (List ℕ)) (r : List (Candidate (List ℕ))). x ∷ r) (leaf-seed (proposition a) 16 a refl refl) (named n (suc a))

    constants : (b : Bool) → map (make i k 1) (constant_cands b) ≡ map (seed (offer i)) (walk.constants_if b)
    constants true = ap₂ (λ (x y : Candidate (List ℕ)). x ∷ (y ∷ [])) (leaf-seed (constant false) 17 0 refl refl) (leaf-seed (constant true) 18 0 refl refl)
    constants false = refl

    seeds : map (make i k 1) (leaf_cands i.recording.propositions i.constants) ≡ map (seed (offer i)) (offer i).leaves
    unfolding leaf_cands
    seeds =
        map-append (make i k 1) (map (λ p. cand 16 p 0) (count 0 i.recording.propositions)) (constant_cands (eqb i.constants 1))
        ∙ ap₂ (λ (x y : List (Candidate (List ℕ))). x ++ y) (named i.recording.propositions 0) (constants (eqb i.constants 1))
        ∙ sym (map-append (seed (offer i)) (map proposition (count 0 i.recording.propositions)) (walk.constants_if (eqb i.constants 1)))

    mark : (o : ℕ) → o < length i.binary → commutes (binary_of (get_or i.binary o 0)) ≡ commuting (get_or i.binary o 0)
    unfolding commuting
    mark o h =
        let (op, e) = ok.binary-in _ (at_in i.binary o h) in
        rw (binary-code (get_or i.binary o 0) op e).2

  -- the candidates of size s over k are made into what the walk offers
  pub offered : (k : Table) → layers.Makes (offer i) no_candidate k (layer_at i s starts) (make i k s)
  offered k = record {
    unary_of = unary_of;
    binary_of = binary_of;
    leaves-are = λ e. rw e (seeds k);
    unaries-are = refl;
    binaries-are = refl;
    marks-are = mark k;
    unary-is = λ o p h e.
        let (op, f) = ok.unary-in _ (at_in i.unary o h) in
        let g = unary-code (get_or i.unary o 0) op f in
        rw (made-unary i k op (get_or i.unary o 0) p 0 f, g.0, f, ← e);
    binary-is = λ o l q h e.
        let (op, f) = ok.binary-in _ (at_in i.binary o h) in
        let g = binary-code (get_or i.binary o 0) op f in
        rw (made-binary i k op (get_or i.binary o 0) l q f, g.0, f, ← e);
  }
