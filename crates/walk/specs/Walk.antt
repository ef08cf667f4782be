-- The walk of document 01 over whatever is offered: formulas are tried from small to large, and of those with one matrix the first is kept.
-- Assumes nothing.
use Rattle.std.specs.Prelude.{Bool, true, false, ◌||◌, ℕ, zero, suc, ◌+◌, ◌-◌, ◌/◌, length, eqb, leb}
use mathlib.Core.List.{List, [], ◌∷◌, ◌++◌, map, foldl}
use Rattle.rules.specs.Lists.{each, count}
use Rattle.formula.specs.Formula.{Tree, leaf, unary, binary, weight}
use Rattle.formula.specs.Nodes.{Node, Codes}

-- what is offered: leaves and operators in their order, with their codes; what each makes of its children's matrices; which operators are
-- marked as commuting; when two matrices are equal; when a matrix's acceptance equals the marks
pub record Offer (L U B Mat : Type 0) : Type 0 where
  pub leaves : List L
  pub unaries : List U
  pub binaries : List B
  pub codes : Codes L U B
  pub leaf_matrix : L → Mat
  pub unary_matrix : U → Mat → Mat
  pub binary_matrix : B → Mat → Mat → Mat
  pub commutes : B → Bool
  pub same : Mat → Mat → Bool
  pub agrees : Mat → Bool

-- a formula as the walk has it: its node over the kept list, and its matrix
pub record Candidate (Mat : Type 0) : Type 0 where
  pub node : Node
  pub matrix : Mat

-- a kept formula and its place
pub record Placed (Mat : Type 0) : Type 0 where
  pub place : ℕ
  pub kept : Candidate Mat

-- how a walk ends: with the root node of the formula found, or at the size at which there was no place, or after the last candidate
pub data Ending : Type 0 where
  found : Node → Ending
  full : ℕ → Ending
  none : Ending

-- the candidates that a walk has come to, and how many of them were dropped
pub record Tally : Type 0 where
  pub tried : ℕ
  pub dropped : ℕ

abbrev pub tally : ℕ → ℕ → Tally
tally n d = record { tried = n; dropped = d }

abbrev pub one_tried : Tally → Tally
one_tried n = tally (suc n.tried) n.dropped

abbrev pub one_dropped : Tally → Tally
one_dropped n = tally n.tried (suc n.dropped)

-- where a walk stands: what is kept, in kept order, and its tally
pub data WalkState (Mat : Type 0) : Type 0 where
  going : List (Candidate Mat) → Tally → WalkState Mat
  ended : Ending → List (Candidate Mat) → Tally → WalkState Mat

abbrev pub kept : {Mat : Type 0} → WalkState Mat → List (Candidate Mat)
kept (going k n) = k
kept (ended e k n) = k

abbrev pub walk_tally : {Mat : Type 0} → WalkState Mat → Tally
walk_tally (going k n) = n
walk_tally (ended e k n) = n

abbrev pub tried : {Mat : Type 0} → WalkState Mat → ℕ
tried st = (walk_tally st).tried

abbrev pub dropped : {Mat : Type 0} → WalkState Mat → ℕ
dropped st = (walk_tally st).dropped

abbrev pub keep_if : {A : Type 0} → Bool → A → List A → List A
keep_if true x xs = x ∷ xs
keep_if false x xs = xs

-- the formulas of size s of a list whose first place is p, in kept order
unfoldable pub of_size : {Mat : Type 0} → ℕ → ℕ → List (Candidate Mat) → List (Placed Mat)
of_size s p [] = []
of_size s p (c ∷ k) = keep_if (eqb c.node.size s) (record { place = p; kept = c }) (of_size s (suc p) k)

-- "i from 1 while i < ceil(s/2)", which is (s + 1) / 2
unfoldable pub left_sizes : ℕ → List ℕ
left_sizes s = count 1 ((s + 1) / 2 - 1)

-- "After the last, NONE."
unfoldable pub finish : {Mat : Type 0} → WalkState Mat → WalkState Mat
finish (going k n) = ended none k n
finish (ended e k n) = ended e k n

module _ {L U B Mat : Type 0} (O : Offer L U B Mat) where
  -- a formula's matrix
  abbrev pub matrix : Tree L U B → Mat
  matrix (leaf c) = O.leaf_matrix c
  matrix (unary op t) = O.unary_matrix op (matrix t)
  matrix (binary op l r) = O.binary_matrix op (matrix l) (matrix r)

  -- ---- the candidates of a size

  abbrev pub seed : L → Candidate Mat
  seed c = record {
    node = record { code = O.codes.of_leaf c; left = O.codes.leaf_field c; right = 0; size = 1 };
    matrix = O.leaf_matrix c;
  }

  abbrev pub unary_on : U → Placed Mat → Candidate Mat
  unary_on op f = record {
    node = record { code = O.codes.of_unary op; left = f.place; right = 0; size = weight op + f.kept.node.size };
    matrix = O.unary_matrix op f.kept.matrix;
  }

  abbrev pub binary_on : B → Placed Mat → Placed Mat → Candidate Mat
  binary_on op l q = record {
    node = record { code = O.codes.of_binary op; left = l.place; right = q.place; size = weight op + l.kept.node.size + q.kept.node.size };
    matrix = O.binary_matrix op l.kept.matrix q.kept.matrix;
  }

  -- "op(l, q), and if it doesn't commute, op(q, l)"
  unfoldable pub orders : Bool → B → Placed Mat → Placed Mat → List (Candidate Mat)
  orders true op l q = binary_on op l q ∷ []
  orders false op l q = binary_on op l q ∷ (binary_on op q l ∷ [])

  -- "every kept formula of size s-1 in kept order, and for each the unary operators in the given order"
  unfoldable pub unary_candidates : ℕ → List (Candidate Mat) → List (Candidate Mat)
  unary_candidates s k = each (of_size s 0 k) λ f. map (λ op. unary_on op f) O.unaries

  -- "each kept l of size i, for each kept q of size s-1-i, for each binary operator in the given order"
  unfoldable pub pairs : ℕ → ℕ → List (Candidate Mat) → List (Candidate Mat)
  pairs i j k =
      each (of_size i 0 k) λ l.
      each (of_size j 0 k) λ q.
      each O.binaries λ op.
      orders (O.commutes op) op l q

  -- "Size 1: propositions in order, then, if constants are asked for, false, then true. Size s from 2 to B: first every kept formula of
  -- size s-1 ..": the candidates of a size, over the list as it is kept when that size begins; where s is m + 2, s-1 is m + 1
  unfoldable pub layer : ℕ → List (Candidate Mat) → List (Candidate Mat)
  layer zero k = []
  layer (suc zero) k = map seed O.leaves
  layer (suc (suc m)) k = unary_candidates (suc m) k ++ each (left_sizes (suc (suc m))) λ i. pairs i (suc m - i) k

  -- ---- one candidate

  -- "its matrix equals a kept one in every row"
  unfoldable pub known : Mat → List (Candidate Mat) → Bool
  known x [] = false
  known x (c ∷ k) = O.same x c.matrix || known x k

  -- "if its acceptance equals the marks, FOUND; else if its matrix equals a kept one in every row, dropped; else if C are kept, FULL at
  -- size s; else kept at the next place", and request E6's "Search answers gain the number dropped": the three tests' answers, the candidate, what
  -- is kept, the tally with the candidate in it
  unfoldable pub judge : Bool → Bool → Bool → Candidate Mat → List (Candidate Mat) → Tally → WalkState Mat
  judge true d r c k n = ended (found c.node) k n
  judge false true r c k n = going k (one_dropped n)
  judge false false true c k n = ended (full c.node.size) k n
  judge false false false c k n = going (k ++ (c ∷ [])) n

  module _ (C : ℕ) where
    -- "Each candidate is counted, then: .."; after the end nothing changes
    unfoldable pub consider : WalkState Mat → Candidate Mat → WalkState Mat
    consider (going k n) c = judge (O.agrees c.matrix) (known c.matrix k) (leb C (length k)) c k (one_tried n)
    consider (ended e k n) c = ended e k n

    -- the candidates of size s, one after another
    unfoldable pub through : ℕ → WalkState Mat → WalkState Mat
    through s st = foldl consider st (layer s (kept st))

    -- the sizes from 1 to b
    unfoldable pub after : ℕ → WalkState Mat
    after zero = going [] (tally 0 0)
    after (suc b) = through (suc b) (after b)

    -- THE WALK, with bound b and room C
    unfoldable pub walk : ℕ → WalkState Mat
    walk b = finish (after b)

    -- the candidates in the order in which the walk comes to them, up to size b; those behind the one that ends it are not tried
    unfoldable pub trail : ℕ → List (Candidate Mat)
    trail zero = []
    trail (suc b) = trail b ++ layer (suc b) (kept (after b))
