-- Uniqueness: any two results that a face's contract allows for the same input are equal.
-- Assumes nothing.
use mathlib.Core.Path.{◌≡◌, refl, sym, ap, ap₂, ◌∙◌}
use mathlib.Core.List.{List, [], ◌∷◌, head-eq_of_cons-eq, tail-eq_of_cons-eq, cons-ne-nil}
use Prim.Native.Nat.{ℕ}
use Rattle.formula.specs.Nodes as walk
use Rattle.session.specs.Recording.{Recording}
use Rattle.walk.specs.Input.{Input}
use Rattle.formula.specs.declared.kinds.Node.{Node}
use Rattle.verdict.specs.declared.Verdict.{Verdict}
use Rattle.text.specs.declared.PrintError.{PrintError}
use Rattle.rules.specs.declared.refusal.Refusal.{Refusal}
use Rattle.std.proofs.Common.{Result}
use Rattle.verdict.specs.Check.{said_verdict, CheckAnswer}
use Rattle.text.specs.Print.{said_printed, Prints}
use Rattle.verdict.proofs.Unique.{check-unique}
use Rattle.text.proofs.Unique.{print-unique}
use Rattle.search.specs.declared.SearchAnswer.{SearchAnswer}
use Rattle.table.specs.Slices.{Cols}
use Rattle.search.specs.Search.{Searched}
use Rattle.search.proofs.Promises.{search-unique}
use Rattle.nodes_in.specs.Lists.{plain, codes_of, lefts_of, rights_of, sizes_of}
use Rattle.nodes_out.specs.Columns.{node_cols}

pub check-face-unique : (i : Recording) (ns : List Node) (root : walk.Node) (v w : Result Verdict Refusal)
    → CheckAnswer i (plain ns) root (said_verdict v) → CheckAnswer i (plain ns) root (said_verdict w) → v ≡ w
check-face-unique i ns root v w a b = check-unique i (plain ns) root v w a b

pub print-face-unique : (file : List ℕ) (ns : List Node) (root : walk.Node) (old : List ℕ) (p q : Result ℕ PrintError) (new later : List ℕ)
    → Prints file (plain ns) root old (said_printed p) new → Prints file (plain ns) root old (said_printed q) later → (p ≡ q) × (new ≡ later)
print-face-unique file ns root old p q new later a b = print-unique file (plain ns) root old p q new later a b

-- ---- the search

-- four fields make a node
made : ℕ → ℕ → ℕ → ℕ → Node
made c l r s = record { code = c; left = record { 0 = l }; right = record { 0 = r }; size = s }

one-node : (a b : Node) → a.code ≡ b.code → a.left.0 ≡ b.left.0 → a.right.0 ≡ b.right.0 → a.size ≡ b.size → a ≡ b
unfolding made
one-node a b c l r s =
    ap (λ (x : ℕ). made x a.left.0 a.right.0 a.size) c
    ∙ ap (λ (x : ℕ). made b.code x a.right.0 a.size) l
    ∙ ap (λ (x : ℕ). made b.code b.left.0 x a.size) r
    ∙ ap (λ (x : ℕ). made b.code b.left.0 b.right.0 x) s

-- a list of nodes is determined by the four lists of its fields
pub one_list : (ns ms : List Node) → codes_of ns ≡ codes_of ms → lefts_of ns ≡ lefts_of ms → rights_of ns ≡ rights_of ms → sizes_of ns ≡ sizes_of ms → ns ≡ ms
one_list [] [] c l r s = refl
one_list [] (m ∷ ms) c l r s = absurd (cons-ne-nil _ _ (sym c))
one_list (n ∷ ns) [] c l r s = absurd (cons-ne-nil _ _ c)
one_list (n ∷ ns) (m ∷ ms) c l r s =
    ap₂ ◌∷◌ (one-node n m (head-eq_of_cons-eq c) (head-eq_of_cons-eq l) (head-eq_of_cons-eq r) (head-eq_of_cons-eq s))
    (one_list ns ms (tail-eq_of_cons-eq c) (tail-eq_of_cons-eq l) (tail-eq_of_cons-eq r) (tail-eq_of_cons-eq s))

-- the answer, the nodes and the matrices
pub search-face-unique : (i : Input) (ns : List Node) (old : List ℕ) (a b : Result SearchAnswer Refusal) (ms ls : List Node) (new later : List ℕ)
    → Searched i (node_cols ns old) a (node_cols ms new) → Searched i (node_cols ns old) b (node_cols ls later) → (a ≡ b) × (ms ≡ ls) × (new ≡ later)
search-face-unique i ns old a b ms ls new later p q =
    let e = search-unique i (node_cols ns old) a b (node_cols ms new) (node_cols ls later) p q in
    let t = e.1 in (
      e.0,
      one_list ms ls (ap (λ (x : Cols). x.codes) t) (ap (λ (x : Cols). x.lefts) t) (ap (λ (x : Cols). x.rights) t) (ap (λ (x : Cols). x.sizes) t),
      ap (λ (x : Cols). x.matrices) t,
    )
