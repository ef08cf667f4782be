-- The commuting marks are right: `|`, `&` and `<->` read alike in both orders, and for `U`, `R` and `->` two sequences of length 2 differ.
-- Assumes nothing.
use mathlib.Core.Path.{◌≡◌, sym, ap, ◌∙◌, subst}
use mathlib.Core.Logic.{◌↔◌, inl, inr, ⊎_elim}
use mathlib.Core.Bool.{Bool}
use Prim.Native.Nat.{ℕ}
use native.Mathlib.Omega.{arith}
use lib.Dec.{lit<, lit≤}
use Rattle.words.specs.Ltlf.{Reading}
use Rattle.words.specs.Word.{WfComputed, Means}
use Rattle.words.proofs.At.{lt-wf, means-unique}
use Rattle.operators.specs.declared.Operator.{Operator}
use Rattle.sequence.specs.Operators.{Binary, or, and, until, release, implies, equiv, commutes}
use Rattle.operators.specs.Table.{unary, binary, neither}
use Rattle.operators.specs.Commuting.{Differs, Marked}
use Rattle.operators.specs.Promises.{MarksRight}
use Rattle.sequence.proofs.Groups.{unary-below, binary-between}
use Rattle.sequence.proofs.Computed.{binary_at, binary-at-means}
use Rattle.sequence.proofs.Unique.{binary-one}

-- readings that turn into each other at each place have one word
turned : {n a b : ℕ} {f g : Reading} → ((i : ℕ) → g i ↔ f i) → Means n a f → Means n b g → a ≡ b
turned e p q = means-unique p (record { wf = q.wf; holds = λ i h. (λ t. (e i).0 ((q.holds i h).0 t), λ t. (q.holds i h).1 ((e i).1 t)) })

-- two words of length 2 whose orders compute to different words
differ : (op : Binary) (x y : ℕ) → WfComputed 2 x → WfComputed 2 y → (binary_at op 2 x y ≡ binary_at op 2 y x → ⊥) → Differs op
differ op x y w u d = record {
  n = 2;
  x = x;
  y = y;
  a = binary_at op 2 x y;
  b = binary_at op 2 y x;
  left = w;
  right = u;
  one = binary-at-means w u op;
  other = binary-at-means u w op;
  apart = d;
}

pub mark : (op : Binary) → Marked (commutes op) op
mark or = λ n x y a b w u p q. turned (λ i. (⊎_elim inr inl, ⊎_elim inr inl)) p q
mark and = λ n x y a b w u p q. turned (λ i. (λ t. (t.1, t.0), λ t. (t.1, t.0))) p q
mark equiv = λ n x y a b w u p q. turned (λ i. (λ t. (t.1, t.0), λ t. (t.1, t.0))) p q
mark until = differ until 1 2 (lt-wf (lit≤ tt) (lit< tt)) (lt-wf (lit≤ tt) (lit< tt)) (λ e. omega arith)
mark release = differ release 1 2 (lt-wf (lit≤ tt) (lit< tt)) (lt-wf (lit≤ tt) (lit< tt)) (λ e. omega arith)
mark implies = differ implies 1 2 (lt-wf (lit≤ tt) (lit< tt)) (lt-wf (lit≤ tt) (lit< tt)) (λ e. omega arith)

pub marks-right : MarksRight
marks-right code r (binary op e q) op' d =
    subst (λ (m : Bool). Marked m op') (sym (ap (λ (o : Operator). o.commutes) q ∙ ap commutes (binary-one op op' (e ∙ sym d)))) (mark op')
marks-right code r (unary op e q) op' d = let t = binary-between op' in absurd (omega (arith, unary-below op))
marks-right code r (neither m n q) op' d = absurd (n op' d)
