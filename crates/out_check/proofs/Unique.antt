-- Uniqueness: any two results that the contract of `check` allows for the same input are equal, number and `out`.
-- Assumes nothing.
use mathlib.Core.Path.{◌≡◌, sym, ap, ◌∙◌}
use mathlib.Core.List.{List}
use Prim.Native.Nat.{ℕ}
use native.Mathlib.Decide.{ℕ_discrete}
use Rattle.rules.proofs.Refusals.{decided-unique}
use Rattle.formula.specs.Nodes.{Node}
use Rattle.session.specs.Recording.{Recording}
use Rattle.verdict.specs.declared.Verdict.{Verdict}
use Rattle.std.specs.Prelude.{Result}
use Rattle.rules.specs.declared.refusal.Refusal.{Refusal}
use Rattle.verdict.specs.Check.{said_verdict}
use Rattle.verdict.proofs.Unique.{check-unique}
use Rattle.out.specs.Out.{written, said_words}
use Rattle.out_check.specs.Check.{CheckDone}

pub check-done-unique : (i : Recording) (k : List Node) (root : Node) (old : List ℕ) (m n : ℕ) (x y : List ℕ) → CheckDone i k root old m x → CheckDone i k root old n y
    → (m ≡ n) × (x ≡ y)
check-done-unique i k root old m n x y p q =
    let o = decided-unique _ m n p.number q.number in
    elim (ℕ_discrete m 0) [
      | yes e ↦
          let a = p.passed e in
          let b = q.passed (sym o ∙ e) in
          (o, a.2 ∙ ap (λ (v : Result Verdict Refusal). written (said_words (said_verdict v)) old) (check-unique i k root a.0 b.0 a.1 b.1) ∙ sym b.2)
      | no e ↦ (o, p.refused e ∙ sym (q.refused (λ z. e (o ∙ z))))
    ]
