-- Uniqueness: any two results that the contract of `print` allows for the same input are equal, number, room and `out`.
-- Assumes nothing.
use mathlib.Core.Path.{◌≡◌, sym, ap, ◌∙◌}
use mathlib.Core.List.{List}
use Prim.Native.Nat.{ℕ}
use native.Mathlib.Decide.{ℕ_discrete}
use Rattle.rules.proofs.Refusals.{decided-unique}
use Rattle.reading.specs.Reading.{Got, got, bad}
use Rattle.names.specs.Names.{whole_names}
use Rattle.formula.specs.Nodes.{Node}
use Rattle.std.specs.Prelude.{Result}
use Rattle.text.specs.declared.PrintError.{PrintError}
use Rattle.text.specs.Print.{said_printed}
use Rattle.text.proofs.Unique.{print-unique}
use Rattle.out.specs.Out.{written, said_words}
use Rattle.out_print.specs.Print.{PrintNumber, PrintDone}

print-number : (g : Got (List (List ℕ))) (k : List Node) (root : Node) (room old : List ℕ) (m n : ℕ)
    → PrintNumber g k root room old m → PrintNumber g k root room old n → m ≡ n
print-number (bad o) k root room old m n p q = p ∙ sym q
print-number (got names next) k root room old m n p q = decided-unique _ m n p q

pub print-done-unique : (names : List ℕ) (k : List Node) (root : Node) (room old : List ℕ) (m n : ℕ) (u v x y : List ℕ)
    → PrintDone names k root room old m u x → PrintDone names k root room old n v y → (m ≡ n) × (u ≡ v) × (x ≡ y)
print-done-unique names k root room old m n u v x y p q =
    let o = print-number (whole_names names) k root room old m n p.number q.number in
    elim (ℕ_discrete m 0) [
      | yes e ↦
          let a = p.passed e in
          let b = q.passed (sym o ∙ e) in
          let s = print-unique names k root room a.0 b.0 u v a.1 b.1 in
          (o, s.1, a.2 ∙ ap (λ (w : Result ℕ PrintError). written (said_words (said_printed w)) old) s.0 ∙ sym b.2)
      | no e ↦
          let a = p.refused e in
          let b = q.refused (λ z. e (o ∙ z)) in
          (o, a.0 ∙ sym b.0, a.1 ∙ sym b.1)
    ]
