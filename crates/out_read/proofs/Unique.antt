-- Uniqueness: the contract of `read` is an equation, so any two results for the same input are equal, number, lent slices and `out`.
-- Assumes nothing.
use mathlib.Core.Path.{◌≡◌, sym, ap, ◌∙◌}
use mathlib.Core.List.{List}
use Prim.Native.Nat.{ℕ}
use Rattle.file.specs.Reading.{Lent}
use Rattle.out_read.specs.Read.{ReadDone, done, read_done}

pub read-done-unique : (file : List ℕ) (l : Lent) (old : List ℕ) (m n : ℕ) (u v : Lent) (x y : List ℕ) → done m u x ≡ read_done file l old → done n v y ≡ read_done file l old
    → (m ≡ n) × (u ≡ v) × (x ≡ y)
read-done-unique file l old m n u v x y p q =
    let e : done m u x ≡ done n v y = p ∙ sym q in
    (ap (λ (d : ReadDone). d.returned) e, ap (λ (d : ReadDone). d.left) e, ap (λ (d : ReadDone). d.out) e)
