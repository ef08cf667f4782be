-- `enough` meets its contract: five comparisons, and all of them hold or not.
use mathlib.Core.Path.{◌≡◌, refl, sym}
use mathlib.Core.Bool.{Bool, true, false, ◌&&◌, true≢false}
use Prim.Native.Nat.{ℕ}
use lib.Dec.{leb}
use borrow.Author.Tests.{leb-true}
use Rattle.file.specs.Inner.{Enough}
use Rattle.file.proofs.enough.Goals as goal

both : (a b : Bool) → (a && b) ≡ true → (a ≡ true) × (b ≡ true)
both true b e = (refl, e)
both false b e = absurd (true≢false (sym e))

module _ (marks lengths words unary binary r n u v : ℕ) where
  all-five : Enough marks lengths words unary binary r n u v (leb r marks && (leb r lengths && (leb n words && (leb u unary && leb v binary))))
  all-five = record {
    fits = λ e. (
        let a = both (leb r marks) _ e in
        let b = both (leb r lengths) _ a.1 in
        let c = both (leb n words) _ b.1 in
        let d = both (leb u unary) _ c.1 in
        (leb-true _ _ a.0, leb-true _ _ b.0, leb-true _ _ c.0, leb-true _ _ d.0, leb-true _ _ d.1)
        );
    lacks = λ e. e;
  }

pub returns : goal.returns
returns c =
    let a = c.args in
    all-five a.marks a.lengths a.words a.unary a.binary a.r a.n a.u a.v
