-- `put_first` meets its contract: the case decides.
use mathlib.Core.Path.{sym, subst}
use Prim.Native.Nat.{ℕ}
use Rattle.std.specs.Prelude.{Option}
use Rattle.summary.specs.Line.{first_text}
use Rattle.writing.specs.Writing.{Wrote}
use Rattle.summary.proofs.line.put_first.Goals as goal

pub returns-in-None : goal.returns-in-None
returns-in-None c =
    let a = c.args in
    let w = c.put in
    subst (λ (f : Option ℕ). Wrote a.text.now a.at (first_text f) w.new.text w.result) (sym c.in-None.is) w.ensures

pub returns-in-Some : goal.returns-in-Some
returns-in-Some c =
    let a = c.args in
    let w = c.put_decimal in
    subst (λ (f : Option ℕ). Wrote a.text.now a.at (first_text f) w.new.text w.result) (sym c.in-Some.is) w.ensures
