-- `put_decimal` meets its contract: the digits, made in a text of their own that has the room, and then put.
use mathlib.Core.Path.{sym, subst}
use mathlib.Core.List.{List}
use Prim.Native.Nat.{ℕ}
use lib.Seq.{length-take-le}
use Rattle.writing.specs.Writing.{Wrote, decimal}
use Rattle.writing.proofs.Digits.{few-digits, written-front}
use Rattle.writing.proofs.put_decimal.Goals as goal

pub slice_bounds-put-end : goal.slice_bounds-put-end
slice_bounds-put-end c =
    let x = c.args.x in
    let d = c.put_digits-n in
    sym (length-take-le d.result d.new.text (written-front (decimal x) (few-digits 20 x) d.ensures).0)

pub returns : goal.returns
returns c =
    let a = c.args in
    let d = c.put_digits-n in
    subst (λ (u : List ℕ). Wrote a.text.now a.at u c.put.new.text c.put.result)
    (written-front (decimal a.x) (few-digits 20 a.x) d.ensures).1 c.put.ensures
