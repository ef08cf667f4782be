-- The goals of `put_digits` that the search leaves.
use mathlib.Core.Path.{ap}
use Prim.Native.Nat.{◌-◌, ◌/◌}
use native.Mathlib.Omega.{arith}
use native.Mathlib.Nat.{mod-lt}
use lib.ListN.{length}
use lib.Seq.{length-sets}
use Rattle.writing.specs.Writing.{digits}
use Rattle.writing.proofs.Digits.{few-digits, no-digits, one-digit, more-digits}
use Rattle.writing.proofs.+put_digits.Goals as goal

pub returns-then-most-eq0 : goal.returns-then-most-eq0
returns-then-most-eq0 t c = let a = c.args in no-digits a.text.now a.at a.most a.x c.if-most-eq0.true

pub returns-then-x-lt10 : goal.returns-then-x-lt10
returns-then-x-lt10 t c =
    let a = c.args in one-digit a.most a.x
    c.if-most-eq0.false c.if-x-lt10.true c.put_digit.ensures

pub put_digit-requires-2 : goal.put_digit-requires-2
put_digit-requires-2 t c =
    let a = c.args in let d =
    c.put_digits-a in (
      omega (
        arith,
        d.ensures.next,
        ap length d.ensures.holds,
        few-digits (a.most - 1) (a.x / 10),
        length-sets a.text.now a.at (digits (a.most - 1) (a.x / 10)),
      ),
      mod-lt a.x (omega arith),
    )

pub returns : goal.returns
returns t c =
    let a = c.args in more-digits
    a.most a.x c.if-most-eq0.false
    c.if-x-lt10.false
    c.put_digits-a.ensures c.put_digit-2.ensures
