-- The goals of `read_bracket` and `read_infix` and `read_more` and `read_prefix` that the search leaves.
use native.Mathlib.Omega.{arith}
use mathlib.Core.Path.{refl, ap, ◌∙◌}
use lib.ListN.{length, length-set}
use Prim.Native.Nat.{suc, ◌+◌}
use Rattle.std.proofs.lemmas.Result.{err_from_is_err_and}
use Rattle.descent.proofs.Scratch.{room-on}
use Rattle.descent.proofs.Returns.{infix-val, prefix-val, bracket-closed, bracket-open, infix-more, op-next, more-low, more-nothing}
use Rattle.descent.proofs.Returns.{more_cut, more-refused, more-on, operator-next, open_next, word_next, prefix-operator, prefix-operator-refused, prefix-bracket}
use Rattle.descent.proofs.Returns.{prefix-leaf, leaf-small}
use Rattle.descent.proofs.+read_bracket_read_infix_read_more_read_prefix.Goals as goal

pub read_bracket-read_infix-requires : goal.read_bracket-read_infix-requires
read_bracket-read_infix-requires t c =
    (omega arith, (room-on c.requires refl c.requires.within c.requires.before, omega arith))

pub read_bracket-returns-in_err-inside : goal.read_bracket-returns-in_err-inside
read_bracket-returns-in_err-inside t c =
    let p = err_from_is_err_and c.from_residual.result c.from_residual.ensures.1 in
    rw (p.1, p.2) (λ d. c.in_err-inside.ensures (suc d))

pub read_bracket-returns-in_err-next : goal.read_bracket-returns-in_err-next
read_bracket-returns-in_err-next t c =
    let p = err_from_is_err_and c.from_residual-in_err-next.result c.from_residual-in_err-next.ensures.1 in
    rw (p.1, p.2) (bracket-open c.args.names.now c.args.text.now c.args.place c.args.scratch.now _ c.args.at c.in_ok-inside.ensures c.in_err-next.ensures)

pub read_bracket-returns : goal.read_bracket-returns
read_bracket-returns t c =
    bracket-closed c.args.names.now c.args.text.now c.args.place c.args.scratch.now _ c.args.at c.in_ok-inside.ensures c.in_ok-next.ensures

pub read_infix-read_prefix-requires : goal.read_infix-read_prefix-requires
read_infix-read_prefix-requires t c =
    (omega arith, room-on c.requires.0 refl c.requires.0.within c.requires.0.before)

pub read_infix-read_more-requires : goal.read_infix-read_more-requires
read_infix-read_more-requires t c =
    let x = prefix-val c.args.names.now c.args.text.now c.args.place c.args.scratch.now _ c.args.at c.in_ok-left.ensures in
    let r = c.requires.0 in
    (omega (arith, x.0.0, x.0.1, x.0.2), (room-on r x.1 x.0.2 (omega (arith, x.0.1, r.before)), x.0.0))

pub read_infix-returns : goal.read_infix-returns
read_infix-returns t c =
    infix-more c.args.names.now c.args.text.now c.args.place c.args.scratch.now _ c.args.level c.args.at _ c.read_more.result c.requires.1 c.in_ok-left.ensures c.read_more.ensures

pub read_more-returns-in_err-operator : goal.read_more-returns-in_err-operator
read_more-returns-in_err-operator t c =
    let p = err_from_is_err_and c.from_residual.result c.from_residual.ensures.1 in
    rw (p.1, p.2) (more_cut c.args.names.now c.args.text.now c.args.place c.args.at c.requires.0.within c.in_err-operator.ensures)

pub read_more-returns-then-o-level : goal.read_more-returns-then-o-level
read_more-returns-then-o-level t c =
    more-low c.args.names.now c.args.text.now c.args.place c.args.at c.requires.0.within c.args.level c.args.size _ c.in-Infix.is c.in_ok-operator.ensures c.if-o-level.true

pub read_more-read_infix-requires : goal.read_more-read_infix-requires
read_more-read_infix-requires t c =
    let r = c.requires.0 in
    let x = op-next c.args.names.now c.args.text.now c.args.place c.args.at c.requires.0.within c.in-Infix.is c.in_ok-operator.ensures in
    (omega (arith, x.0, x.1), (room-on r refl x.1 (omega (arith, x.0, r.before)), x.2))

pub read_more-returns-in_err-right-in-Infix : goal.read_more-returns-in_err-right-in-Infix
read_more-returns-in_err-right-in-Infix t c =
    let p = err_from_is_err_and c.from_residual-in_err-right-in-Infix.result c.from_residual-in_err-right-in-Infix.ensures.1 in
    rw (p.1, p.2) (more-refused c.args.names.now c.args.text.now c.args.place c.args.at c.requires.0.within c.in-Infix.is c.in_ok-operator.ensures c.in_err-right-in-Infix.ensures)

pub read_more-put_two-requires : goal.read_more-put_two-requires
read_more-put_two-requires t c =
    let r = c.requires.0 in
    let x = op-next c.args.names.now c.args.text.now c.args.place c.args.at c.requires.0.within c.in-Infix.is c.in_ok-operator.ensures in
    let y = infix-val c.args.names.now c.args.text.now (c.args.place + c.args.size) c.args.scratch.now _ _ _ c.in_ok-right-in-Infix.ensures in (
      omega (arith, c.requires.1),
      omega (arith, r.before, r.room, x.0, y.0.1, y.0.2, y.1),
      omega (arith, r.before, r.short, x.0, y.0.1, y.0.2),
      omega (arith, r.before, r.short, x.0, y.0.1, y.0.2),
    )

pub read_more-read_more-requires : goal.read_more-read_more-requires
read_more-read_more-requires t c =
    let r = c.requires.0 in
    let x = op-next c.args.names.now c.args.text.now c.args.place c.args.at c.requires.0.within c.in-Infix.is c.in_ok-operator.ensures in
    let y = infix-val c.args.names.now c.args.text.now (c.args.place + c.args.size) c.args.scratch.now _ _ _ c.in_ok-right-in-Infix.ensures in
    let l = simp length-set at (ap length c.put_two.ensures) in
    (omega (arith, x.0, y.0.0, y.0.1, y.0.2), (room-on r (l ∙ y.1) y.0.2 (omega (arith, r.before, x.0, y.0.1)), omega arith))

pub read_more-returns-in-Nothing : goal.read_more-returns-in-Nothing
read_more-returns-in-Nothing t c =
    more-nothing c.args.names.now c.args.text.now c.args.place c.args.at c.requires.0.within c.args.level c.args.size _ c.in-Nothing.is c.in_ok-operator.ensures

pub read_more-returns-in_ok-right-in-Infix : goal.read_more-returns-in_ok-right-in-Infix
read_more-returns-in_ok-right-in-Infix t c =
    more-on c.args.names.now c.args.text.now c.args.place c.args.at c.requires.0.within c.in-Infix.is c.in_ok-operator.ensures c.args.scratch.now _
    c.args.level c.args.size _ _ c.read_more.result c.if-o-level.false c.in_ok-right-in-Infix.ensures c.put_two.ensures c.read_more.ensures

pub read_prefix-returns-in_err-next : goal.read_prefix-returns-in_err-next
read_prefix-returns-in_err-next t c =
    let p = err_from_is_err_and c.from_residual.result c.from_residual.ensures.1 in
    rw (p.1, p.2) (c.in_err-next.ensures.0 c.requires.within)

pub read_prefix-read_prefix-requires : goal.read_prefix-read_prefix-requires
read_prefix-read_prefix-requires t c =
    let r = c.requires in
    let x = operator-next c.args.names.now c.args.text.now c.args.place c.args.scratch.now c.args.scratch.now c.args.at (c.in_ok-next.ensures.0 c.requires.within) c.in-Operator.is in
    (omega (arith, x.0, x.1), room-on r refl x.1 (omega (arith, x.0, r.before)))

pub read_prefix-returns-in_err-operand-in-Operator : goal.read_prefix-returns-in_err-operand-in-Operator
read_prefix-returns-in_err-operand-in-Operator t c =
    let p = err_from_is_err_and c.from_residual-in_err-operand-in-Operator.result c.from_residual-in_err-operand-in-Operator.ensures.1 in
    rw (p.1, p.2) (prefix-operator-refused c.args.names.now c.args.text.now c.args.place c.args.scratch.now c.args.scratch.now c.args.at
    (c.in_ok-next.ensures.0 c.requires.within) c.in-Operator.is c.in_err-operand-in-Operator.ensures)

pub read_prefix-put_one-requires : goal.read_prefix-put_one-requires
read_prefix-put_one-requires t c =
    let r = c.requires in
    let x = operator-next c.args.names.now c.args.text.now c.args.place c.args.scratch.now c.args.scratch.now c.args.at (c.in_ok-next.ensures.0 c.requires.within) c.in-Operator.is in
    let y = prefix-val c.args.names.now c.args.text.now c.args.place c.args.scratch.now _ _ c.in_ok-operand-in-Operator.ensures in
    (y.0.0, omega (arith, r.before, r.room, x.0, y.0.1, y.0.2, y.1), omega (arith, r.before, r.short, x.0, y.0.1, y.0.2))

pub read_prefix-read_bracket-requires : goal.read_prefix-read_bracket-requires
read_prefix-read_bracket-requires t c =
    let r = c.requires in
    let x = open_next c.args.names.now c.args.text.now c.args.place c.args.scratch.now c.args.scratch.now c.args.at (c.in_ok-next.ensures.0 c.requires.within) c.in-Open.is in
    (omega (arith, x.0, x.1), room-on r refl x.1 (omega (arith, x.0, r.before)))

pub read_prefix-put-requires : goal.read_prefix-put-requires
read_prefix-put-requires t c =
    let r = c.requires in
    let x = word_next c.args.names.now c.args.text.now c.args.place c.args.scratch.now c.args.scratch.now c.args.at (c.in_ok-next.ensures.0 c.requires.within) c.in-Word.is in (
      omega (arith, r.before, r.room, x.0, x.2),
      leaf-small c.args.names.now c.args.text.now c.args.place c.args.scratch.now c.args.scratch.now c.args.at (c.in_ok-next.ensures.0 c.requires.within) r.names c.in-Word.is c.leaf_of-leaf.ensures,
      omega arith,
      omega arith,
    )

pub read_prefix-returns-in_ok-operand-in-Operator : goal.read_prefix-returns-in_ok-operand-in-Operator
read_prefix-returns-in_ok-operand-in-Operator t c =
    prefix-operator c.args.names.now c.args.text.now c.args.place c.args.scratch.now _ c.args.at (c.in_ok-next.ensures.0 c.requires.within) _ c.in-Operator.is
    c.in_ok-operand-in-Operator.ensures c.put_one.ensures

pub read_prefix-returns-in-Open : goal.read_prefix-returns-in-Open
read_prefix-returns-in-Open t c =
    prefix-bracket c.args.names.now c.args.text.now c.args.place c.args.scratch.now _ c.args.at (c.in_ok-next.ensures.0 c.requires.within) c.read_bracket.result c.in-Open.is c.read_bracket.ensures

pub read_prefix-returns-in-Word : goal.read_prefix-returns-in-Word
read_prefix-returns-in-Word t c =
    prefix-leaf c.args.names.now c.args.text.now c.args.place c.args.scratch.now _ c.args.at (c.in_ok-next.ensures.0 c.requires.within) c.in-Word.is c.leaf_of-leaf.ensures c.put.ensures
