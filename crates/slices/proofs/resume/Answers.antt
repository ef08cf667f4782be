-- `resume` meets its contract: a budget that is too large is refused in its turn, and any other is passed over.
use native.Mathlib.Omega.{arith}
use Rattle.walk.specs.Input.{input_of}
use Rattle.table.specs.Slices.{cols}
use Rattle.slices.proofs.Calls.{refused, rows-budget, rows-within}
use Rattle.slices.proofs.resume.Goals as goal

pub returns-then-budget-gt-BUDGET : goal.returns-then-budget-gt-BUDGET
returns-then-budget-gt-BUDGET c = refused _ _ c.args.budget c.args.state _ (rows-budget _ _ c.args.state _ _ c.if-budget-gt-BUDGET.true c.one_or_two.ensures)

pub shape_of-codes : goal.shape_of-codes
shape_of-codes c = c.advance.auto.codes

pub shape_of-lefts : goal.shape_of-lefts
shape_of-lefts c = c.advance.auto.lefts

pub shape_of-rights : goal.shape_of-rights
shape_of-rights c = c.advance.auto.rights

pub shape_of-sizes : goal.shape_of-sizes
shape_of-sizes c = c.advance.auto.sizes

pub shape_of-matrices : goal.shape_of-matrices
shape_of-matrices c = c.advance.auto.matrices

pub returns : goal.returns
returns c =
    let a = c.args in
    let i = input_of a.r a.m a.bound a.room a.constants a.marks.now a.lengths.now a.words.now a.unary.now a.binary.now in
    let t = cols a.codes.now a.lefts.now a.rights.now a.sizes.now a.matrices.now in
    let w = c.advance.ensures in
    record { decided = rows-within i t a.state a.budget _ (omega (arith, c.if-budget-gt-BUDGET.false)) w.decided; outcome = w.outcome }
