-- The goals of `codes_from` that the search leaves.
use native.Mathlib.Omega.{arith}
use Rattle.std.proofs.lemmas.Result.{err_from_is_err_and}
use Rattle.reading.proofs.Steps.{done}
use Rattle.sections.proofs.Turns.{codes-start, codes-turn, codes-broken}
use Rattle.sections.proofs.codes.codes_from.Goals as goal

pub loop-i-init : goal.loop-i-init
loop-i-init c = codes-start _ _ _ _ c.requires

pub code_at-requires : goal.code_at-requires
code_at-requires c = omega (arith, c.loop-i.invariant.at, c.loop-i.invariant.room)

pub returns-in_err-p : goal.returns-in_err-p
returns-in_err-p c =
    let p = err_from_is_err_and c.from_residual.result c.from_residual.ensures.1 in
    rw (p.1, p.2) (codes-broken _ _ _ _ c.loop-i.invariant c.loop-i-test.true c.in_err-p.ensures)

pub loop-i-preserved : goal.loop-i-preserved
loop-i-preserved c = codes-turn _ _ _ _ c.loop-i.invariant c.loop-i-test.true c.in_ok-p.ensures

pub returns : goal.returns
returns c = done _ _ c.loop-i.invariant.loop c.loop-i-test.false
