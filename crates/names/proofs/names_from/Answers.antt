-- The goals of `names_from` that the search leaves.
use native.Mathlib.Omega.{arith}
use Rattle.std.proofs.lemmas.Result.{err_from_is_err_and}
use Rattle.reading.proofs.Steps.{done}
use Rattle.names.proofs.Turns.{names-start, names-turn, names-broken}
use Rattle.names.proofs.names_from.Goals as goal

pub loop-i-init : goal.loop-i-init
loop-i-init c = names-start _ _ c.requires

pub name_at-requires : goal.name_at-requires
name_at-requires c = omega (arith, c.loop-i.invariant.at, c.loop-i.invariant.room)

pub returns-in_err-p : goal.returns-in_err-p
returns-in_err-p c =
    let p = err_from_is_err_and c.from_residual.result c.from_residual.ensures.1 in
    rw (p.1, p.2) (names-broken _ _ c.loop-i.invariant c.loop-i-test.true c.in_err-p.ensures)

pub loop-i-preserved : goal.loop-i-preserved
loop-i-preserved c = names-turn _ _ c.loop-i.invariant c.loop-i-test.true c.in_ok-p.ensures

pub returns : goal.returns
returns c = done _ _ c.loop-i.invariant.loop c.loop-i-test.false
