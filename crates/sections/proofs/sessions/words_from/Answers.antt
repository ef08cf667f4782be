-- The goals of `words_from` that the search leaves.
use Rattle.std.proofs.lemmas.Result.{err_from_is_err_and}
use Rattle.sections.specs.Inner.{nothing}
use Rattle.reading.proofs.Steps.{step-read, step-broken, start, turn, broken, done}
use Rattle.sections.proofs.sessions.words_from.Goals as goal

pub loop-init : goal.loop-init
loop-init c = start _ _ _ _

pub returns-in_err-p : goal.returns-in_err-p
returns-in_err-p c =
    let p = err_from_is_err_and c.from_residual.result c.from_residual.ensures.1 in
    rw (p.1, p.2) (broken _ _ c.loop.invariant c.loop-test.true (step-broken nothing _ c.in_err-p.ensures))

pub loop-preserved : goal.loop-preserved
loop-preserved c = turn _ _ c.loop.invariant c.loop-test.true (step-read nothing _ c.in_ok-p.ensures).1

pub returns : goal.returns
returns c = done _ _ c.loop.invariant c.loop-test.false
