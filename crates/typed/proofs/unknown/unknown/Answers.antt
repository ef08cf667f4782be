-- The goals of `unknown` that the search leaves.
use native.Mathlib.Omega.{arith}
use Rattle.names.specs.Lookup.{names_by}
use Rattle.typed.proofs.Unknowns.{met_start, met-on, met-here, met_all}
use Rattle.typed.proofs.unknown.unknown.Goals as goal

pub loop-i-init : goal.loop-i-init
loop-i-init c = met_start (names_by c.args.names.now) c.args.text.now

pub returns-in_default : goal.returns-in_default
returns-in_default c =
    let l = c.loop-i in
    met-here (names_by c.args.names.now) c.args.text.now l.invariant c.in_default.is c.pass.ensures

pub loop-i-smaller : goal.loop-i-smaller
loop-i-smaller c =
    let l = c.loop-i in
    let x = met-on (names_by c.args.names.now) c.args.text.now l.invariant c.in-Some.is c.pass.ensures in
    omega (arith, x.0, x.1)

pub loop-i-preserved : goal.loop-i-preserved
loop-i-preserved c =
    let l = c.loop-i in
    (met-on (names_by c.args.names.now) c.args.text.now l.invariant c.in-Some.is c.pass.ensures).2

pub returns : goal.returns
returns c =
    let l = c.loop-i in
    met_all (names_by c.args.names.now) c.args.text.now l.invariant c.loop-i-test.false
