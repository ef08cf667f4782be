-- `letters` meets its contract: from where the name starts up to where the next one does.
use native.Mathlib.Omega.{arith}
use Rattle.names.proofs.Lookups.{start-turn}
use Rattle.names.proofs.lookup.letters.Goals as goal

pub returns-then-at-section : goal.returns-then-at-section
returns-then-at-section c =
    let a = c.args in
    let s = c.start-at in
    record { from = omega (arith, s.ensures); to = start-turn a.section.now a.p s.ensures c.next-to.ensures }

pub returns-else-at-section : goal.returns-else-at-section
returns-else-at-section c =
    let a = c.args in
    let s = c.start-at in
    record { from = omega (arith, s.ensures); to = start-turn a.section.now a.p s.ensures c.next-to.ensures }
