-- `sessions_from` meets its contract: a loop over the sessions.
use Rattle.sections.specs.Sections.{session}
use Rattle.reading.proofs.Steps.{Loop}
use Rattle.sections.proofs.sessions.sessions_from.Given as goal

abbrev pub invariant-loop : goal.invariant-loop
invariant-loop l = Loop (λ _. session l.m) l.file l.at l.count l.counter l.p
