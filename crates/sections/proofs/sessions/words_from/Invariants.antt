-- `words_from` meets its contract: a loop over the words of a session.
use Rattle.sections.specs.Sections.{eight_bytes}
use Rattle.reading.proofs.Steps.{Loop}
use Rattle.sections.proofs.sessions.words_from.Given as goal

abbrev pub invariant-loop : goal.invariant-loop
invariant-loop l = Loop (λ _. eight_bytes l.n) l.file l.at l.m l.counter l.p
