-- `fill_words` meets its contract: a loop of stores, m words a session.
use Rattle.file.proofs.Filling.{Blocks}
use Rattle.file.proofs.fill.fill_words.Given as goal

abbrev pub invariant-loop : goal.invariant-loop
invariant-loop l = Blocks l.initial.to l.file l.at l.m l.n l.to l.counter l.k l.p
