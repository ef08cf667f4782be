-- `letters_from` meets its contract: a loop over the letters of a name, each judged by its number in the name.
use Rattle.names.specs.Names.{letter}
use Rattle.reading.proofs.Steps.{Loop}
use Rattle.names.proofs.letter.letters_from.Given as goal

abbrev pub invariant-loop-i : goal.invariant-loop-i
invariant-loop-i l = Loop letter l.file l.at l.n l.i l.p
