-- `codes_from` meets its contract: a loop over codes that remembers those before.
use Rattle.sections.specs.Sections.{group_of}
use Rattle.sections.proofs.Turns.{Codes}
use Rattle.sections.proofs.codes.codes_from.Given as goal

abbrev pub invariant-loop-i : goal.invariant-loop-i
invariant-loop-i l = Codes (group_of l.unary) l.file l.from l.count l.i l.p
