-- `deep` meets its contract: brackets counted byte by byte.
use Rattle.typed.proofs.Nesting.{Counted}
use Rattle.typed.proofs.depth.deep.Given as goal

abbrev pub invariant-loop-b : goal.invariant-loop-b
invariant-loop-b l = Counted l.text l.opened l.closed l.b-index
