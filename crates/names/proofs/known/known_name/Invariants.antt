-- `known_name` meets its contract: a name is one of those from the j-th on just where it is one of all.
use lib.ListN.{take, drop}
use Rattle.names.proofs.Walks.{Known}
use Rattle.names.proofs.known.known_name.Given as goal

abbrev pub invariant-loop : goal.invariant-loop
invariant-loop l = Known l.file (take l.n (drop l.at l.file)) l.count l.counter l.p
