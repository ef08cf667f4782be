-- `put_sessions` meets its contract: one session after the other.
use Prim.Native.Nat.{◌≤◌}
use Rattle.formula.specs.Kinds.{node_of, nodes}
use Rattle.session.specs.Recording.{recording}
use Rattle.report.specs.Inner.{WroteSessions}
use Rattle.report.proofs.sessions.put_sessions.Given as goal

abbrev pub invariant-loop-j : goal.invariant-loop-j
invariant-loop-j l = (l.j ≤ l.n) × WroteSessions (recording l.r l.m l.marks l.lengths l.words) (nodes l.codes l.lefts l.rights l.sizes) (node_of l.root) l.j l.initial.text 0 l.text l.a
