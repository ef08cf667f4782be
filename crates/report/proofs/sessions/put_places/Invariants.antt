-- `put_places` meets its contract: one place after the other.
use Prim.Native.Nat.{◌≤◌}
use Rattle.formula.specs.Kinds.{nodes}
use Rattle.session.specs.Recording.{recording}
use Rattle.report.specs.Inner.{WrotePlaces}
use Rattle.report.proofs.sessions.put_places.Given as goal

abbrev pub invariant-loop-p : goal.invariant-loop-p
invariant-loop-p l = (l.p ≤ l.n) × WrotePlaces (recording l.r l.m l.marks l.lengths l.words) (nodes l.codes l.lefts l.rights l.sizes) l.under l.on.0 l.p l.initial.text l.at l.text l.b
