-- `list` stays within the room lent.
use Rattle.std.proofs.Common.{◌≡◌, ◌≤◌, length}
use Rattle.stored.proofs.list.Given as goal

abbrev pub invariant-loop-b : goal.invariant-loop-b
invariant-loop-b g l = record { within : l.n ≤ length l.to; same : length l.to ≡ length l.initial.to }
