-- `all_clear`: the sessions so far are clear.
use Prim.Native.Nat.{ℕ, ◌*◌, ◌<◌}
use mathlib.Core.Bool.{true}
use lib.ListN.{get_or}
use Rattle.session.specs.Inner.{Clear}
use Rattle.session.proofs.data.all_clear.Given as goal

abbrev pub invariant-loop-i : goal.invariant-loop-i
invariant-loop-i l = (k : ℕ) → k < l.i → Clear l.words (k * l.m) l.m (get_or l.lengths k 0) true
