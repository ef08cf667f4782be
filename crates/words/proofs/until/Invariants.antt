-- `words::until` meets its contract. The loop's invariant: its words are those of the distance d, which is doubled until no run is left or it is 64.
use Prim.Native.Nat.{◌-◌, ◌<◌}
use lib.Bits.{bit_and}
use Rattle.words.specs.Word.{width}
use Rattle.words.proofs.Operators.{Doubled}
use Rattle.words.proofs.until.Given as goal

abbrev pub invariant-loop-d : goal.invariant-loop-d
invariant-loop-d l = Doubled l.x-2 (bit_and l.y-2 l.mask) l.d l.x l.y × (0 < l.d)

abbrev pub decreases-loop-d : goal.decreases-loop-d
decreases-loop-d l = width - l.d
