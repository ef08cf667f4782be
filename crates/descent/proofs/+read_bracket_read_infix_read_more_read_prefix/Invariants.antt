-- The four functions of the descent meet their contracts: each return is a law of `Returns`. They fall by the bytes that are left, and a
use lib.ListN.{length}
use Prim.Native.Nat.{◌+◌, ◌-◌, ◌*◌}
use Rattle.descent.proofs.+read_bracket_read_infix_read_more_read_prefix.Given as goal

abbrev pub decreases-read_bracket : goal.decreases-read_bracket
decreases-read_bracket l = 3 * (length l.text.now - l.at) + 2

abbrev pub decreases-read_infix : goal.decreases-read_infix
decreases-read_infix l = 3 * (length l.text.now - l.at) + 1

abbrev pub decreases-read_more : goal.decreases-read_more
decreases-read_more l = 3 * (length l.text.now - l.at)

abbrev pub decreases-read_prefix : goal.decreases-read_prefix
decreases-read_prefix l = 3 * (length l.text.now - l.at)
