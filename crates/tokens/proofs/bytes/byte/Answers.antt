-- `byte` meets its contract: past the end `get_or` is 0.
use mathlib.Core.Path.{sym}
use lib.ListN.{get_or-eq_default}
use Rattle.tokens.proofs.bytes.byte.Goals as goal

pub returns : goal.returns
returns c = sym (get_or-eq_default c.args.text.now 0 c.if-at-text.false)
