-- `closing` meets its contract: behind the spaces stands a closing bracket, or the text can't go on there.
use mathlib.Core.Path.{sym, ◌∙◌}
use Rattle.descent.proofs.Ends.{closed, not-closed}
use Rattle.descent.proofs.closing.closing.Goals as goal

pub returns-then-byte-ne41 : goal.returns-then-byte-ne41
returns-then-byte-ne41 c =
    not-closed _ c.args.at c.requires c.in-Nothing.is c.in_ok-i.ensures (λ e. c.if-byte-ne41.true (c.byte.ensures ∙ e))

pub returns-else-byte-ne41 : goal.returns-else-byte-ne41
returns-else-byte-ne41 c =
    closed _ c.args.at c.requires c.in-Nothing.is c.in_ok-i.ensures (sym c.byte.ensures ∙ c.if-byte-ne41.false)
