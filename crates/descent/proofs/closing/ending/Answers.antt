-- `ending` meets its contract: behind the spaces the text ends, or it can't go on there.
use Rattle.descent.proofs.Ends.{ended, not-ended}
use Rattle.descent.proofs.closing.ending.Goals as goal

pub returns-then-i-text : goal.returns-then-i-text
returns-then-i-text c = not-ended _ c.args.at c.requires c.in-Nothing.is c.in_ok-i.ensures c.if-i-text.true

pub returns-else-i-text : goal.returns-else-i-text
returns-else-i-text c = ended _ c.args.at c.requires c.in-Nothing.is c.in_ok-i.ensures c.if-i-text.false
