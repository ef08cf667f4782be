-- `arrow` meets its contract: each return is a law of `Operators`.
use mathlib.Core.Path.{sym, ◌∙◌}
use Rattle.tokens.proofs.Operators.{arrow-is, arrow-not}
use Rattle.tokens.proofs.operator.arrow.Goals as goal

pub returns-then-byte-ne62 : goal.returns-then-byte-ne62
returns-then-byte-ne62 c = arrow-not c.args.text.now c.args.at c.args.code c.args.right (λ e. c.if-byte-ne62.true (c.byte.ensures ∙ e))

pub returns : goal.returns
returns c = arrow-is c.args.text.now c.args.at c.args.code c.args.right (sym c.byte.ensures ∙ c.if-byte-ne62.false)
