-- `strong` meets its contract: each return is a law of `Fronts`.
use mathlib.Core.Path.{sym, ◌∙◌}
use Rattle.operand.proofs.Fronts.{strong-is, strong-cut, strong-not}
use Rattle.operand.proofs.strong.Goals as goal

pub returns-then-byte-ne33 : goal.returns-then-byte-ne33
returns-then-byte-ne33 c =
    strong-not c.args.text.now c.args.at c.requires (λ e. c.if-byte-ne33.true (c.byte.ensures ∙ e))

pub returns-then-byte-ne93 : goal.returns-then-byte-ne93
returns-then-byte-ne93 c =
    strong-cut c.args.text.now c.args.at (sym c.byte.ensures ∙ c.if-byte-ne33.false) (λ e. c.if-byte-ne93.true (c.byte-2.ensures ∙ e))

pub returns : goal.returns
returns c =
    strong-is c.args.text.now c.args.at (sym c.byte.ensures ∙ c.if-byte-ne33.false) (sym c.byte-2.ensures ∙ c.if-byte-ne93.false)
