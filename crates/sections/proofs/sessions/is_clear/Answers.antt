-- `is_clear` meets its contract: the constructor takes a word of length n just where it is below 2 ^ n.
use mathlib.Core.Path.{◌∙◌}
use Rattle.std.specs.Prelude.{is_ok}
use Rattle.sequence.proofs.Answers.{recorded_ok}
use Rattle.sections.proofs.Numbers.{clear-is}
use Rattle.sections.proofs.sessions.is_clear.Goals as goal

pub returns : goal.returns
returns c =
    let r = c.recorded.result in
    c.is_ok.ensures.value ∙ clear-is c.args.n c.args.w c.requires (is_ok r) (recorded_ok r c.recorded.ensures)
