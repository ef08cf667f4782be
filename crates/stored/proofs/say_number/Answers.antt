-- `say_number` counts the digits: it says their text, and answers its length.
use Rattle.std.proofs.Common.{◌∙◌}
use Rattle.stored.proofs.Counted.{said_counted}
use Rattle.stored.proofs.Fronts.{behind}
use Rattle.stored.proofs.say_number.Goals as goal

pub returns-clause-digits : goal.returns-clause-digits
returns-clause-digits g c =
    said_counted c.say-2.result c.args.x _ c.ranges.x.fits (c.as_bytes.ensures.value ∙ c.format.ensures.text) c.say-2.ensures.len

pub returns-clause-err : goal.returns-clause-err
returns-clause-err g c =
    behind c.say-2.result _ _ _ _ _ _ (c.as_bytes.ensures.value ∙ c.format.ensures.text) c.in_ok-say.ensures.said c.say-2.ensures.err
