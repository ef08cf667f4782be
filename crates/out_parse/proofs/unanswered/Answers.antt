-- `unanswered` gives 8, 12, 11, 13 or 3: what the core decides with no room lent.
use Rattle.out_parse.proofs.Parsing.{parse-fits}
use Rattle.out_parse.proofs.unanswered.Goals as goal

pub number-requires : goal.number-requires
number-requires c = parse-fits _ _ _ _ _ c.parse-answer.ensures
