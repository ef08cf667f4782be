-- `judge` meets its contract: 8 first, then as `judge_text` answers.
use Rattle.descent.proofs.Judging.{names-good}
use Rattle.descent.proofs.judge.judge.Goals as goal

pub judge_text-requires : goal.judge_text-requires
judge_text-requires c = names-good c.args.names.now c.in_ok-judge.ensures
