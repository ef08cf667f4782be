-- `word_clear` meets its contract: the constructor takes the words that are clear.
use Rattle.session.specs.Inner.{WordClear}
use Rattle.sequence.proofs.Answers.{recorded_ok}
use Rattle.session.proofs.data.word_clear.Goals as goal

pub returns : goal.returns
unfolding WordClear
returns c = rw c.is_ok.ensures.value (recorded_ok c.recorded.result c.recorded.ensures)
