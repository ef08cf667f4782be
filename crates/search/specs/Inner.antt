-- What the private function promises. No public contract cites this.
-- Assumes nothing.
use Rattle.std.specs.Prelude.{Result, Ok, Err}
use Rattle.rules.specs.declared.refusal.Refusal.{Refusal}
use Rattle.state.specs.declared.State.{State}
use Rattle.state.specs.declared.End.{End}
use Rattle.slices.specs.Resume.{Resumed}
use Rattle.search.specs.declared.SearchAnswer.{SearchAnswer}
use Rattle.search.specs.declared.SearchAnswer.TheVariants.{Found, None, Full}

-- the end that a state tells
abbrev pub answer_at : End → State → SearchAnswer
answer_at End.Found st = Found st.root st.counts
answer_at End.Full st = Full st.size st.counts
answer_at End.None st = None st.counts
answer_at End.More st = None st.counts
answer_at (End.Other n) st = None st.counts

abbrev pub end_of : State → SearchAnswer
end_of st = answer_at st.end st

abbrev pub search_answer_of : Resumed → Result SearchAnswer Refusal
search_answer_of (Ok st) = Ok (end_of st)
search_answer_of (Err refusal) = Err refusal
