-- What the search answers and leaves in the lent slices, for every input.
-- Assumes nothing.
use Rattle.std.specs.Prelude.{◌≡◌, [], ◌<◌, Result, Ok, Err}
use Rattle.rules.specs.declared.refusal.Refusal.{Refusal}
use Rattle.rules.specs.Refusals.{Decided, refusal_number}
use Rattle.rules.specs.Answers.{Said}
use Rattle.walk.specs.Walk.{kept}
use Rattle.walk.specs.Input.{Input, search}
use Rattle.formula.specs.Kinds.{node_of}
pub use Rattle.slices.specs.Said.{found_said, none_said, full_said, tally_of, counts, end_said, walk_said}
use Rattle.search.specs.declared.SearchAnswer.{SearchAnswer}
use Rattle.search.specs.declared.SearchAnswer.TheVariants.{Found, None, Full}
use Rattle.search.specs.Table.{Cols, table_over}
use Rattle.checks.specs.Refusals.{search_rows}

-- ---- the number and values of each case, as slices/specs/Said has them; a refusal has document 01's number and nothing else

-- the whole answer: one of the ends, or a refusal
abbrev pub Answer : Type 0
Answer = Result SearchAnswer Refusal

abbrev pub said_search : Answer → Said
said_search (Ok (Found root n)) = found_said (node_of root) n
said_search (Ok (None n)) = none_said n
said_search (Ok (Full size n)) = full_said size n
said_search (Err refusal) = record { number = refusal_number refusal; values = [] }

-- ---- the contract

-- a refusal "writes nothing"; else the answer and the slices are the walk's
abbrev pub Outcome : Input → Cols → Answer → Cols → Type 0
Outcome i t (Ok answer) t' = (said_search (Ok answer) ≡ walk_said (search i)) × (t' ≡ table_over (kept (search i)) t)
Outcome i t (Err refusal) t' = (0 < refusal_number refusal) × (t' ≡ t)

-- the number is that of the first row that is given, 0 where none is
pub record Searched (i : Input) (t : Cols) (answer : Answer) (t' : Cols) : Type 0 where
  pub decided : Decided (search_rows i t) (said_search answer).number
  pub outcome : Outcome i t answer t'
