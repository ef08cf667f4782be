-- The recorded sessions as traces with their marks.
-- Assumes nothing.
use Rattle.std.specs.Prelude.{List, map, ℕ}
use Rattle.rules.specs.Lists.{count}
use Rattle.words.specs.Word.{At}
use Rattle.session.specs.Recording.{Recording, mark_of, length_of, word_of}
use Rattle.formula.specs.Formula.{MarkedTrace}

-- what was recorded of session j: "bit i is snapshot i"
abbrev pub marked_trace : Recording → ℕ → MarkedTrace
marked_trace d j = record { mark = mark_of d j; trace = record { length = length_of d j; holds = λ p. At (word_of d j p) } }

abbrev pub marked_traces : Recording → List MarkedTrace
marked_traces d = map (marked_trace d) (count 0 d.sessions)
