-- A formula's sequence on one session: what is answered for every input.
-- Assumes nothing.
use Rattle.std.specs.Prelude.{ℕ, ◌≤◌, ◌<◌, List, Option, None, Some, Result, Ok, Err}
use Rattle.rules.specs.declared.refusal.Refusal.{Refusal}
use Rattle.rules.specs.Refusals.{Decided, refusal_number, number_of}
use Rattle.sequence.specs.declared.CharSeq.{CharSeq}
use Rattle.sequence.specs.Sequence.{Denotes}
use Rattle.session.specs.Recording.{Recording, length_of}
use Rattle.formula.specs.Formula.{Formula, Holds}
use Rattle.formula.specs.Recorded.{marked_trace}
use Rattle.formula.specs.Nodes.{Node, Spells, codes}
use Rattle.verdict.specs.Check.{check_rows}

-- "bit i is snapshot i": there is a session j, and s is the sequence there of the formula that the root spells: bit p is set exactly where the formula holds at p
pub record SequenceOn (i : Recording) (k : List Node) (root : Node) (j : ℕ) (s : CharSeq) : Type 0 where
  pub there : j < i.sessions
  pub formula : Formula
  pub spells : Spells codes k root formula
  pub denotes : Denotes (length_of i j) (Holds (marked_trace i j).trace formula) s

-- document 01's number of each case; 0 where nothing is refused
abbrev pub sequenced_number : Result (Option CharSeq) Refusal → ℕ
sequenced_number a = number_of a

-- and what the case carries
abbrev pub SequencedCarries : Recording → List Node → Node → ℕ → Result (Option CharSeq) Refusal → Type 0
SequencedCarries i k root j (Ok (Some s)) = SequenceOn i k root j s
SequencedCarries i k root j (Ok None) = i.sessions ≤ j
SequencedCarries i k root j (Err refusal) = 0 < refusal_number refusal

-- the check's rows decide; where none is given, the sequence, if there is such a session
pub record SequenceAnswer (i : Recording) (k : List Node) (root : Node) (j : ℕ) (a : Result (Option CharSeq) Refusal) : Type 0 where
  pub number : Decided (check_rows i k root) (sequenced_number a)
  pub carries : SequencedCarries i k root j a
