-- How private functions speak of evaluation and of the check. No public contract cites this file, so nothing here has to be believed.
-- Assumes nothing.
use Rattle.std.specs.Prelude.{◌≡◌, Bool, true, ◌↔◌, ◌⊎◌, List, [], ◌∷◌, ℕ, ◌+◌, ◌*◌, ◌≤◌, ◌<◌, length, get_or, Ok}
use Rattle.words.specs.Word.{width, At, Wf}
use Rattle.sequence.specs.declared.CharSeq.{CharSeq}
use Rattle.sequence.specs.Sequence.{SeqAccepts, Denotes}
use Rattle.formula.specs.Formula.{Formula, Trace, Holds}
use Rattle.formula.specs.Nodes.{Node, node_at, Spells, codes}
use Rattle.formula.specs.Rule.{IsUnary, IsBinary}
use Rattle.session.specs.Recording.{Recording, length_of, word_of}
use Rattle.formula.specs.Recorded.{marked_trace}
use Rattle.formula.specs.Faultless.{Fits, AllFit}
use Rattle.rules.specs.Kinds.{most_number}
use Rattle.verdict.specs.Check.{said_verdict, Agrees}
use Rattle.verdict.specs.declared.Verdict.{Verdict}

-- ---- evaluation

-- what was recorded of a session of n snapshots whose words stand from `from` on
abbrev pub trace_at : ℕ → List ℕ → ℕ → Trace
trace_at n words from = record { length = n; holds = λ p. At (get_or words (from + p) 0) }

-- what the evaluator asks: a session's words are well formed, and the list, and the node over it, without fault
pub record Ready (n : ℕ) (words : List ℕ) (from : ℕ) (k : List Node) (node : Node) : Type 0 where
  pub short : n ≤ width
  pub propositions : ℕ
  pub few : propositions ≤ most_number
  pub there : from + propositions ≤ length words
  pub clear : (p : ℕ) → p < propositions → Wf n (get_or words (from + p) 0)
  pub all : AllFit propositions k (length k)
  pub fits : Fits propositions k (length k) node

-- what it answers: the sequence of whatever formula the node spells
abbrev pub Evaluated : ℕ → List ℕ → ℕ → List Node → Node → CharSeq → Type 0
Evaluated n words from k node r = (t : Formula) → Spells codes k node t → Denotes n (Holds (trace_at n words from) t) r

-- the same of the node at a place of the list
abbrev pub ReadyAt : ℕ → List ℕ → ℕ → List Node → ℕ → Type 0
ReadyAt n words from k p = (p < length k) × Ready n words from k (node_at k p)

abbrev pub EvaluatedAt : ℕ → List ℕ → ℕ → List Node → ℕ → CharSeq → Type 0
EvaluatedAt n words from k p r = Evaluated n words from k (node_at k p) r

-- and of a leaf, which is a leaf over any list
abbrev pub LeafReady : ℕ → List ℕ → ℕ → Node → Type 0
LeafReady n words from node = (k : List Node) × Ready n words from k node × (IsUnary node.code → ⊥) × (IsBinary node.code → ⊥)

abbrev pub LeafEvaluated : ℕ → List ℕ → ℕ → Node → CharSeq → Type 0
LeafEvaluated n words from node r = (k : List Node) → Evaluated n words from k node r

-- ---- the check

-- what a session says, where s is the formula's sequence there
abbrev pub AgreesSeq : ℕ → CharSeq → Bool → Type 0
AgreesSeq mark s r = (r ≡ true) ↔ ((mark ≡ 1) ↔ SeqAccepts s)

-- the session data and the list have passed
pub record Checkable (i : Recording) (k : List Node) (root : Node) : Type 0 where
  pub marks-there : i.sessions ≤ length i.marks
  pub lengths-there : i.sessions ≤ length i.lengths
  pub words-there : i.propositions * i.sessions ≤ length i.words
  pub few : i.propositions ≤ most_number
  pub short : (j : ℕ) → j < i.sessions → length_of i j ≤ width
  pub clear : (j p : ℕ) → j < i.sessions → p < i.propositions → Wf (length_of i j) (word_of i j p)
  pub all : AllFit i.propositions k (length k)
  pub fits : Fits i.propositions k (length k) root

-- the sessions before j agree with whatever formula the root spells, and j does not or is their number
pub record FirstApart (i : Recording) (k : List Node) (root : Node) (j : ℕ) : Type 0 where
  pub upto : j ≤ i.sessions
  pub before : (t : Formula) → Spells codes k root t → (h : ℕ) → h < j → Agrees (marked_trace i h) t
  pub here : (t : Formula) → Spells codes k root t → j < i.sessions → Agrees (marked_trace i j) t → ⊥

-- the verdict, where j is the first of so many sessions that disagrees, or their number
abbrev pub VerdictOn : ℕ → ℕ → Verdict → Type 0
VerdictOn sessions j v =
    ((j < sessions) × (said_verdict (Ok v) ≡ record { number = 0; values = 0 ∷ j ∷ [] }))
    ⊎ ((sessions ≤ j) × (said_verdict (Ok v) ≡ record { number = 0; values = 1 ∷ [] }))
