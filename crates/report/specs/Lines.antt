-- The report's text: its lines, each as `summary` spells it.
-- Assumes nothing.
use Rattle.std.specs.Prelude.{◌≡◌, List, [], ◌++◌, ℕ, zero, suc, length}
use Rattle.session.specs.Recording.{Recording, length_of}
use Rattle.formula.specs.Formula.{Formula, Holds}
use Rattle.formula.specs.Nodes.{Node, node_at, Spells, codes}
use Rattle.formula.specs.Recorded.{marked_trace}
use Rattle.summary.specs.declared.values.Summary.{Summary}
use Rattle.summary.specs.Values.{Summed}
pub use Rattle.summary.specs.Line.{blank, root_word, first_text, summary_text, place_line, root_line}
pub use Rattle.writing.specs.Writing.{newline}
use Rattle.report.specs.Under.{Under}

-- what is said of a node on session j, by the reading of the formula that it spells
pub record NodeSays (i : Recording) (k : List Node) (j : ℕ) (n : Node) (s : Summary) : Type 0 where
  pub formula : Formula
  pub spells : Spells codes k n formula
  pub says : Summed (length_of i j) (Holds (marked_trace i j).trace formula) s

-- over the places that are to be reported
module _ (i : Recording) (k : List Node) (reported : ℕ → Type 0) (j : ℕ) where
  -- "one line per node": a place that is reported has one, another has none
  pub data PlaceLine (p : ℕ) (out : List ℕ) : Type 0 where
    one : reported p → (s : Summary) → NodeSays i k j (node_at k p) s → out ≡ place_line j p s → PlaceLine p out
    none : (reported p → ⊥) → out ≡ [] → PlaceLine p out

  -- "places rising, each once": those of the first n places
  abbrev pub PlaceLines : ℕ → List ℕ → Type 0
  PlaceLines zero out = out ≡ []
  PlaceLines (suc p) out = (before : List ℕ) × (here : List ℕ) × PlaceLines p before × PlaceLine p here × (out ≡ before ++ here)

module _ (i : Recording) (k : List Node) (root : Node) where
  -- "Per session and node under the root", "then the root itself as `root`"
  pub record SessionLines (j : ℕ) (out : List ℕ) : Type 0 where
    pub places : List ℕ
    pub listed : PlaceLines i k (Under k root) j (length k) places
    pub summary : Summary
    pub rooted : NodeSays i k j root summary
    pub whole : out ≡ places ++ root_line j summary

  -- "Print for each session": those of the first n sessions
  abbrev pub SessionsLines : ℕ → List ℕ → Type 0
  SessionsLines zero out = out ≡ []
  SessionsLines (suc j) out = (before : List ℕ) × (here : List ℕ) × SessionsLines j before × SessionLines j here × (out ≡ before ++ here)

  -- the whole report
  abbrev pub ReportText : List ℕ → Type 0
  ReportText out = SessionsLines i.sessions out
