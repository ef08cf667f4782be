-- How private functions speak of marks and of what they have written. No public contract cites this file, so nothing here has to be believed.
-- Assumes nothing.
use Rattle.std.specs.Prelude.{◌≡◌, ◌↔◌, ◌⊎◌, List, ℕ, ◌≤◌, ◌<◌, length, get_or}
use Rattle.rules.specs.Refusals.{Decided}
use Rattle.writing.specs.Writing.{Wrote}
use Rattle.session.specs.Recording.{Recording}
use Rattle.formula.specs.Nodes.{Node, node_at}
use Rattle.formula.specs.Rule.{Broken}
use Rattle.verdict.specs.Check.{check_rows}
use Rattle.report.specs.Under.{Child, Under}
use Rattle.report.specs.Lines.{PlaceLine, PlaceLines, SessionLines, SessionsLines}

-- a place has a mark
abbrev pub PlaceMarked : List ℕ → ℕ → Type 0
PlaceMarked marks p = get_or marks p 0 ≡ 1

-- the children of a node are marked too
pub record MarksChildren (old : List ℕ) (n : Node) (new : List ℕ) : Type 0 where
  pub same : length new ≡ length old
  pub marked : (p : ℕ) → p < length old → PlaceMarked new p ↔ (PlaceMarked old p ⊎ Child n p)

-- and so are those of a place that has a mark itself
pub record MarksBelow (old : List ℕ) (q : ℕ) (n : Node) (new : List ℕ) : Type 0 where
  pub same : length new ≡ length old
  pub marked : (p : ℕ) → p < length old → PlaceMarked new p ↔ (PlaceMarked old p ⊎ (PlaceMarked old q × Child n p))

-- the list passes the rule, for some number of propositions
abbrev pub WholeList : List Node → Node → Type 0
WholeList k root = (m : ℕ) × (Broken m k root → ⊥)

-- exactly the places under the root are marked
pub record MarksUnder (k : List Node) (root : Node) (marks : List ℕ) : Type 0 where
  pub room : length k ≤ length marks
  pub exactly : (p : ℕ) → p < length k → PlaceMarked marks p ↔ Under k root p

-- each listed node passes the check in the root's stead
abbrev pub AllPass : Recording → List Node → Type 0
AllPass i k = (p : ℕ) → p < length k → Decided (check_rows i k (node_at k p)) 0

-- ---- what is written

abbrev pub WrotePlace : Recording → List Node → List ℕ → ℕ → ℕ → List ℕ → ℕ → List ℕ → ℕ → Type 0
WrotePlace i k marks j p old at new r = (out : List ℕ) × PlaceLine i k (PlaceMarked marks) j p out × Wrote old at out new r

abbrev pub WrotePlaces : Recording → List Node → List ℕ → ℕ → ℕ → List ℕ → ℕ → List ℕ → ℕ → Type 0
WrotePlaces i k marks j n old at new r = (out : List ℕ) × PlaceLines i k (PlaceMarked marks) j n out × Wrote old at out new r

abbrev pub WroteSession : Recording → List Node → Node → ℕ → List ℕ → ℕ → List ℕ → ℕ → Type 0
WroteSession i k root j old at new r = (out : List ℕ) × SessionLines i k root j out × Wrote old at out new r

abbrev pub WroteSessions : Recording → List Node → Node → ℕ → List ℕ → ℕ → List ℕ → ℕ → Type 0
WroteSessions i k root n old at new r = (out : List ℕ) × SessionsLines i k root n out × Wrote old at out new r
