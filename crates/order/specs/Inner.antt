-- What the private functions promise each other. No public contract cites this file, so nothing here has to be believed.
-- Assumes nothing.
use Rattle.std.specs.Prelude.{false, List, ℕ, ◌+◌, ◌-◌, ◌/◌, ◌<◌, length, Option}
use Rattle.split.specs.declared.Cursor.{Cursor}
use Rattle.split.specs.declared.Part.{Part}
use Rattle.split.specs.declared.Candidate.{Candidate}
use Rattle.split.specs.Split.{cursor, cand_in, after_in, Takes, CursorStands}
use Rattle.order.specs.Size.{Layer, layer_of, leaf_cands, first_place}
use Rattle.order.specs.Ahead.{codes_in, left_end, right_start, right_end, leaves_ahead, leaf_at, after_leaf, parts_ahead}

-- ---- the leaves

pub record LeafAhead (m constants : ℕ) (at : Cursor) : Type 0 where
  pub operator-in : at.operator < length (leaf_cands m constants)

abbrev pub InLeaves : ℕ → ℕ → Cursor → Option Candidate → Type 0
InLeaves m constants = Takes (leaves_ahead m constants) (leaf_at m constants) after_leaf (LeafAhead m constants)

-- ---- the splits

-- the places of split i
abbrev pub part_of : List ℕ → ℕ → ℕ → Part
part_of starts s i = record { end = left_end s starts i; from = right_start s starts i; to = right_end s starts i }

abbrev pub part_start : List ℕ → ℕ → ℕ → Cursor
part_start starts s i = cursor i (first_place starts i) (first_place starts (s - 1 - i)) 0 false

pub record CursorStandsIn (g : Layer) (at : Cursor) : Type 0 where
  pub split-in : at.split < (g.size + 1) / 2
  pub stands : CursorStands at.split (codes_in g at.split) (left_end g.size g.starts at.split) (right_end g.size g.starts at.split) at

abbrev pub PartsTake : Layer → Cursor → Option Candidate → Type 0
PartsTake g = Takes (parts_ahead g) (λ at. cand_in (codes_in g at.split) at) (λ at. after_in (codes_in g at.split) at) (CursorStandsIn g)

-- whatever the leaves
pub record InParts (starts : List ℕ) (s : ℕ) (unary binary : List ℕ) (at : Cursor) (step : Option Candidate) : Type 0 where
  pub takes : (m constants : ℕ) → PartsTake (layer_of s starts m constants unary binary) at step
