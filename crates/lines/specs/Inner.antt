-- How private functions speak of what they are handed and what they write. No public contract cites this file, so nothing here has to be believed.
-- Assumes nothing.
use Rattle.std.specs.Prelude.{◌≡◌, List, ◌++◌, ℕ, ◌≤◌, length}
use Rattle.file.specs.Format.{Parts, Good}
use Rattle.reading.specs.Reading.{got}
use Rattle.names.specs.Names.{whole_names}
use Rattle.formula.specs.Formula.{Formula}
use Rattle.formula.specs.Nodes.{Node, Spells, codes}
use Rattle.walk.specs.Input.{Input}
use Rattle.formula.specs.Rule.{Broken}
use Rattle.text.specs.Text.{text}
use Rattle.writing.specs.Writing.{Wrote, newline}
use Rattle.line.specs.Line.{found_line}
use Rattle.lines.specs.Bench.{file_input, GoodSays}

-- names and a root node that can be printed
pub record Showable (file : List ℕ) (k : List Node) (root : Node) : Type 0 where
  pub names : List (List ℕ)
  pub next : ℕ
  pub good : whole_names file ≡ got names next
  pub whole : Broken (length names) k root → ⊥

-- the lines of a formula found are written
abbrev pub ShownBy : List ℕ → List Node → Node → ℕ → ℕ → List ℕ → ℕ → List ℕ → Type 0
ShownBy file k root tried dropped old r new =
    (names : List (List ℕ)) (next : ℕ) → whole_names file ≡ got names next
    → (t : Formula) × Spells codes k root t × Wrote old 0 (found_line root.size tried (length k) dropped ++ (text names t ++ newline)) new r

-- the names section and the input are those of good parts
pub record Given (file : List ℕ) (i : Input) (p : Parts) : Type 0 where
  pub good : Good p
  pub next : ℕ
  pub front : whole_names file ≡ got p.names next
  pub same : i ≡ file_input p i.room

-- the lines of a good file are written
pub record LinesWritten (p : Parts) (room : ℕ) (old : List ℕ) (r : ℕ) (new : List ℕ) : Type 0 where
  pub lines : List ℕ
  pub says : GoodSays p room lines
  pub wrote : Wrote old 0 lines new r
  pub fits : length lines ≤ length old

abbrev pub GivenBy : List ℕ → Input → Type 0
GivenBy file i = (p : Parts) × Given file i p

abbrev pub WrittenFor : List ℕ → Input → List ℕ → ℕ → List ℕ → Type 0
WrittenFor file i old n new = (p : Parts) → Given file i p → LinesWritten p i.room old n new
