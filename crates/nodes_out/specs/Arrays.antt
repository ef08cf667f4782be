-- What a search and the formula reader leave in arrays of their own, and that it can be put over a lent list.
-- Assumes nothing.
use Rattle.std.specs.Prelude.{◌≡◌, List, ◌++◌, Result, Ok, Err, ℕ, ◌≤◌, length, take, drop}
use Rattle.walk.specs.Input.{Input}
use Rattle.rules.specs.Limits.{most_room}
use Rattle.formula.specs.declared.kinds.Node.{Node}
use Rattle.search.specs.declared.SearchAnswer.{SearchAnswer}
use Rattle.search.specs.declared.SearchAnswer.TheVariants.{Found, None, Full}
use Rattle.rules.specs.declared.refusal.Refusal.{Refusal}
use Rattle.search.specs.Search.{Searched}
use Rattle.reader.specs.declared.ParseError.{ParseError}
use Rattle.reader.specs.Parsing.{said_parsed, Parses}
use Rattle.nodes_out.specs.declared.Listed.{Listed}
use Rattle.nodes_out.specs.declared.Done.{Done}
use Rattle.nodes_out.specs.declared.Read.{Read}
use Rattle.nodes_out.specs.Columns.{node_cols, fields}

-- "table room C 1 to 4,096 formulas"
abbrev pub room : ℕ
room = most_room

-- the number kept, 0 at a refusal
abbrev pub kept_of : Result SearchAnswer Refusal → ℕ
kept_of (Ok (Found root n)) = n.kept
kept_of (Ok (None n)) = n.kept
kept_of (Ok (Full size n)) = n.kept
kept_of (Err refusal) = 0

-- nodes, over what was there before
abbrev pub put_over : Listed → List Node → List Node
put_over l ns = take l.count l.nodes ++ drop l.count ns

-- there is room for them in the array and in a list
abbrev pub ListFits : Listed → List Node → Type 0
ListFits l ns = (l.count ≤ length l.nodes) × (l.count ≤ length ns)

-- for whatever list of n nodes is lent: there is room for the kept ones, and with these put over its first places it is as the search has to leave it
abbrev pub Works : Input → ℕ → List ℕ → Done → List ℕ → Type 0
Works i n old d new =
    (ns : List Node) → length ns ≡ n
    → ListFits d.listed ns × Searched i (node_cols ns old) d.answer (node_cols (put_over d.listed ns) new)

-- ---- the formula reader

-- the number of nodes, 0 at a refusal
abbrev pub count_in : Result ℕ ParseError → ℕ
count_in (Ok n) = n
count_in (Err e) = 0

-- for whatever list of n nodes is lent: there is room for the formula's, and with these put over its first places it is as the reader has to leave it
abbrev pub ReadIn : List ℕ → List ℕ → ℕ → Read → Type 0
ReadIn file text n d =
    (ns : List Node) → length ns ≡ n
    → ListFits d.listed ns × Parses file text (fields ns) (fields (put_over d.listed ns)) (said_parsed d.answer)
