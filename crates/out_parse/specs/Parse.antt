-- scarfpylon_parse: what it returns and leaves in the lent slices and in `out`, for every input.
-- Assumes nothing.
use Rattle.std.specs.Prelude.{◌≡◌, List, [], ◌∷◌, Result, ℕ, ◌<◌, length}
use Rattle.reader.specs.declared.ParseError.{ParseError}
use Rattle.reader.specs.Parsing.{ParseRow, Decides, number_row, Columns, broken_names, long_text, no_formula, unknown_name, large_formula, short_node_room, said_parsed, Taken}
use Rattle.out.specs.Out.{out_words, written, returned_of, said_words}

module _ (names text : List ℕ) (lent : Columns) (old : List ℕ) where
  -- "3 (.. out below 8)"; which of the rows with one number is given first can't be seen
  abbrev pub short_out : ParseRow
  short_out = number_row 3 (length old < out_words)

  -- "8, 12, 11, 13, 12, then 3 (the shortest of the four slices below the size; out below 8)"
  abbrev pub out_parse_rows : List ParseRow
  out_parse_rows =
      broken_names names text lent
      ∷ long_text names text lent
      ∷ no_formula names text lent
      ∷ unknown_name names text lent
      ∷ large_formula names text lent
      ∷ short_out
      ∷ short_node_room names text lent
      ∷ []

  -- the rows decide, and where none is given the four slices hold what the reader writes; "a refusal writes nothing"; else "out[0] = nodes written, the
  -- root last"
  pub record ParseDone (returned : ℕ) (lent' : Columns) (new : List ℕ) : Type 0 where
    pub parsed : Result ℕ ParseError
    pub answer : Decides out_parse_rows (Taken names text lent lent') (said_parsed parsed)
    pub refused : ((said_parsed parsed).number ≡ 0 → ⊥) → lent' ≡ lent
    pub number : returned ≡ returned_of (said_parsed parsed)
    pub words : new ≡ written (said_words (said_parsed parsed)) old
