-- What private functions of this crate promise each other. No public contract cites this.
-- Assumes nothing.
use Rattle.std.specs.Prelude.{◌≡◌, List, [], Result, ℕ}
use Rattle.reader.specs.declared.ParseError.{ParseError}
use Rattle.reader.specs.Parsing.{Columns, columns, said_parsed, Parses}
use Rattle.out.specs.Out.{returned_of}

abbrev pub ParseUnanswered : List ℕ → List ℕ → ℕ → Type 0
ParseUnanswered names text k =
    (p : Result ℕ ParseError) × (left : Columns) × Parses names text (columns [] [] [] []) left (said_parsed p) × (k ≡ returned_of (said_parsed p))
