-- The first offending byte of a file, by the rule of reading's `Reading`, item by item in the order of the format (sessions and codes: sections'
-- `Sections`). The format itself is in `Format`, and proofs/Theorems.antt and proofs/Cuts.antt tie the two together: what passes is exactly a good file,
-- with its parts; a good file cut short offends at the length left, and with more after it at its own length.
-- Assumes nothing.
use Rattle.std.specs.Prelude.{List, ℕ, length}
use Rattle.sections.specs.Numbers.{file_propositions}
use Rattle.rules.specs.Limits.{most_size}
use Rattle.reading.specs.Reading.{Got, got, Reader, and_then, byte, within, at_end}
use Rattle.names.specs.Names.{names_up_to}
unfoldable pub use Rattle.sections.specs.Sections.{number, eight_bytes, session}
pub use Rattle.sections.specs.Sections.{all_sessions, is_unary, is_binary, code, all_codes}
use Rattle.file.specs.Format.{Parts}

-- ---- settings

pub record Settings : Type 0 where
  pub constants : ℕ
  pub bound : ℕ

-- "settings (count 2: constants mark, B)"
unfoldable pub settings : Reader Settings
settings file at =
    and_then (byte (within 2 2) file at) (λ _ a.
    and_then (byte (within 0 1) file a) (λ constants b.
    and_then (byte (within 1 most_size) file b) (λ bound next.
    got (record { constants = constants; bound = bound }) next)))

-- ---- the whole

unfoldable pub parts : Reader Parts
parts file at =
    and_then (names_up_to file_propositions file at) (λ ns a.
    and_then (all_sessions (length ns) file a) (λ ss b.
    and_then (all_codes is_unary file b) (λ us c.
    and_then (all_codes is_binary file c) (λ bs d.
    and_then (settings file d) (λ s next.
    got (record { names = ns; sessions = ss; unary = us; binary = bs; constants = s.constants; bound = s.bound }) next)))))

-- a session file
abbrev pub whole_file : List ℕ → Got Parts
whole_file file = at_end (parts file 0) file
