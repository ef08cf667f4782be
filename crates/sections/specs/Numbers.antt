-- The numbers of document 01 that bound the session file. They are the file's own: a later request raises the library's alone. The bound is the library's,
-- and the largest length is `width`, of `words`.
-- Assumes nothing.
use Rattle.std.specs.Prelude.{ℕ}

-- "sessions r 1 to 32"
abbrev pub file_sessions : ℕ
file_sessions = 32

-- "propositions m 1 to 16"
abbrev pub file_propositions : ℕ
file_propositions = 16
