-- What is said of a typed formula that is refused at a byte of it. Every line ends in a newline.
-- Assumes nothing.
use Rattle.std.specs.Prelude.{List, [], ◌∷◌, ◌++◌, ℕ, replicate}
use Rattle.line.specs.Line.{refused_at_line}
use Rattle.writing.specs.Writing.{newline}

-- `^`, and the line's end
abbrev pub caret : List ℕ
caret = 94 ∷ 10 ∷ []

-- the refusal with its offset under a caret that points at the byte: what was typed, a line with as many spaces as the offset and a caret, and the refusal
abbrev pub pointed_lines : List ℕ → ℕ → ℕ → List ℕ
pointed_lines typed at number = (((typed ++ newline) ++ replicate at 32) ++ caret) ++ refused_at_line number at
