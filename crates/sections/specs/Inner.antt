-- How the private functions speak of what they found. No public contract cites this file, so nothing here has to be believed.
-- Assumes nothing.
use Rattle.std.specs.Prelude.{ℕ, length}
use Rattle.sections.specs.Sections.{FileSession}

abbrev pub nothing : {A : Type 0} → A → ℕ
nothing a = 0

abbrev pub word_count : FileSession → ℕ
word_count s = length s.words
