-- How the judge's private functions speak of what they found. No public contract cites this file, so nothing here has to be believed.
-- Assumes nothing.
use Rattle.std.specs.Prelude.{Bool, cond, ℕ, eqb}
use Rattle.names.specs.Names.{is_letter, is_name_byte}

-- the byte number i of a name
abbrev pub fits_at : ℕ → ℕ → Bool
fits_at i b = cond (eqb i 0) (is_letter b) (is_name_byte b)
