-- How the reader's private functions speak of what they found. No public contract cites this file, so nothing here has to be believed.
-- Assumes nothing.
use Rattle.std.specs.Prelude.{◌≡◌, Bool, true, false, ◌&&◌, List, [], ◌∷◌, ◌++◌, ℕ, zero, suc, ◌+◌, ◌*◌, ◌≤◌, leb, length, get_or, take, drop, Result, Ok, Err}
use Rattle.file.specs.declared.Settings.{Settings as Tail}
use Rattle.file.specs.declared.Parts.{Parts as Numbers}
use Rattle.reading.specs.declared.Broken.{Broken}
use Rattle.file.specs.Format.{Parts}
use Rattle.reading.specs.Reading.{section, Got, got, bad, at_end}
use Rattle.names.specs.Names.{name_bytes}
use Rattle.file.specs.Offence.{number, Settings, settings, whole_file}

-- ---- settings, and the whole

abbrev pub tail_of : Got Settings → Result Tail Broken
tail_of (got s next) = Ok (record { constants = s.constants; bound = s.bound })
tail_of (bad o) = Err (record { 0 = o })

abbrev pub tail_at : List ℕ → ℕ → Got Settings
tail_at file at = at_end (settings file at) file

abbrev pub numbers_of : Parts → Numbers
numbers_of p =
    record {
      sessions = length p.sessions;
      propositions = length p.names;
      names = length (section name_bytes p.names);
      unary = length p.unary;
      binary = length p.binary;
      constants = p.constants;
      bound = p.bound;
    }

abbrev pub judged : Got Parts → Result Numbers Broken
judged (got p next) = Ok (numbers_of p)
judged (bad o) = Err (record { 0 = o })

abbrev pub judged_of : List ℕ → Result Numbers Broken
judged_of file = judged (whole_file file)

-- ---- the room

-- whether slices of these lengths have room for r sessions, n words, u codes and v codes
pub record Enough (marks lengths words unary binary r n u v : ℕ) (b : Bool) : Type 0 where
  pub fits : b ≡ true → (r ≤ marks) × (r ≤ lengths) × (n ≤ words) × (u ≤ unary) × (v ≤ binary)
  pub lacks : b ≡ false → (leb r marks && (leb r lengths && (leb n words && (leb u unary && leb v binary)))) ≡ false

-- ---- the writing pass

-- n elements, each `stride` after the one before
unfoldable pub strided : ℕ → ℕ → List ℕ → List ℕ
strided stride zero bytes = []
strided stride (suc n) bytes = get_or bytes 0 0 ∷ strided stride n (drop stride bytes)

-- m words
unfoldable pub words_at : ℕ → List ℕ → List ℕ
words_at zero bytes = []
words_at (suc m) bytes = number (take 8 bytes) ∷ words_at m (drop 8 bytes)

-- the words of n sessions
unfoldable pub session_words : ℕ → ℕ → List ℕ → List ℕ
session_words m zero bytes = []
session_words m (suc n) bytes = words_at m (drop 2 bytes) ++ session_words m n (drop (2 + 8 * m) bytes)
