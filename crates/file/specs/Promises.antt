-- What is promised of the reading of a file. Proved under these names in proofs/: accepts-good, refuses-others, bytes-read-back, one-reading (Theorems), cut-short,
-- first-extra (Cuts), largest, some-largest (Largest), stays-refused, refused-alike (Alike).
-- Assumes nothing.
use Rattle.std.specs.Prelude.{◌≡◌, ◌↔◌, List, ◌∷◌, ◌++◌, ℕ, ◌+◌, ◌≤◌, ◌<◌, length, get_or, take}
use Rattle.reading.specs.Reading.{got, bad}
use Rattle.file.specs.Format.{Parts, file_bytes, Good, GoodFile}
use Rattle.file.specs.Offence.{whole_file}

-- ---- the good files

-- a list of bytes
abbrev pub Bytes : List ℕ → Type 0
Bytes l = (i : ℕ) → get_or l i 0 < 256

-- a byte string is read as parts exactly where it is the bytes of these parts, and they are good
abbrev pub AcceptsGood : Type 0
AcceptsGood = (file : List ℕ) → Bytes file → (p : Parts) → (whole_file file ≡ got p (length file)) ↔ (Good p × (file_bytes p ≡ file))

-- it is refused exactly where it is no good file
abbrev pub RefusesOthers : Type 0
RefusesOthers = (file : List ℕ) → Bytes file → ((o : ℕ) × (whole_file file ≡ bad o)) ↔ (GoodFile file → ⊥)

-- a writer's bytes, read back, give the parts
abbrev pub BytesReadBack : Type 0
BytesReadBack = (p : Parts) → Good p → whole_file (file_bytes p) ≡ got p (length (file_bytes p))

-- so a good file has one reading
abbrev pub OneReading : Type 0
OneReading = (p q : Parts) → Good p → Good q → file_bytes p ≡ file_bytes q → p ≡ q

-- "the file's length if it ends early": every good file, cut anywhere
abbrev pub CutShort : Type 0
CutShort = (p : Parts) → Good p → (k : ℕ) → k < length (file_bytes p) → whole_file (take k (file_bytes p)) ≡ bad k

-- "the first extra byte": every good file, with anything after it
abbrev pub FirstExtra : Type 0
FirstExtra = (p : Parts) → Good p → (b : ℕ) (more : List ℕ) → whole_file (file_bytes p ++ (b ∷ more)) ≡ bad (length (file_bytes p))

-- "the largest good file is 4,450 bytes": no good file is longer, and one is as long
abbrev pub most_file : ℕ
most_file = 4450

abbrev pub Largest : Type 0
Largest = (p : Parts) → Good p → length (file_bytes p) ≤ most_file

abbrev pub SomeLargest : Type 0
SomeLargest = (p : Parts) × Good p × (length (file_bytes p) ≡ most_file)

-- ---- refusals

-- a refusal at a byte that is there stays, whatever follows. So two files that agree on their first k bytes are refused alike wherever these k alone
-- are refused at one of them: where one byte offends, those up to and with that byte; where a name or a word does, those up to its end
abbrev pub StaysRefused : Type 0
StaysRefused = (file more : List ℕ) (o : ℕ) → whole_file file ≡ bad o → o < length file → whole_file (file ++ more) ≡ bad o

-- the bytes of the longest item: a name's length byte and 16 letters
abbrev pub longest_item : ℕ
longest_item = 17

-- whatever offends: agreement on everything before the offending byte and on so many bytes from it on, or as many as there are, is enough. An item of
-- several bytes (a name, a word) offends at its first, so agreement on that byte alone is too little
abbrev pub RefusedAlike : Type 0
RefusedAlike = (file other : List ℕ) (o : ℕ) → whole_file file ≡ bad o → take (o + longest_item) file ≡ take (o + longest_item) other → whole_file other ≡ bad o
