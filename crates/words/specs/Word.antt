-- A word as a row of bits, and what it is for a word to be the characteristic sequence of a reading.
-- Assumes nothing.
use Rattle.std.specs.Prelude.{◌≡◌, ◌↔◌, ℕ, ◌/◌, ◌%◌, ◌^◌, ◌≤◌, ◌<◌, max}
use Rattle.words.specs.Ltlf.{Reading}

-- "a 64-bit word": the bits that it has; "snapshots per session 0 to 64": also the largest length
abbrev pub width : ℕ
width = 64

-- the bit of x at place i, 0 or 1
unfoldable pub bit : ℕ → ℕ → ℕ
bit x i = x / 2 ^ i % 2

-- "bit i is snapshot i": the reading of a word
abbrev pub At : ℕ → Reading
At x i = bit x i ≡ 1

-- "It is well formed if n is at most 64 and no bit at or above n is set"
pub record Wf (n x : ℕ) : Type 0 where
  pub short : n ≤ width
  pub clear : (i : ℕ) → n ≤ i → bit x i ≡ 0

-- a word that was recorded has a bit for each snapshot
abbrev pub WfRecorded : ℕ → ℕ → Type 0
WfRecorded n x = Wf n x

-- the places of a formula's word at length n: one for each snapshot, and the first at every length. "At length 0, bit 0 of a formula's word then is its
-- acceptance" (document 02, E4)
abbrev pub places : ℕ → ℕ
places n = max n 1

-- a word that was computed has a bit for each of these places
abbrev pub WfComputed : ℕ → ℕ → Type 0
WfComputed n x = Wf (places n) x

-- x is the characteristic sequence of f at length n: it is well formed, and its bit at each place is set just where f holds
pub record Means (n x : ℕ) (f : Reading) : Type 0 where
  pub wf : WfComputed n x
  pub holds : (i : ℕ) → i < places n → At x i ↔ f i
