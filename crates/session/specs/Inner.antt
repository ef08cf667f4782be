-- How the private tests of session data speak of what they found. No public contract cites this file, so nothing here has to be believed.
-- Assumes nothing.
use Rattle.std.specs.Prelude.{Bool, true, false, List, ℕ, ◌+◌, ◌*◌, ◌<◌, ◌≤◌, get_or}
use Rattle.words.specs.Word.{Wf, At}

-- all of the first n are at most so much, or one is not
abbrev pub AllUpTo : List ℕ → ℕ → ℕ → Bool → Type 0
AllUpTo list n most true = (i : ℕ) → i < n → get_or list i 0 ≤ most
AllUpTo list n most false = (i : ℕ) × (i < n) × (most < get_or list i 0)

-- a word that was recorded at length n; as one word, so that the search takes it as it stands
unfoldable pub WordClear : ℕ → ℕ → Type 0
WordClear n w = Wf n w

-- all of the m words from `from` on are well formed at length n, or one has a bit at or above n
abbrev pub Clear : List ℕ → ℕ → ℕ → ℕ → Bool → Type 0
Clear words from m n true = (p : ℕ) → p < m → Wf n (get_or words (from + p) 0)
Clear words from m n false = (p : ℕ) × (p < m) × (b : ℕ) × (n ≤ b) × At (get_or words (from + p) 0) b

abbrev pub AllClear : List ℕ → List ℕ → ℕ → ℕ → Bool → Type 0
AllClear lengths words r m true = (i : ℕ) → i < r → Clear words (i * m) m (get_or lengths i 0) true
AllClear lengths words r m false = (i : ℕ) × (i < r) × Clear words (i * m) m (get_or lengths i 0) false
