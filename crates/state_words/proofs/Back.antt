-- A state comes back from its words: each word that is written in order is read at its place, and what is read of it is what was written.
-- Assumes nothing.
use mathlib.Core.Path.{◌≡◌, refl, ap, ◌∙◌}
use mathlib.Core.Bool.{Bool, true, false}
use mathlib.Core.List.{List, [], ◌∷◌}
use Prim.Native.Nat.{ℕ, zero, suc, ◌+◌, ◌%◌, ◌≤◌, ◌<◌}
use native.Mathlib.Omega.{arith}
use lib.Dec.{lit<}
use lib.ListN.{length, get_or, set, length-set}
use lib.Seq.{get_or-set_same, get_or-set_other}
use Rattle.state.specs.declared.State.{State}
use Rattle.state.specs.declared.End.{End}
use Rattle.state.specs.Ends.{end_number, Ours}
use Rattle.out.specs.Out.{written, in_order}
use Rattle.state_words.specs.Words.{state_words, mark, marked, end_read, words_of_state, state_read, Narrow}
use Rattle.state_words.specs.Written.{state_over}
use Rattle.state_words.specs.Promises.{StateComesBack}

-- ---- words that are written in order

stays-before : (vs : List ℕ) (a : ℕ) (words : List ℕ) (j : ℕ) → j < a → get_or (written (in_order a vs) words) j 0 ≡ get_or words j 0
stays-before [] a words j h = refl
stays-before (v ∷ vs) a words j h = stays-before vs (suc a) (set words a v) j (omega arith) ∙ get_or-set_other words a j v 0 (λ e. omega arith)

stands-there : (vs : List ℕ) (a : ℕ) (words : List ℕ) (j : ℕ) → a + length vs ≤ length words → j < length vs → get_or (written (in_order a vs) words) (a + j) 0 ≡ get_or vs j 0
stands-there [] a words j h l = absurd (omega arith)
stands-there (v ∷ vs) a words zero h l =
    ap (λ (n : ℕ). get_or (written (in_order (suc a) vs) (set words a v)) n 0) (let e : a + 0 ≡ a = omega arith in e)
    ∙ stays-before vs (suc a) (set words a v) a (omega arith)
    ∙ get_or-set_same words a v 0 (omega arith)
stands-there (v ∷ vs) a words (suc j) h l =
    ap (λ (n : ℕ). get_or (written (in_order (suc a) vs) (set words a v)) n 0) (let e : a + suc j ≡ suc a + j = omega arith in e)
    ∙ stands-there vs (suc a) (set words a v) j (omega (arith, length-set words a v)) (omega arith)

-- ---- what is read of what is written

marked-back : (b : Bool) → marked (mark b) ≡ b
marked-back true = refl
marked-back false = refl

end_back : (e : End) → Ours e → end_read (end_number e) ≡ e
end_back End.More o = refl
end_back End.Found o = refl
end_back End.None o = refl
end_back End.Full o = refl
end_back (End.Other n) o = absurd o

low-8 : (n : ℕ) → n < 256 → n % 256 ≡ n
low-8 n h = omega arith

low-16 : (n : ℕ) → n < 65536 → n % 65536 ≡ n
low-16 n h = omega arith

module _ (s : State) (words : List ℕ) (h : state_words ≤ length words) where
  at : (j : ℕ) → j < 16 → get_or (state_over s words) (0 + j) 0 ≡ get_or (words_of_state s) j 0
  at j l = stands-there (words_of_state s) 0 words j h l

pub comes_back : (s : State) (words : List ℕ) → state_words ≤ length words → Narrow s.root → state_read (state_over s words)
    ≡ record { size = s.size; at = s.at; counts = s.counts; end = end_read (end_number s.end); root = s.root }
comes_back s words h n =
    rw (
      at s words h 0 (lit< tt),
      at s words h 1 (lit< tt),
      at s words h 2 (lit< tt),
      at s words h 3 (lit< tt),
      at s words h 4 (lit< tt),
      at s words h 5 (lit< tt),
      at s words h 6 (lit< tt),
      at s words h 7 (lit< tt),
      at s words h 8 (lit< tt),
      at s words h 9 (lit< tt),
      at s words h 10 (lit< tt),
      at s words h 11 (lit< tt),
      at s words h 12 (lit< tt),
      at s words h 13 (lit< tt),
      marked-back s.at.second,
      low-8 s.root.code n.code,
      low-16 s.root.left.0 n.left,
      low-16 s.root.right.0 n.right,
      low-8 s.root.size n.size,
    )

pub state-comes-back : StateComesBack
state-comes-back s words h o n = rw (comes_back s words h n, end_back s.end o)
