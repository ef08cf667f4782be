-- The words of `out` mean what they say: `out` has 8 words where 0 is returned, so each word that the answer names can be read back, and the search's
-- own promises hold of the answer.
-- Assumes nothing.
use mathlib.Core.Path.{◌≡◌, refl, sym, ap, ◌∙◌, subst}
use mathlib.Core.Logic.{inl, inr}
use Rattle.std.specs.Prelude.{Ok}
use mathlib.Core.List.{List, [], ◌∷◌}
use Prim.Native.Nat.{ℕ, ◌≤◌}
use native.Mathlib.Nat.{lt_of_not-le}
use native.Mathlib.Decide.{dec_le}
use native.Mathlib.Omega.{arith}
use lib.ListN.{length, drop, get_or}
use Rattle.rules.specs.Refusals.{Decided}
use Rattle.walk.specs.Input.{Input}
use Rattle.search.specs.declared.SearchAnswer.{SearchAnswer}
use Rattle.search.specs.declared.SearchAnswer.TheVariants.{Found, None, Full}
use Rattle.table.specs.Slices.{Cols}
use Rattle.search.specs.Search.{Searched}
use Rattle.search.proofs.Promises.{search-found-smallest, search-none-means-none, search-full-needs-room, search-tried-is-position, search-tried-adds-up}
use Rattle.out.specs.Out.{long_words, written}
use Rattle.out_search.specs.Search.{search_words, out_search_rows}
use Rattle.out_search.specs.Promises.{OutSays, SearchMeans}

-- where nothing is refused `out` has its 16 words
passed-room : (i : Input) (t : Cols) (old : List ℕ) → Decided (out_search_rows i t old) 0 → long_words ≤ length old
unfolding Decided
passed-room i t old (inl d) = absurd (omega (arith, d.1))
passed-room i t old (inr (a, inl d)) = absurd (omega (arith, d.1))
passed-room i t old (inr (a, inr (b, inl d))) = absurd (omega (arith, d.1))
passed-room i t old (inr (a, inr (b, inr (c, d)))) = elim (dec_le long_words (length old)) [ yes h ↦ h | no h ↦ absurd (c (lt_of_not-le h)) ]

-- a list of 9 words and more, word by word
abbrev nine : List ℕ → List ℕ
nine l =
    get_or l 0 0 ∷ get_or l 1 0 ∷ get_or l 2 0 ∷ get_or l 3 0 ∷ get_or l 4 0 ∷ get_or l 5 0 ∷ get_or l 6 0 ∷ get_or l 7 0 ∷ get_or l 8 0 ∷ drop 9 l

by_word : (l : List ℕ) → long_words ≤ length l → l ≡ nine l
by_word [] h = absurd (omega arith)
by_word (a ∷ []) h = absurd (omega arith)
by_word (a ∷ b ∷ []) h = absurd (omega arith)
by_word (a ∷ b ∷ c ∷ []) h = absurd (omega arith)
by_word (a ∷ b ∷ c ∷ d ∷ []) h = absurd (omega arith)
by_word (a ∷ b ∷ c ∷ d ∷ e ∷ []) h = absurd (omega arith)
by_word (a ∷ b ∷ c ∷ d ∷ e ∷ f ∷ []) h = absurd (omega arith)
by_word (a ∷ b ∷ c ∷ d ∷ e ∷ f ∷ g ∷ []) h = absurd (omega arith)
by_word (a ∷ b ∷ c ∷ d ∷ e ∷ f ∷ g ∷ i ∷ []) h = absurd (omega arith)
by_word (a ∷ b ∷ c ∷ d ∷ e ∷ f ∷ g ∷ i ∷ j ∷ l) h = refl

-- two of the three cases are not the third
one-two : ◌≡◌ {A = ℕ} 1 2 → ⊥
one-two e = omega arith

one-three : ◌≡◌ {A = ℕ} 1 3 → ⊥
one-three e = omega arith

two-three : ◌≡◌ {A = ℕ} 2 3 → ⊥
two-three e = omega arith

module _ (i : Input) (t u : Cols) (l : List ℕ) where
  words-say : (a : SearchAnswer) → Searched i t (Ok a) u → OutSays i t u (written (search_words a) (nine l))
  words-say (Found root n) w = record {
    one_of = inl refl;
    when-found = λ e. (refl, search-tried-is-position i t u (Ok (Found root n)) w, search-tried-adds-up i t u (Ok (Found root n)) w, search-found-smallest i t u root n w);
    when-none = λ e. absurd (one-two e);
    when-full = λ e. absurd (one-three e);
  }
  words-say (None n) w = record {
    one_of = inr (inl refl);
    when-found = λ e. absurd (one-two (sym e));
    when-none = λ e. (search-tried-is-position i t u (Ok (None n)) w, omega (arith, search-tried-adds-up i t u (Ok (None n)) w), (search-none-means-none i t u n w).2);
    when-full = λ e. absurd (two-three e);
  }
  words-say (Full size n) w = record {
    one_of = inr (inr refl);
    when-found = λ e. absurd (one-three (sym e));
    when-none = λ e. absurd (two-three (sym e));
    when-full = λ e. (search-tried-is-position i t u (Ok (Full size n)) w, search-tried-adds-up i t u (Ok (Full size n)) w, search-full-needs-room i t u size n w);
  }

pub search-means : SearchMeans
search-means i t old u new w =
    let h = passed-room i t old w.number in
    let (a, s, e) = w.passed refl in
    subst (OutSays i t u) (sym (e ∙ ap (written (search_words a)) (by_word old h))) (words-say i t u old a s)
