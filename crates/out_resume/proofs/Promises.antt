-- The promises of the search in slices over the words of a state: a state that a call leaves comes back from its words, and so the core's own promises hold.
-- Assumes nothing.
use mathlib.Core.Path.{◌≡◌, refl, sym, ap, ◌∙◌, subst}
use mathlib.Core.Logic.{inl, inr}
use mathlib.Core.List.{List, [], ◌∷◌}
use Prim.Native.Nat.{ℕ, ◌+◌, ◌≤◌, ◌<◌}
use native.Mathlib.Nat.{lt_of_not-le}
use native.Mathlib.Decide.{ℕ_discrete, dec_le}
use native.Mathlib.Omega.{arith}
use lib.ListN.{length}
use Rattle.rules.specs.Refusals.{Decided}
use Rattle.rules.proofs.Refusals.{decided-unique}
use Rattle.walk.specs.Walk.{found, none, full}
use Rattle.walk.specs.Input.{Input}
use Rattle.walk.specs.Cut.{Cut, more, over}
use Rattle.walk.specs.Kept.{begun, go_on}
use Rattle.checks.specs.Promises.{RoomThere}
use Rattle.table.specs.Slices.{Cols}
use Rattle.std.specs.Prelude.{Ok}
use Rattle.state.specs.declared.State.{State}
use Rattle.state.specs.Ends.{end_number, Ours}
use Rattle.turns.specs.Standing.{state_at}
use Rattle.turns.specs.Turns.{StateIn}
use Rattle.slices.specs.Slices.{fresh_state, StandsAt}
use Rattle.slices.specs.Resume.{Called}
use Rattle.slices.proofs.Slicing.{fresh-stands, call-stands, stands-unique, grown-by-budget, end-repeats}
use Rattle.out.specs.Out.{written}
use Rattle.state_words.specs.Words.{state_words, state_read, end_read}
use Rattle.state_words.specs.Written.{state_short, state_over, StateDone}
use Rattle.state_words.proofs.Back.{comes_back, state-comes-back}
use Rattle.out_resume.specs.Resume.{told_words, out_resume_rows, ResumeDone}
use Rattle.out_resume.specs.Promises.{WordsStand, FreshWordsStand, WordsMeant, ResumeMeans, ResumeUnique, EndWordsRepeat, ResumeSafe, NumberUnique}

long-enough : (words : List ℕ) → (length words < state_words → ⊥) → state_words ≤ length words
long-enough words f = elim (dec_le state_words (length words)) [ yes h ↦ h | no h ↦ absurd (f (lt_of_not-le h)) ]

-- ---- a fresh state

fresh-long : (old : List ℕ) (new : List ℕ) → StateDone fresh_state old 0 new → state_words ≤ length old
unfolding Decided
fresh-long old new d = long-enough old (λ g. go g d.number)
  where
    go : length old < state_words → Decided (state_short old ∷ []) 0 → ⊥
    go g (inl p) = omega (arith, p.1)
    go g (inr p) = p.0 g

pub fresh-words-stand : FreshWordsStand
fresh-words-stand i ok t old new d =
    let p = d.passed refl in
    let e : state_read new ≡ fresh_state = ap state_read p.1 ∙ state-comes-back fresh_state old (fresh-long old new d) tt p.0 in
    subst (λ (s : State). StandsAt i t 0 s t) (sym e) (fresh-stands i ok t)

-- ---- a call that answers

module _ (i : Input) (t : Cols) (budget : ℕ) (words old : List ℕ) (t' : Cols) (words' new : List ℕ) (d : ResumeDone i t budget words old 0 t' words' new) where
  words_long : state_words ≤ length words
  unfolding Decided
  words_long = long-enough words (λ g. go g d.number)
    where
      go : length words < state_words → Decided (out_resume_rows i t budget words old) 0 → ⊥
      go g (inl p) = omega (arith, p.1)
      go g (inr (_, inl p)) = omega (arith, p.1)
      go g (inr (_, inr (_, inl p))) = omega (arith, p.1)
      go g (inr (_, inr (_, inr (_, inl p)))) = omega (arith, p.1)
      go g (inr (_, inr (_, inr (_, inr (_, inl p))))) = omega (arith, p.1)
      go g (inr (_, inr (_, inr (_, inr (_, inr (p, _)))))) = p g

  abbrev after : State
  after = (d.passed refl).0

  called : Called i t budget (state_read words) (Ok after) t'
  called = (d.passed refl).1

  read_back : state_read words' ≡ record { size = after.size; at = after.at; counts = after.counts; end = end_read (end_number after.end); root = after.root }
  read_back = let p = d.passed refl in ap state_read p.3 ∙ comes_back after words words_long p.2

  passes_on : StateIn i (record { size = after.size; at = after.at; counts = after.counts; end = end_read (end_number after.end); root = after.root })
  passes_on =
      let p = called.outcome.passes in
      record { kept_in = p.kept_in; kept-tried = p.kept-tried; size_in = p.size_in; left_in = p.left_in; right-in = p.right-in; operator-in = p.operator-in }

  safe : StateIn i (state_read words') × ((state_read words').counts.tried ≤ (state_read words).counts.tried + budget)
  safe = (
    subst (λ (s : State). StateIn i s) (sym read_back) passes_on,
    subst (λ (s : State). s.counts.tried ≤ (state_read words).counts.tried + budget) (sym read_back) called.outcome.spends,
  )

  -- where the words stand at a count

  module _ (t₀ : Cols) (n : ℕ) (r : RoomThere i t₀) (w : WordsStand i t₀ n words t) where
    after-stands : StandsAt i t₀ (n + budget) after t'
    after-stands = call-stands i t₀ t budget n (state_read words) after t' r w called

    end-ours : (c : Cut (List ℕ)) → Ours (state_at i c).end
    end-ours (more s j k m) = tt
    end-ours (over (found root) k m) = tt
    end-ours (over none k m) = tt
    end-ours (over (full s) k m) = tt

    same-state : state_read words' ≡ after
    same-state =
        let p = d.passed refl in
        let o : Ours after.end = subst (λ (s : State). Ours s.end) (sym after-stands.is) (end-ours (go_on i (n + budget) (begun i))) in
        ap state_read p.3 ∙ state-comes-back after words words_long o p.2

    words-stand : WordsStand i t₀ (n + budget) words' t'
    words-stand = subst (λ (s : State). StandsAt i t₀ (n + budget) s t') (sym same-state) after-stands

    means : WordsMeant i t₀ (n + budget) words' old t' new
    means =
        let g = grown-by-budget i t₀ (n + budget) (state_read words') t' words-stand in
        record {
          stands = words-stand;
          told = (d.passed refl).4 ∙ ap (λ (s : State). written (told_words s) old) (sym same-state);
          grown = g.0;
          holds = g.1;
        }

pub resume-safe : ResumeSafe
resume-safe i t budget words old t' words' new d = safe i t budget words old t' words' new d

pub resume-means : ResumeMeans
resume-means i t₀ t budget n words old t' words' new r w d = means i t budget words old t' words' new d t₀ n r w

pub end-words-repeat : EndWordsRepeat
end-words-repeat i t₀ t budget n words old t' words' new r w h d =
    let e = end-repeats i t₀ t budget n (state_read words) (after i t budget words old t' words' new d) t' r w h (called i t budget words old t' words' new d) in
    (same-state i t budget words old t' words' new d t₀ n r w ∙ e.0, e.1)

-- ---- two results

pub number-unique : NumberUnique
number-unique i t budget words old k l u v x y p q a b = decided-unique (out_resume_rows i t budget words old) k l a.number b.number

pub resume-done-unique : ResumeUnique
resume-done-unique i t₀ t budget n words old r w k l u v x y p q a b =
    let o = number-unique i t budget words old k l u v x y p q a b in
    elim (ℕ_discrete k 0) [
      | yes e ↦
          let c = a.passed e in
          let d = b.passed (sym o ∙ e) in
          let s = stands-unique i t₀ (n + budget) c.0 d.0 u v (call-stands i t₀ t budget n (state_read words) c.0 u r w c.1)
          (call-stands i t₀ t budget n (state_read words) d.0 v r w d.1) in (
            o,
            s.1,
            c.3 ∙ ap (λ (z : State). state_over z words) s.0 ∙ sym d.3,
            c.4 ∙ ap (λ (z : State). written (told_words z) old) s.0 ∙ sym d.4,
          )
      | no e ↦
          let c = a.refused e in
          let d = b.refused (λ z. e (o ∙ z)) in
          (o, c.0 ∙ sym d.0, c.1 ∙ sym d.1, c.2 ∙ sym d.2)
    ]
