-- The whole search: with a budget of more candidates than there are, the walk has ended, and the answer is the walk's.
-- Assumes nothing.
use mathlib.Core.Path.{◌≡◌, refl, sym, ap, ◌∙◌, subst}
use mathlib.Core.Logic.{◌⊎◌, inl, inr}
use mathlib.Core.List.{List, [], ◌∷◌, ◌++◌}
use Rattle.std.specs.Prelude.{Ok, Err}
use Prim.Native.Nat.{ℕ, ◌+◌, ◌<◌}
use native.Mathlib.Omega.{arith}
use Rattle.rules.specs.Refusals.{Row, Decided, refusal_number}
use Rattle.walk.specs.Walk.{found, none, full, WalkState, kept}
use Rattle.walk.specs.Input.{Input}
use Rattle.walk.specs.Cut.{Cut, more, over}
use Rattle.walk.specs.Kept.{begun, go_on}
use Rattle.walk.specs.Promises.{CutOf}
use Rattle.walk.proofs.Resume.{cut-resume}
use Rattle.checks.specs.Refusals.{search_rows}
use Rattle.checks.proofs.Passing.{search-passes, room-there}
use Rattle.state.specs.declared.State as value
use Rattle.turns.specs.Costs.{in_all}
use Rattle.turns.specs.Standing.{StandsIn}
use Rattle.slices.specs.Slices.{fresh_state, state_wrong}
use Rattle.slices.specs.Resume.{Resumed, Advanced}
use Rattle.slices.proofs.Slicing.{fresh-passes, fresh-stands}
use Rattle.search.specs.Table.{Cols, table_over}
use Rattle.search.specs.Search.{Searched}
use Rattle.search.specs.Inner.{end_of, search_answer_of}

-- a row at the end decides only where no row before it does
decided-last : (rows : List Row) (row : Row) (k : ℕ) → Decided (rows ++ (row ∷ [])) k → Decided rows k ⊎ (Decided rows 0 × row.given)
unfolding Decided
decided-last [] row k (inl d) = inr (refl, d.0)
decided-last [] row k (inr d) = inl d.1
decided-last (first ∷ rows) row k (inl d) = inl (inl d)
decided-last (first ∷ rows) row k (inr d) = elim (decided-last rows row k d.1) [ inl e ↦ inl (inr (d.0, e)) | inr e ↦ inr (inr (d.0, e.0), e.1) ]

module _ (i : Input) (t : Cols) where
  -- a fresh state is never refused, so the search's rows decide
  rows-decide : (k : ℕ) → Decided (search_rows i t ++ (state_wrong i fresh_state ∷ [])) k → Decided (search_rows i t) k
  rows-decide k d = elim (decided-last (search_rows i t) (state_wrong i fresh_state) k d) [
    | inl e ↦ e
    | inr e ↦ absurd (fresh-passes i (search-passes i t e.0) e.1)
  ]

  module _ {t' : Cols} {budget : ℕ} (enough : in_all < budget) where
    ends_as : (state : value.State) → Decided (search_rows i t) 0 → (c : Cut (List ℕ)) → CutOf i budget c → StandsIn i t c state t' → Searched i t (Ok (end_of state)) t'
    ends_as state d (more s j k n) (e, l, f) w = absurd (omega (arith, w.sound.tried, e))
    ends_as state d (over (found root) k n) (e, l) w =
        subst (λ (x : value.State). Searched i t (Ok (end_of x)) t') (sym w.is)
        (record { decided = d; outcome = (rw e refl, w.holds ∙ ap (λ (st : WalkState (List ℕ)). table_over (kept st) t) (sym e)) })
    ends_as state d (over none k n) (e, l) w =
        subst (λ (x : value.State). Searched i t (Ok (end_of x)) t') (sym w.is)
        (record { decided = d; outcome = (rw e refl, w.holds ∙ ap (λ (st : WalkState (List ℕ)). table_over (kept st) t) (sym e)) })
    ends_as state d (over (full s) k n) (e, l) w =
        subst (λ (x : value.State). Searched i t (Ok (end_of x)) t') (sym w.is)
        (record { decided = d; outcome = (rw e refl, w.holds ∙ ap (λ (st : WalkState (List ℕ)). table_over (kept st) t) (sym e)) })

    pub search-answers : (resumed : Resumed) → Advanced i t budget fresh_state resumed t' → Searched i t (search_answer_of resumed) t'
    search-answers (Ok state) w =
        let d = rows-decide 0 w.decided in
        let e : 0 + budget ≡ budget = omega arith in
        ends_as state d (go_on i budget (begun i)) (cut-resume i budget)
        (subst (λ (n : ℕ). StandsIn i t (go_on i n (begun i)) state t') e (w.outcome.runs t (room-there i t d) 0 (fresh-stands i (search-passes i t d) t)))
    search-answers (Err refusal) w = record { decided = rows-decide (refusal_number refusal) w.decided; outcome = w.outcome }

  pub size_fits : {t' : Cols} {budget : ℕ} (state : value.State) → Advanced i t budget fresh_state (Ok state) t' → state.size < 256
  size_fits state w = omega (arith, w.outcome.passes.size_in, (search-passes i t (rows-decide 0 w.decided)).bound-in)
