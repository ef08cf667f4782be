-- The promises of the search in slices, from its contract and the walk cut at a count (cut-resume, turns-add).
-- Assumes nothing.
use mathlib.Core.Path.{◌≡◌, refl, sym, ap, ◌∙◌, subst}
use mathlib.Core.Logic.{◌⊎◌, inl, inr}
use mathlib.Core.List.{List, [], ◌∷◌}
use Rattle.std.specs.Prelude.{Ok, Err}
use Prim.Native.Nat.{ℕ, ◌+◌, ◌≤◌, ◌<◌}
use native.Mathlib.Omega.{arith}
use lib.ListN.{length}
use Rattle.walk.specs.Walk.{found, none, full, WalkState, kept, tried}
use Rattle.walk.specs.Input.{Input, search}
use Rattle.walk.specs.Cut.{Cut, more, over}
use Rattle.walk.specs.Kept.{begun, go_on}
use Rattle.walk.specs.Promises.{CutOf}
use Rattle.walk.proofs.Resume.{cut-resume, turns-add}
use Rattle.table.specs.Slices.{Cols, table_over}
use Rattle.checks.specs.Promises.{RoomThere}
use Rattle.state.specs.declared.State as value
use Rattle.state.proofs.Passing.{in-passes}
use Rattle.turns.specs.Standing.{state_at, StandsIn}
use Rattle.turns.proofs.Settling.{turn-over}
use Rattle.slices.specs.Said.{walk_said}
use Rattle.slices.specs.Slices.{fresh_state, state_said, cut_said, more_said, StandsAt, state_wrong, resume_rows}
use Rattle.slices.specs.Resume.{resumed_number}
use Rattle.slices.specs.Slicing.{FreshStands, CallStands, StandsUnique, CallUnique, TellsCut, GrownByBudget, BudgetNone, EndsInTime, EndRepeats}
use Rattle.slices.specs.Slicing.{Turns, stop, turn, total, Each1, WholeByTurns, EnoughTurns, FreshPasses, LeftPasses, WithinBudget, CallGoes}
use Rattle.rules.specs.Refusals.{refusal_number}
use Rattle.rules.proofs.Refusals.{decided-unique, decided-not, refusal-one}
use Rattle.checks.proofs.Passing.{passes-whole}
use Rattle.slices.proofs.Calls.{fresh_in, fresh-stands-here, rows-state, rows-within}

pub fresh-stands : FreshStands
fresh-stands i ok t = fresh-stands-here i ok t

pub call-stands : CallStands
call-stands i t₀ t budget n state after t' r w c = c.outcome.runs t₀ r n w

pub stands-unique : StandsUnique
stands-unique i t₀ n a b t u v w = (v.is ∙ sym w.is, v.holds ∙ sym w.holds)

pub call-unique : CallUnique
call-unique i t₀ t budget n state (Ok a) (Ok b) t' u' r w c d =
    let s = stands-unique i t₀ (n + budget) a b t' u' (c.outcome.runs t₀ r n w) (d.outcome.runs t₀ r n w) in (ap Ok s.0, s.1)
call-unique i t₀ t budget n state (Ok a) (Err k) t' u' r w c d =
    absurd (let e = decided-unique (resume_rows i t budget state) 0 (refusal_number k) c.decided d.decided in omega (arith, e, d.outcome.0))
call-unique i t₀ t budget n state (Err k) (Ok b) t' u' r w c d =
    absurd (let e = decided-unique (resume_rows i t budget state) (refusal_number k) 0 c.decided d.decided in omega (arith, e, c.outcome.0))
call-unique i t₀ t budget n state (Err k) (Err l) t' u' r w c d =
    (ap Err (refusal-one k l (decided-unique (resume_rows i t budget state) (refusal_number k) (refusal_number l) c.decided d.decided)), c.outcome.1 ∙ sym d.outcome.1)

said_at : (i : Input) (c : Cut (List ℕ)) → state_said (state_at i c) ≡ cut_said c
said_at i (more s j k n) = refl
said_at i (over (found root) k n) = refl
said_at i (over none k n) = refl
said_at i (over (full s) k n) = refl

said_in : (i : Input) (t₀ : Cols) (c : Cut (List ℕ)) (state : value.State) (t : Cols) → StandsIn i t₀ c state t → state_said state ≡ cut_said c
said_in i t₀ c state t w = ap state_said w.is ∙ said_at i c

pub tells-cut : TellsCut
tells-cut i t₀ n state t w = said_in i t₀ (go_on i n (begun i)) state t w

-- MORE, or the whole walk's end
abbrev Either : Input → ℕ → value.State → Type 0
Either i n state =
    ((state.counts.tried ≡ n) × (n < tried (search i)) × (state_said state ≡ more_said state.counts)) ⊎ ((state_said state ≡ walk_said (search i)) × (tried (search i) ≤ n))

either : (i : Input) (t₀ : Cols) (n : ℕ) (state : value.State) (t : Cols) (c : Cut (List ℕ)) → CutOf i n c → StandsIn i t₀ c state t → Either i n state
either i t₀ n state t (more s j k m) (e, l, f) w =
    inl (ap (λ (x : value.State). x.counts.tried) w.is ∙ e, l, subst (λ (x : value.State). state_said x ≡ more_said x.counts) (sym w.is) refl)
either i t₀ n state t (over e k m) (f, l) w = inr (said_in i t₀ (over e k m) state t w ∙ ap walk_said (sym f), subst (λ (st : WalkState (List ℕ)). tried st ≤ n) (sym f) l)

pub grown-by-budget : GrownByBudget
grown-by-budget i t₀ n state t w = (either i t₀ n state t (go_on i n (begun i)) (cut-resume i n) w, w.holds)

pub budget-none : BudgetNone
budget-none i t₀ t n state after t' r w c =
    stands-unique i t₀ n after state t' t (subst (λ (m : ℕ). StandsAt i t₀ m after t') (let e : n + 0 ≡ n = omega arith in e) (call-stands i t₀ t 0 n state after t' r w c)) w

pub ends-in-time : EndsInTime
ends-in-time i t₀ n state t w h = elim (either i t₀ n state t (go_on i n (begun i)) (cut-resume i n) w) [ inl a ↦ absurd (omega (arith, a.1)) | inr b ↦ b.0 ]

-- at the end the walk stays where it is
stays-there : (i : Input) (n budget : ℕ) → tried (search i) ≤ n → (c : Cut (List ℕ)) → go_on i n (begun i) ≡ c → CutOf i n c → go_on i (n + budget) (begun i) ≡ go_on i n (begun i)
stays-there i n budget h (more s j k m) e (a, l, f) = absurd (omega arith)
stays-there i n budget h (over d k m) e f = sym (turns-add i n budget (begun i)) ∙ ap (go_on i budget) e ∙ turn-over i budget d k m ∙ sym e

pub end-repeats : EndRepeats
end-repeats i t₀ t budget n state after t' r w h c =
    stands-unique i t₀ n after state t' t
    (subst (λ (x : Cut (List ℕ)). StandsIn i t₀ x after t') (stays-there i n budget h (go_on i n (begun i)) refl (cut-resume i n))
    (call-stands i t₀ t budget n state after t' r w c)) w

-- ---- turn by turn

turns-stand : (i : Input) (t₀ : Cols) → RoomThere i t₀ → (state last : value.State) (t u : Cols) (budgets : List ℕ) (n : ℕ) → Turns i state t budgets last u
    → StandsAt i t₀ n state t → StandsAt i t₀ (n + total budgets) last u
turns-stand i t₀ r state last t u budgets n (stop s v) w = subst (λ (m : ℕ). StandsAt i t₀ m state t) (let e : n ≡ n + 0 = omega arith in e) w
turns-stand i t₀ r state last t u budgets n (turn budget rest s next l v t' x c z) w =
    subst (λ (m : ℕ). StandsAt i t₀ m last u) (let e : n + budget + total rest ≡ n + (budget + total rest) = omega arith in e)
    (turns-stand i t₀ r next last t' u rest (n + budget) z (call-stands i t₀ t budget n state next t' r w c))

-- at the end the slices hold what the whole walk kept
whole-table : (i : Input) (t₀ : Cols) (n : ℕ) (state : value.State) (u : Cols) (c : Cut (List ℕ)) → CutOf i n c → tried (search i) ≤ n → StandsIn i t₀ c state u
    → u ≡ table_over (kept (search i)) t₀
whole-table i t₀ n state u (more s j k m) (e, l, f) h w = absurd (omega arith)
whole-table i t₀ n state u (over e k m) (f, l) h w = w.holds ∙ ap (λ (st : WalkState (List ℕ)). table_over (kept st) t₀) (sym f)

pub whole-by-turns : WholeByTurns
whole-by-turns i ok t u r budgets last v h =
    let w = turns-stand i t r fresh_state last t u budgets 0 v (fresh-stands i ok t) in
    let l : tried (search i) ≤ 0 + total budgets = omega arith in
    (ends-in-time i t (0 + total budgets) last u w l, whole-table i t (0 + total budgets) last u (go_on i (0 + total budgets) (begun i)) (cut-resume i (0 + total budgets)) l w)

many : (budgets : List ℕ) → Each1 budgets → length budgets ≤ total budgets
many [] e = omega arith
many (budget ∷ rest) e = omega (arith, e.0, many rest e.1)

pub enough_turns : EnoughTurns
enough_turns i ok t u r budgets last v e h = whole-by-turns i ok t u r budgets last v (omega (arith, many budgets e))

-- ---- any state

pub fresh-passes : FreshPasses
fresh-passes i ok w = in-passes (fresh_in i ok) w

pub left-passes : LeftPasses
left-passes i t budget state after t' c w = in-passes c.outcome.passes w

pub within-budget : WithinBudget
within-budget i t budget state after t' c = (c.outcome.spends, c.outcome.keeps)

pub call-goes : CallGoes
call-goes i ok t r budget h state w a t' c =
    decided-unique (resume_rows i t budget state) (resumed_number a) 0 c.decided
    (rows-within i t state budget 0 h (rows-state i t state ((passes-whole i t).1 (ok, r)) 0 (decided-not (state_wrong i state) w)))
