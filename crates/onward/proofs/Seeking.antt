-- The sizes that are passed over on the way to a candidate.
-- Assumes nothing.
use mathlib.Core.Path.{◌≡◌, refl, sym, ap, ◌∙◌, subst}
use mathlib.Core.Bool.{false}
use mathlib.Core.List.{List}
use Prim.Native.Nat.{ℕ, ◌≤◌, ◌<◌}
use native.Mathlib.Omega.{arith}
use borrow.Author.Tests.{le-ltb}
use Rattle.split.specs.declared.Cursor.{Cursor}
use Rattle.split.specs.declared.Candidate.{Candidate}
use Rattle.std.specs.Prelude.{Option, None}
use Rattle.std.specs.Option.{is_some}
use Rattle.std.proofs.lemmas.Bool.{true≢false}
use Rattle.starts.specs.Starts.{starts_of}
use Rattle.order.specs.Size.{Layer, layer_of}
use Rattle.order.specs.Steps.{Steps}
use Rattle.state.specs.declared.State.{State}
use Rattle.state.specs.declared.End.{End}
use Rattle.onward.specs.Onward.{begin_state, up_to, starts_at, Over, Seeks}

-- a step that tells no candidate says that none is ahead
pub ended-step : {y : Layer} {at : Cursor} {step : Option Candidate} → is_some step ≡ false → Steps y at step → Steps y at None
ended-step e (Steps.ends f d) = Steps.ends f refl
ended-step e (Steps.takes here f d s w) = absurd (true≢false (sym (ap is_some d) ∙ e))

-- a number that its kind has is itself
pub up_to_fits : (most n : ℕ) → n ≤ most → up_to most n ≡ n
up_to_fits most n h = rw (le-ltb most n h)

-- where the sizes of a table begin
pub starts_fit : (sizes : List ℕ) (kept : ℕ) → kept ≤ 65535 → starts_at sizes kept ≡ starts_of sizes kept
starts_fit sizes kept h = ap (starts_of sizes) (up_to_fits 65535 kept h)

module _ (m bound constants : ℕ) (sizes unary binary : List ℕ) (from : State) (starts : List ℕ) where
  -- where a candidate is sought the walk has not ended
  pub record Seeking (at : State) (begun : List ℕ) : Type 0 where
    pub over : Over m bound constants sizes unary binary from starts at begun
    pub begun-on : from.end ≡ End.More
    pub goes_on : at.end ≡ End.More
    pub size_in : from.size ≤ bound → at.size ≤ bound

  pub seeking-start : from.end ≡ End.More → Seeking from starts
  seeking-start e = record { over = Over.here; begun-on = e; goes_on = e; size_in = λ h. h }

  module _ {at : State} {begun : List ℕ} (v : Seeking at begun) where
    -- a candidate, or the end of the last size
    pub seek-ends : {p : ℕ} {step : Option Candidate} → m ≡ p → Steps (layer_of at.size begun m constants unary binary) at.at step → (step ≡ None → bound ≤ at.size)
        → Seeks p bound constants sizes unary binary from starts begun (record { state = at; step = step })
    seek-ends {step = step} e w l = subst (λ (x : ℕ). Seeks x bound constants sizes unary binary from starts begun (record { state = at; step = step })) e
        (record {
          stays = λ h. absurd (h v.begun-on);
          goes = λ _. v.over;
          more = λ _. v.goes_on;
          step_is = λ _. w;
          last = λ _ z. l z;
          size_in = v.size_in;
        })

    -- another size
    pub seek-on : Steps (layer_of at.size begun m constants unary binary) at.at None → at.size < bound
        → Seeking (begin_state (starts_at sizes at.counts.kept) at) (starts_at sizes at.counts.kept)
    seek-on w l = record { over = Over.on v.over w l; begun-on = v.begun-on; goes_on = refl; size_in = λ _. omega arith }
