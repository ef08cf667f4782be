-- Turns of the loop, one after the other: from where a turn begins it comes to a candidate that is tried, or to the state that is answered; after the candidate the
-- next turn begins.
-- Assumes no_candidate.
use mathlib.Core.Path.{◌≡◌, refl, sym, ap, ◌∙◌, subst}
use mathlib.Core.List.{List}
use Prim.Native.Nat.{ℕ, ◌+◌, ◌-◌, ◌≤◌}
use native.Mathlib.Omega.{arith}
use native.Mathlib.Decide.{dec_le}
use lib.ListN.{length}
use Rattle.rules.specs.Limits.{most_sessions}
use Rattle.formula.specs.declared.kinds.Node.{Node}
use Rattle.walk.specs.Input.{Input, Passes, input_of}
use Rattle.split.specs.declared.Candidate.{Candidate}
use Rattle.split.specs.declared.Cursor.{Cursor}
use Rattle.std.specs.Prelude.{Option, None, Some}
use Rattle.order.specs.Ahead.{first}
use Rattle.order.specs.Steps.{Steps}
use Rattle.rows.specs.Formulas.{Masks}
use Rattle.table.specs.Slices.{Cols}
use Rattle.counting.specs.declared.Fate.{Fate}
use Rattle.candidate.specs.Judge.{Judged}
use Rattle.state.specs.declared.State.{State}
use Rattle.state.specs.declared.End.{End}
use Rattle.state.proofs.Ends.{dec_more}
use Rattle.onward.specs.declared.Seen.{Seen}
use Rattle.onward.specs.declared.Turn.{Turn}
use Rattle.onward.specs.declared.Turn.TheVariants.{Rests, Tries}
use Rattle.turns.specs.Standing.{layer_at}
use Rattle.turns.specs.Turns.{GoAsks}
use Rattle.onward.specs.Onward.{end_after, after_state, up_to, starts_at, Over, Seeks, turn_of}
use Rattle.onward.proofs.Fates.{after_more, after-over}
use Rattle.onward.proofs.Seeking.{up_to_fits, starts_fit}
use Rattle.onward.proofs.Turning.{turn-stays, turn-none, turn-spent, turn-tries}
use Rattle.turns.proofs.Rounds.{SameLengths, Loop, Ran, loop-start, stops-none, turn-size, stops-more, turn-goes-on, stops}

-- a turn begins: at a point of the walk, or with a state at its end
pub record Turning (i : Input) (budget : ℕ) (from : State) (t t' : Cols) (starts : List ℕ) (state : State) (left : ℕ) : Type 0 where
  pub asks : GoAsks i from
  pub long : SameLengths t t'
  pub size_in : state.size ≤ i.bound
  pub going : state.end ≡ End.More → Loop i budget from t t' starts state.size state.at state.counts left
  pub ended : (state.end ≡ End.More → ⊥) → Ran i budget from t t' state
  pub fresh : (from.end ≡ End.More → ⊥) → (state ≡ from) × (t' ≡ t)

-- a candidate is tried
pub record Tried (i : Input) (budget : ℕ) (from : State) (t t' : Cols) (starts : List ℕ) (before : State) (node : Node) (next : Cursor) (left : ℕ) : Type 0 where
  pub loop : Loop i budget from t t' starts before.size before.at before.counts left
  pub some : 1 ≤ left
  pub begun : from.end ≡ End.More
  pub step : Steps (layer_at i before.size starts) before.at (Some (record { code = node.code; left = node.left; right = node.right; next = next }))
  pub sized : node.size ≡ before.size

-- what a turn comes to: a state that is answered, which is the one at the start where the walk had ended, or a candidate that is tried
abbrev pub Turned : (i : Input) (budget : ℕ) (from : State) (t t' : Cols) (starts : List ℕ) (left : ℕ) → Turn → Type 0
Turned i budget from t t' starts left (Rests state) = Ran i budget from t t' state × ((from.end ≡ End.More → ⊥) → (state ≡ from) × (t' ≡ t))
Turned i budget from t t' starts left (Tries before node next) = Tried i budget from t t' starts before node next left

pub turning-start : {i : Input} {budget : ℕ} {from : State} {t : Cols} {starts : List ℕ} → GoAsks i from → starts ≡ starts_at t.sizes from.counts.kept
    → Turning i budget from t t starts from budget
turning-start a e = record {
  asks = a;
  long = record { codes = refl; lefts = refl; rights = refl; sizes = refl; matrices = refl };
  size_in = a.state-in.size_in.1;
  going = λ _. loop-start a (e ∙ starts_fit _ _ (omega (arith, a.state-in.kept_in, a.room_in)));
  ended = λ h. record { state-in = a.state-in; spends = omega arith; keeps = omega arith; runs = λ z. absurd (h z) };
  fresh = λ _. (refl, refl);
}

module _ (r m bound room constants : ℕ) (marks lengths words unary binary : List ℕ) where
  abbrev i : Input
  i = input_of r m bound room constants marks lengths words unary binary

  -- over the ends of sizes
  module _ {budget : ℕ} {from : State} {t t' : Cols} {left : ℕ} (st : State) {starts : List ℕ} (v : Loop i budget from t t' starts st.size st.at st.counts left) where
    over-loop : {st' : State} {starts' : List ℕ} → Over m bound constants t'.sizes unary binary st starts st' starts'
        → Loop i budget from t t' starts' st'.size st'.at st'.counts left
    over-loop Over.here = v
    over-loop (Over.on {at} o step h) =
        let l = over-loop o in
        subst (λ (x : List ℕ). Loop i budget from t t' x (at.size + 1) (first x (at.size + 1)) at.counts left)
        (sym (starts_fit t'.sizes at.counts.kept (omega (arith, l.kept_in, l.asks.room_in)))) (turn-size l step h)

  -- ---- the state that is answered, or the candidate that is tried

  module _ {budget : ℕ} {from : State} {t t' : Cols} {starts starts' : List ℕ} {state : State} {left : ℕ} (v : Turning i budget from t t' starts state left) {seen : Seen}
      (told : Seeks (up_to 255 m) bound constants t'.sizes unary binary state starts starts' seen) where
    w : Seeks m bound constants t'.sizes unary binary state starts starts' seen
    w = subst (λ (x : ℕ). Seeks x bound constants t'.sizes unary binary state starts starts' seen) (up_to_fits 255 m (omega (arith, v.asks.propositions-in))) told

    loop-at : state.end ≡ End.More → Loop i budget from t t' starts' seen.state.size seen.state.at seen.state.counts left
    loop-at z = over-loop state (v.going z) (w.goes z)

    step-at : state.end ≡ End.More → (step : Option Candidate) → seen.step ≡ step → Steps (layer_at i seen.state.size starts') seen.state.at step
    step-at z step e = subst (λ (x : Option Candidate). Steps (layer_at i seen.state.size starts') seen.state.at x) e (w.step_is z)

    stays : (state.end ≡ End.More → ⊥) → turn_of seen left ≡ Rests state
    stays h = let e = ap (λ (x : Seen). x.state) (w.stays h).0 in turn-stays seen left (λ z. h (ap (λ (x : State). x.end) (sym e) ∙ z)) ∙ ap Rests e

    begun-at : state.end ≡ End.More → from.end ≡ End.More
    begun-at z = elim (dec_more from.end) [
      | yes h ↦ h
      | no h ↦ ap (λ (x : State). x.end) (sym (v.fresh h).0) ∙ z
    ]

    turned-by : (step : Option Candidate) → seen.step ≡ step → state.end ≡ End.More → Turned i budget from t t' starts' left (turn_of seen left)
    turned-by None e z = subst (Turned i budget from t t' starts' left) (sym (turn-none seen left (w.more z) e))
        (stops-none (loop-at z) (step-at z None e) (w.last z e), λ h. absurd (h (begun-at z)))
    turned-by (Some c) e z = elim (dec_le left 0) [
      | yes y ↦ subst (Turned i budget from t t' starts' left) (sym (turn-spent seen left (w.more z) e (omega arith)))
          (stops-more (loop-at z) (step-at z (Some c) e) (omega arith), λ h. absurd (h (begun-at z)))
      | no y ↦ subst (Turned i budget from t t' starts' left) (sym (turn-tries seen left (w.more z) e (λ x. y (omega arith))))
          (record {
            loop = loop-at z;
            some = omega arith;
            begun = begun-at z;
            step = step-at z (Some c) e;
            sized = up_to_fits 255 _ (omega (arith, w.size_in v.size_in, v.asks.bound-in));
          })
    ]

    pub turned : {turn : Turn} → turn ≡ turn_of seen left → Turned i budget from t t' starts' left turn
    turned is = subst (Turned i budget from t t' starts' left) (sym is) (elim (dec_more state.end) [
      | yes z ↦ turned-by seen.step refl z
      | no h ↦ subst (Turned i budget from t t' starts' left) (sym (stays h)) (v.ended h, v.fresh)
    ])

  -- ---- after the candidate

  module _ {budget : ℕ} {from : State} {t t' : Cols} {starts : List ℕ}
      {before : State} {given : Node} {next : Cursor} {left : ℕ} (v : Tried i budget from t t' starts before given next left) {masks rows rows' : List ℕ} {u : Cols}
      (ms : Passes i → Masks i masks) (long : most_sessions ≤ length rows) {d : Fate}
      (judged : Judged r m room marks words masks given before.counts.kept rows rows' t' u d) (kept-long : SameLengths t' u) where
    same : SameLengths t u
    same =
        let l = v.loop.long in
        record {
          codes = kept-long.codes ∙ l.codes;
          lefts = kept-long.lefts ∙ l.lefts;
          rights = kept-long.rights ∙ l.rights;
          sizes = kept-long.sizes ∙ l.sizes;
          matrices = kept-long.matrices ∙ l.matrices;
        }

    abbrev node : Node
    node = record { code = given.code; left = given.left; right = given.right; size = before.size }

    node-is : given ≡ node
    node-is = ap (λ (x : ℕ). record { code = given.code; left = given.left; right = given.right; size = x }) v.sized

    sized : Judged r m room marks words masks node before.counts.kept rows rows' t' u d
    sized = subst (λ (x : Node). Judged r m room marks words masks x before.counts.kept rows rows' t' u d) node-is judged

    abbrev after : State
    after = after_state before.size before.counts next d node

    goes_on : end_after d ≡ End.More → Turning i budget from t u starts after (left - 1)
    goes_on e =
        let l = turn-goes-on v.loop v.step v.some ms long sized same e in
        subst (λ (x : State). Turning i budget from t u starts x (left - 1)) (sym (after_more before.size before.counts next node d e))
        (record {
          asks = l.asks;
          long = same;
          size_in = l.high;
          going = λ _. l;
          ended = λ h. absurd (h refl);
          fresh = λ h. absurd (h v.begun);
        })

    ends : (end_after d ≡ End.More → ⊥) → Turning i budget from t u starts after (left - 1)
    ends e =
        let a = v.loop.asks in
        let l = stops v.loop v.step v.some ms long sized e in
        subst (λ (x : State). Turning i budget from t u starts x (left - 1)) (sym (after-over before.size before.counts next node d e))
        (record {
          asks = a;
          long = same;
          size_in = l.state-in.size_in.1;
          going = λ h. absurd (e h);
          ended = λ _. l;
          fresh = λ h. absurd (h v.begun);
        })

    pub turn-after : Turning i budget from t u starts (after_state before.size before.counts next d given) (left - 1)
    turn-after = subst (λ (x : Node). Turning i budget from t u starts (after_state before.size before.counts next d x) (left - 1)) (sym node-is)
        (elim (dec_more (end_after d)) [ yes h ↦ goes_on h | no h ↦ ends h ])
