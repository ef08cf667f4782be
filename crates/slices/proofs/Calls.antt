-- A call of the search in slices: its refusals decide in their order, a state that 14 lets pass may go on, and state and room that stand at a count of the
-- walk stand, after the call, as many candidates later.
-- Assumes nothing.
use mathlib.Core.Path.{◌≡◌, refl, sym, ap, ◌∙◌, subst}
use mathlib.Core.Logic.{◌⊎◌, inl, inr}
use mathlib.Core.List.{List, [], ◌∷◌, map, flat_map}
use Rattle.std.specs.Prelude.{Err}
use Prim.Native.Nat.{ℕ, ◌+◌, ◌≤◌, ◌<◌}
use native.Mathlib.Omega.{arith}
use native.Mathlib.Decide.{dec_le}
use lib.ListN.{length, drop, length-append}
use lib.Dec.{eqb}
use Rattle.rules.specs.Limits.{most_size, most_room}
use Rattle.rules.specs.Lists.{count}
use Rattle.rules.specs.declared.refusal.Refusal.{Refusal}
use Rattle.rules.specs.Refusals.{Row, Decided, refusal_number}
use Rattle.rules.proofs.Refusals.{Numbered, decided-later, refused-early, refusal-positive}
use Rattle.formula.specs.Formula.{proposition}
use Rattle.walk.specs.Walk.{tally, layer, seed}
use Rattle.walk.specs.Input as walk
use Rattle.walk.specs.Input.{Input, Passes, offer}
use Rattle.walk.specs.Cut.{Cut, more, over}
use Rattle.walk.specs.Kept.{begun, go_on}
use Rattle.walk.proofs.Resume.{turns-add}
use Rattle.order.specs.Ahead.{ahead, first, leaf_cursor, cursor_after}
use Rattle.starts.proofs.Numbers.{length-count}
use Rattle.rows.proofs.Matrices.{length-map}
use Rattle.table.specs.Slices.{Cols, table_over}
use Rattle.checks.specs.Refusals.{setting_wrong, search_rows}
use Rattle.state.specs.declared.State.{State}
use Rattle.state.specs.declared.End.{End}
use Rattle.turns.specs.Costs.{in_all}
use Rattle.turns.specs.Standing.{starts_in, layer_at, state_at, todo, StandsIn}
use Rattle.turns.specs.Turns.{StateIn, GoAsks, GoDoes}
use Rattle.turns.proofs.Rounds.{began, few-left}
use Rattle.turns.proofs.Settling.{settled-more, turn-none, turn-over, begun-is}
use Rattle.rules.specs.Limits.{most_budget}
use Rattle.slices.specs.Slices.{fresh_state, StandsAt, state_wrong, resume_rows, advance_rows}
use Rattle.slices.specs.Resume.{Went, CalledBy}
use Rattle.slices.specs.Inner.{OneOrTwo}
use Rattle.slices.proofs.Checks.{unary-few, binary-few}

-- ---- the refusals

-- a setting is wrong, or none is
settings : (i : Input) → (setting_wrong i).given ⊎ ((setting_wrong i).given → ⊥)
settings i = elim (dec_le 1 i.bound) [
  | no a ↦ inl (inl (inl (omega arith)))
  | yes a ↦ elim (dec_le i.bound most_size) [
    | no b ↦ inl (inl (inr (omega arith)))
    | yes b ↦ elim (dec_le 1 i.room) [
      | no c ↦ inl (inr (inl (inl (omega arith))))
      | yes c ↦ elim (dec_le i.room most_room) [
        | no d ↦ inl (inr (inl (inr (omega arith))))
        | yes d ↦ elim (dec_le i.constants 1) [
          | no e ↦ inl (inr (inr (omega arith)))
          | yes e ↦ inr (λ w. elim w [
            | inl x ↦ elim x [ inl h ↦ omega arith | inr h ↦ omega arith ]
            | inr x ↦ elim x [ inl y ↦ elim y [ inl h ↦ omega arith | inr h ↦ omega arith ] | inr h ↦ omega arith ]
          ])
        ]
      ]
    ]
  ]
]

module _ (i : Input) (t : Cols) (state : State) where
  numbered : Numbered (search_rows i t)
  numbered = (omega arith, (omega arith, (omega arith, (omega arith, (omega arith, (omega arith, (omega arith, (omega arith, tt))))))))

  -- what the search refuses comes first
  pub rows-refused : (refusal : Refusal) → Decided (search_rows i t) (refusal_number refusal) → Decided (advance_rows i t state) (refusal_number refusal)
  rows-refused refusal d = refused-early (search_rows i t) (state_wrong i state ∷ []) refusal d

  -- and then the state
  pub rows-state : Decided (search_rows i t) 0 → (k : ℕ) → Decided (state_wrong i state ∷ []) k → Decided (advance_rows i t state) k
  rows-state d k s = decided-later (search_rows i t) (state_wrong i state ∷ []) k numbered d s

  -- a budget that is too large comes after 1 and as 2, before 3; one that isn't is passed over
  pub rows-budget : (budget k : ℕ) → most_budget < budget → OneOrTwo i.recording.sessions i.recording.propositions k → Decided (resume_rows i t budget state) k
  unfolding Decided
  rows-budget budget k h (inl a) = inl a
  rows-budget budget k h (inr (a, inl b)) = inr (a, elim (settings i) [ inl c ↦ inl (c, b.1) | inr c ↦ inr (c, inl (h, b.1)) ])
  rows-budget budget k h (inr (a, inr b)) = absurd (b.0 tt)

  pub rows-within : (budget k : ℕ) → budget ≤ most_budget → Decided (advance_rows i t state) k → Decided (resume_rows i t budget state) k
  unfolding Decided
  rows-within budget k h (inl a) = inl a
  rows-within budget k h (inr (a, inl b)) = inr (a, inl b)
  rows-within budget k h (inr (a, inr (b, c))) = inr (a, inr (b, inr ((λ l. omega arith), c)))

-- a call that is refused writes nothing
pub refused : {rows : List Row} (i : Input) (t : Cols) (budget : ℕ) (state : State) (refusal : Refusal) → Decided rows (refusal_number refusal)
    → CalledBy rows i t budget state (Err refusal) t
refused i t budget state refusal d = record { decided = d; outcome = (refusal-positive refusal, refl) }

-- ---- the walk goes on

more_or_not : (end : End) → (end ≡ End.More) ⊎ (end ≡ End.More → ⊥)
more_or_not End.More = inl refl
more_or_not End.Found = inr (λ e. cc)
more_or_not End.None = inr (λ e. cc)
more_or_not End.Full = inr (λ e. cc)
more_or_not (End.Other n) = inr (λ e. cc)

module _ (i : Input) (t : Cols) (ok : Passes i) (budget : ℕ) (state : State) where
  -- where it has ended it stays
  stays : (t₀ : Cols) (c : Cut (List ℕ)) → (state.end ≡ End.More → ⊥) → StandsIn i t₀ c state t → StandsIn i t₀ (go_on i budget c) state t
  stays t₀ (more s j k n) e w = absurd (e (ap (λ (x : State). x.end) w.is))
  stays t₀ (over f k n) e w = subst (λ (c : Cut (List ℕ)). StandsIn i t₀ c state t) (sym (turn-over i budget f k n)) w

  pub went : (after : State) {t' : Cols} → GoDoes i budget state t t' after → Went i t budget state after t'
  went after {t'} v = record {
    passes = v.state-in;
    spends = v.spends;
    keeps = v.keeps;
    runs = λ t₀ r n w. subst (λ (c : Cut (List ℕ)). StandsIn i t₀ c after t') (turns-add i n budget (begun i)) (elim (more_or_not state.end) [
      | inl e ↦ v.runs t₀ (go_on i n (begun i)) ok r e w
      | inr o ↦
          let (a, b) = v.ended o in
          subst (λ (x : State). StandsIn i t₀ (go_on i budget (go_on i n (begun i))) x t') (sym a)
          (subst (λ (x : Cols). StandsIn i t₀ (go_on i budget (go_on i n (begun i))) state x) (sym b) (stays t₀ (go_on i n (begun i)) o w))
    ]);
  }

-- what is asked of it
pub asks_of : (i : Input) → Passes i → (st : State) → StateIn i st → GoAsks i st
asks_of i ok st w = record {
  bound-in = ok.bound-in.1;
  room_in = ok.room_in.1;
  propositions-in = ok.propositions-in.1;
  unary-few = unary-few ok;
  binary-few = binary-few ok;
  state-in = w;
}

-- ---- a fresh state stands at count 0

module _ (i : Input) (ok : Passes i) where
  some-leaf : 0 < length (layer (offer i) 1 [])
  unfolding layer
  some-leaf =
      omega (
        arith,
        length-map (seed (offer i)) (offer i).leaves,
        length-append (map proposition (count 0 i.recording.propositions)) (walk.constants_if (eqb i.constants 1)),
        length-map proposition (count 0 i.recording.propositions),
        length-count 0 i.recording.propositions,
        ok.propositions-in,
      )

  begun_more : go_on i 0 (begun i) ≡ more 1 0 [] (tally 0 0)
  begun_more = turn-none i 0 (begun i) refl ∙ begun-is i ∙ settled-more i 1 0 [] (tally 0 0) ok.bound-in.0 some-leaf

  fresh-is : fresh_state ≡ state_at i (more 1 0 [] (tally 0 0))
  unfolding cursor_after
  fresh-is = refl

  fresh-left : ahead (layer_at i 1 (starts_in [])) (cursor_after (layer_at i 1 (starts_in [])) 0) ≡ drop 0 (ahead (layer_at i 1 (starts_in [])) (first (starts_in []) 1))
  unfolding cursor_after
  fresh-left = refl

  -- it passes
  pub fresh_in : StateIn i fresh_state
  fresh_in = record {
    kept_in = omega arith;
    kept-tried = omega arith;
    size_in = (omega arith, ok.bound-in.0);
    left_in = omega arith;
    right-in = omega arith;
    operator-in = omega arith;
  }

  fresh-few : 0 + todo i (starts_in []) 1 (cursor_after (layer_at i 1 (starts_in [])) 0) ≤ in_all
  unfolding cursor_after
  fresh-few =
      omega (
        arith,
        few-left i (asks_of i ok fresh_state fresh_in) (starts_in []) 1 (leaf_cursor 0) (began [] 0 1 (omega arith) (omega arith)) ok.bound-in.0,
        ok.bound-in,
      )

  empty-over : (t : Cols) → t ≡ table_over [] t
  unfolding flat_map
  empty-over t = refl

  pub fresh-stands-here : (t : Cols) → StandsAt i t 0 fresh_state t
  fresh-stands-here t =
      subst (λ (c : Cut (List ℕ)). StandsIn i t c fresh_state t) (sym begun_more)
      (record {
        is = fresh-is;
        holds = empty-over t;
        sound = record {
          size_in = (omega arith, ok.bound-in.0);
          few = omega arith;
          fine = λ p h. absurd (omega arith);
          rising = λ p q h l. absurd (omega arith);
          small = λ p h. absurd (omega arith);
          next = some-leaf;
          left = fresh-left;
          tried = fresh-few;
          dropped = omega arith;
        };
      })
