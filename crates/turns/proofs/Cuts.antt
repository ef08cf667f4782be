-- A state that stands at a cut of the walk and has not ended is a point of it, from which the loop goes on; so the loop does what its contract says.
-- Assumes nothing.
use mathlib.Core.Path.{◌≡◌, refl, sym, ap, ◌∙◌, subst}
use mathlib.Core.List.{List, map}
use Prim.Native.Nat.{ℕ, ◌+◌, ◌≤◌}
use native.Mathlib.Omega.{arith}
use lib.ListN.{length, take, drop}
use lib.Seq.{take_all}
use Rattle.rules.specs.Limits.{most_size}
use Rattle.rules.specs.Lists.{count}
use Rattle.walk.specs.Walk.{found, none, full, Tally}
use Rattle.walk.specs.Input.{Input, Passes}
use Rattle.walk.specs.Cut.{Cut, more, over}
use Rattle.walk.specs.Kept.{Table, go_on}
use Rattle.order.specs.Ahead.{ahead, first, cursor_after}
use Rattle.starts.specs.Starts.{starts_of, below}
use Rattle.order.proofs.Layers.{column-begins}
use Rattle.rows.specs.Formulas.{no_candidate}
use Rattle.rows.proofs.Matrices.{length-map}
use Rattle.table.specs.Slices.{Cols, table_over}
use Rattle.checks.specs.Promises.{RoomThere}
use Rattle.state.specs.declared.State.{State}
use Rattle.state.specs.declared.End.{End}
use Rattle.state.proofs.Ends.{not_on}
use Rattle.turns.specs.Costs.{in_all}
use Rattle.turns.specs.Standing.{counts, starts_in, layer_at, todo, Ongoing, StandsIn}
use Rattle.turns.specs.Turns.{GoAsks, Gone}
use Rattle.turns.proofs.Settling.{settled-more}
use Rattle.turns.proofs.Points.{PointAt}
use Rattle.turns.proofs.Rounds.{Ran, kept-sizes}

-- where the sizes of the slices begin is where those of the table do
starts-are : (sizes : List ℕ) (k : Table) → take (length k) sizes ≡ map (λ c. c.node.size) k → starts_of sizes (length k) ≡ starts_in k
unfolding starts_of
starts-are sizes k e =
    ap (λ (l : List ℕ). map (λ x. below x l) (count 0 (most_size + 2)))
    (e ∙ sym (take_all (length k) (map (λ c. c.node.size) k) (omega (arith, length-map (λ c. c.node.size) k))))

module _ (i : Input) (t₀ t : Cols) (s j : ℕ) (k : Table) (n : Tally) (w : Ongoing i s j k n) (ok : Passes i) (h : t ≡ table_over k t₀) where
  sizes-are : take (length k) t.sizes ≡ map (λ c. c.node.size) k
  sizes-are = kept-sizes {i = i} {k = k} {t₀ = t₀} {t = t} refl (record { fine = w.fine; are = h })

  abbrev same : starts_of t.sizes (length k) ≡ starts_in k
  same = starts-are t.sizes k sizes-are

  pub ongoing-point : PointAt i t₀ t (starts_of t.sizes (length k)) s (cursor_after (layer_at i s (starts_in k)) j) (counts k n) k j
  ongoing-point = record {
    stands = record {
      counted = refl;
      holds = record { fine = w.fine; are = h };
      rising = w.rising;
      small = w.small;
      begins = λ u l. column-begins no_candidate k t.sizes (length k) w.rising sizes-are u (omega (arith, w.size_in, ok.bound-in));
    };
    cursor = ap (λ (x : List ℕ). cursor_after (layer_at i s x) j) (sym same);
    left = subst (λ (x : List ℕ). ahead (layer_at i s x) (cursor_after (layer_at i s (starts_in k)) j) ≡ drop j (ahead (layer_at i s x) (first x s))) (sym same) w.left;
    tried = subst (λ (x : List ℕ). n.tried + todo i x s (cursor_after (layer_at i s (starts_in k)) j) ≤ in_all) (sym same) w.tried;
    dropped = w.dropped;
  }

module _ (i : Input) (t : Cols) (ok : Passes i) (budget : ℕ) (state : State) where
  -- the walk goes on where the state says so
  on : (after : State) {t' : Cols} (t₀ : Cols) → RoomThere i t₀ → (c : Cut (List ℕ)) → state.end ≡ End.More → StandsIn i t₀ c state t → Ran i budget state t t' after
      → StandsIn i t₀ (go_on i budget c) after t'
  on after t₀ r (over (found root) k n) e w v = absurd (not_on refl (sym (ap (λ (x : State). x.end) w.is) ∙ e))
  on after t₀ r (over none k n) e w v = absurd (not_on refl (sym (ap (λ (x : State). x.end) w.is) ∙ e))
  on after t₀ r (over (full s) k n) e w v = absurd (not_on refl (sym (ap (λ (x : State). x.end) w.is) ∙ e))
  on after {t'} t₀ r (more s j k n) e w v =
      let q = w.sound in
      let g = subst (λ (x : State). Ran i budget x t t' after) w.is v in
      subst (λ (c : Cut (List ℕ)). StandsIn i t₀ (go_on i budget c) after t') (settled-more i s j k n q.size_in.1 q.next)
      (g.runs refl t₀ k j ok r (ongoing-point i t₀ t s j k n q ok w.holds))

pub gone : {i : Input} {budget : ℕ} {from : State} {t t' : Cols} {state : State} → GoAsks i from → Ran i budget from t t' state
    → ((from.end ≡ End.More → ⊥) → (state ≡ from) × (t' ≡ t)) → Gone i budget from t t' state
gone {i} {budget} {from} {t} {t'} {state} a v e = record {
  goes = λ _. record {
    state-in = v.state-in;
    spends = v.spends;
    keeps = v.keeps;
    ended = e;
    runs = λ t₀ c ok r z w. on i t ok budget from state t₀ r c z w v;
  };
  stays = λ h. absurd (h a);
}

-- nothing was done
pub not-gone : {i : Input} {budget : ℕ} {from : State} {t : Cols} → (GoAsks i from → ⊥) → Gone i budget from t t from
not-gone h = record { goes = λ a. absurd (h a); stays = λ _. (refl, refl) }
