-- The loop of the search: the walk that is left where it stands, for as many candidates as are left of the budget, comes to what the walk from the
-- state on comes to for the whole budget; what is still to try gets less; and whatever the state was, the next one is such as may be handed in.
-- Assumes no_candidate.
use mathlib.Core.Path.{◌≡◌, refl, sym, ap, ap₂, ◌∙◌, subst}
use mathlib.Core.List.{List, [], map}
use Prim.Native.Nat.{ℕ, suc, ◌+◌, ◌-◌, ◌^◌, ◌≤◌, ◌<◌}
use native.Mathlib.Omega.{arith}
use native.Mathlib.Numerals.{add-one}
use native.Mathlib.Decide.{dec_le}
use lib.ListN.{length, take, drop, replicate, length-replicate, get_or-eq_default}
use lib.Seq.{take_at, take_all}
use Rattle.rules.specs.Limits.{most_sessions, most_size, most_room}
use Rattle.formula.specs.declared.kinds.Node.{Node}
use Rattle.formula.specs.Kinds.{node_of, no_node}
use Rattle.formula.specs.Nodes as nodes
use Rattle.walk.specs.Walk.{Candidate, none, found, full, one_tried, WalkState, going, ended, kept, layer, consider}
use Rattle.walk.specs.Input.{Input, Passes, offer, input_of}
use Rattle.walk.specs.Cut.{Cut}
use Rattle.walk.specs.Kept.{Table, go_on}
use Rattle.walk.proofs.Places.{Split}
use Rattle.split.specs.declared.Cursor.{Cursor}
use Rattle.split.specs.declared.Candidate as step
use Rattle.std.specs.Prelude.{None, Some}
use Rattle.state.specs.declared.End.{End}
use Rattle.split.specs.Split.{cand}
use Rattle.order.specs.Size.{first_place}
use Rattle.order.specs.Ahead.{ahead, rest, first, cursor_after}
use Rattle.starts.specs.Starts.{starts_of}
use Rattle.order.specs.Steps.{list_long, Steps, CursorWithin}
use Rattle.starts.proofs.Counting.{starts-long, starts-rise, starts-within}
use Rattle.order.proofs.Cursors.{first-within, cursor-same, left-same, rest-same}
use Rattle.order.proofs.Few.{rest-few}
use Rattle.order.proofs.Layers.{column-begins}
use Rattle.order.proofs.Rest.{step_left, step-within}
use Rattle.rows.specs.Formulas.{no_candidate, Masks}
use Rattle.rows.proofs.Matrices.{length-map, masks-made}
use Rattle.leaves.proofs.Products.{place_end}
use Rattle.table.specs.Slices.{Cols}
use Rattle.table.specs.Formulas.{HoldsKept, RoomAt}
use Rattle.checks.specs.Promises.{RoomThere}
use Rattle.counting.specs.declared.Fate.{Fate}
use Rattle.counting.specs.declared.Fate.TheVariants.{Found, Dropped, Full, Kept}
use Rattle.counting.specs.Counting.{comes}
use Rattle.candidate.specs.Judge.{Tests, Does, Judged}
use Rattle.candidate.proofs.Judged.{judge-walks}
use Rattle.counting.specs.Counting.{tally_of, one_more, counted_by}
use Rattle.counting.specs.declared.Counts.{Counts}
use Rattle.state.specs.declared.State as value
use Rattle.turns.specs.Costs.{operators, per_size, in_all}
use Rattle.turns.specs.Standing.{counts, starts_in, layer_at, todo, StandsIn}
use Rattle.turns.specs.Turns.{StateIn, GoAsks}
use Rattle.onward.specs.Onward.{more_state, end_state, none_state, end_after, over_state}
use Rattle.turns.specs.Inner.{Masked}
use Rattle.turns.proofs.Making.{make}
use Rattle.turns.proofs.Settling.{settled_cut, settled-over, settled-more, settled-next, settled-none, one-step, turn_one, turn-none, turn-over}
use Rattle.turns.proofs.Points.{Standing, PointAt, comes-going, none_left, some_left, next-is, posed, turn-stands}
use Rattle.turns.proofs.Positions.{list-end}

pub record SameLengths (t t' : Cols) : Type 0 where
  pub codes : length t'.codes ≡ length t.codes
  pub lefts : length t'.lefts ≡ length t.lefts
  pub rights : length t'.rights ≡ length t.rights
  pub sizes : length t'.sizes ≡ length t.sizes
  pub matrices : length t'.matrices ≡ length t.matrices

-- where a size begins, whatever the table
pub record Began (starts : List ℕ) (s : ℕ) : Type 0 where
  pub long : length starts ≡ most_size + 2
  pub few : (u : ℕ) → first_place starts u ≤ most_room
  pub rises : (u : ℕ) → u ≤ s → first_place starts u ≤ first_place starts s

pub began : (sizes : List ℕ) (kept s : ℕ) → kept ≤ most_room → s ≤ most_size → Began (starts_of sizes kept) s
began sizes kept s h l = record {
  long = starts-long sizes kept;
  few = λ u. elim (dec_le u (most_size + 1)) [
    | yes a ↦ omega (arith, starts-within sizes kept u a)
    | no a ↦ omega (arith, get_or-eq_default (starts_of sizes kept) 0 {n = u} (omega (arith, starts-long sizes kept)))
  ];
  rises = λ u a. starts-rise sizes kept u s a (omega arith);
}

-- ---- the table of a point, told by itself

-- the column of sizes, up to the number kept
pub kept-sizes : {i : Input} {k : Table} {t₀ t : Cols} {kept : ℕ} → kept ≡ length k → HoldsKept i k t₀ t → take kept t.sizes ≡ map (λ c. c.node.size) k
kept-sizes {k = k} {t₀} {t} {kept} e h =
    ap (λ (x : Cols). take kept x.sizes) h.are
    ∙ take_at (map (λ c. c.node.size) k) _ kept (length-map (λ c. c.node.size) k ∙ sym e)

-- one place alone is where a size begins
split_one : (k : Table) (u a b : ℕ) → Split no_candidate k u a → Split no_candidate k u b → a ≤ b
split_one k u a b x y = elim (dec_le a b) [
  | yes h ↦ h
  | no h ↦ absurd (let p = x.below b (omega arith) in let q = y.above b (omega arith) (omega (arith, x.inside)) in omega arith)
]

pub starts-in : {i : Input} {t₀ t : Cols} {k : Table} {starts : List ℕ} {s kept : ℕ} → Standing i t₀ t k starts s kept → s ≤ most_size
    → (u : ℕ) → u ≤ s → first_place starts u ≡ first_place (starts_in k) u
starts-in {k = k} {starts} w h u l =
    let z = column-begins no_candidate k (map (λ c. c.node.size) k) (length k) w.rising
    (take_all (length k) (map (λ c. c.node.size) k) (omega (arith, length-map (λ c. c.node.size) k))) u (omega arith) in
    let a = split_one k u (first_place starts u) (first_place (starts_in k) u) (w.begins u l) z in
    let b = split_one k u (first_place (starts_in k) u) (first_place starts u) z (w.begins u l) in
    omega arith

-- ---- the loop

-- where the walk has come to, on the way to `target`
pub record Sofar (i : Input) (t₀ t' : Cols) (target : Cut (List ℕ)) (starts : List ℕ) (s : ℕ) (at : Cursor) (n : Counts) (left : ℕ) : Type 0 where
  pub table : Table
  pub position : ℕ
  pub point : PointAt i t₀ t' starts s at n table position
  pub is : target ≡ go_on i left (settled_cut i s position (going table (tally_of n)))

pub record Loop (i : Input) (budget : ℕ) (from : value.State) (t t' : Cols) (starts : List ℕ) (s : ℕ) (at : Cursor) (n : Counts) (left : ℕ) : Type 0 where
  pub asks : GoAsks i from
  pub low : 1 ≤ s
  pub high : s ≤ i.bound
  pub kept_in : n.kept ≤ i.room
  pub kept-tried : n.kept ≤ n.tried
  pub places : first_place starts s ≤ n.kept
  pub within : (at.left ≤ n.kept) × (at.right ≤ n.kept) × (at.operator ≤ list_long (layer_at i s []) at.split)
  pub left_in : left ≤ budget
  pub spent : n.tried ≤ from.counts.tried + (budget - left)
  pub gained : n.kept ≤ from.counts.kept + (budget - left)
  pub long : SameLengths t t'
  pub begun : Began starts s
  pub runs : (t₀ : Cols) (k : Table) (j : ℕ) → Passes i → RoomThere i t₀ → PointAt i t₀ t (starts_of t.sizes from.counts.kept) from.size from.at from.counts k j
      → Sofar i t₀ t' (go_on i budget (settled_cut i from.size j (going k (tally_of from.counts)))) starts s at n left

-- what the loop leaves: a state that 14 lets pass, and from a point of the walk as many candidates more
pub record Ran (i : Input) (budget : ℕ) (from : value.State) (t t' : Cols) (state : value.State) : Type 0 where
  pub state-in : StateIn i state
  pub spends : state.counts.tried ≤ from.counts.tried + budget
  pub keeps : state.counts.kept ≤ from.counts.kept + budget
  pub runs : from.end ≡ End.More → (t₀ : Cols) (k : Table) (j : ℕ) → Passes i → RoomThere i t₀ → PointAt i t₀ t (starts_of t.sizes from.counts.kept) from.size from.at from.counts k j
      → StandsIn i t₀ (go_on i budget (settled_cut i from.size j (going k (tally_of from.counts)))) state t'

-- a size has few candidates
pub few-left : (i : Input) {from : value.State} → GoAsks i from → (starts : List ℕ) (s : ℕ) (at : Cursor) → Began starts s → s ≤ i.bound
    → length (rest (layer_at i s starts) at) ≤ per_size
few-left i a starts s at b h =
    let w = rest-few (layer_at i s starts) most_room operators (omega arith) b.few a.unary-few a.binary-few at in
    omega (arith, w, a.bound-in, a.propositions-in)

pub loop-start : {i : Input} {budget : ℕ} {from : value.State} {t : Cols} {starts : List ℕ} → GoAsks i from → starts ≡ starts_of t.sizes from.counts.kept
    → Loop i budget from t t starts from.size from.at from.counts budget
loop-start {i} {budget} {from} {t} a e =
    subst (λ (x : List ℕ). Loop i budget from t t x from.size from.at from.counts budget) (sym e)
    (record {
      asks = a;
      low = a.state-in.size_in.0;
      high = a.state-in.size_in.1;
      kept_in = a.state-in.kept_in;
      kept-tried = a.state-in.kept-tried;
      places = starts-within t.sizes from.counts.kept from.size (omega (arith, a.state-in.size_in, a.bound-in));
      within = (a.state-in.left_in, a.state-in.right-in, omega (arith, a.state-in.operator-in, list-end i from.size from.at.split));
      left_in = omega arith;
      spent = omega arith;
      gained = omega arith;
      long = record { codes = refl; lefts = refl; rights = refl; sizes = refl; matrices = refl };
      begun = began t.sizes from.counts.kept from.size (omega (arith, a.state-in.kept_in, a.room_in)) (omega (arith, a.state-in.size_in, a.bound-in));
      runs = λ t₀ k j ok room w. record { table = k; position = j; point = w; is = refl };
    })

same-counts : (n : Counts) (k : Table) → n.kept ≡ length k → n ≡ counts k (tally_of n)
same-counts n k e = ap (λ (x : ℕ). record { tried = n.tried; kept = x; dropped = n.dropped }) e

one-counted : (k : Table) (n d : Counts) → n.kept ≡ length k → n.tried + 1 < 2 ^ 64 → d.tried ≡ one_more n.tried → d.kept ≡ n.kept → d.dropped ≡ n.dropped
    → d ≡ counts k (one_tried (tally_of n))
one-counted k n d c f p q r =
    ap₂ (λ (y w : ℕ). record { tried = y; kept = w; dropped = d.dropped }) (p ∙ let h : one_more n.tried ≡ suc n.tried = omega arith in h) (q ∙ c)
    ∙ ap (λ (y : ℕ). record { tried = suc n.tried; kept = length k; dropped = y }) r

-- ---- at the end

module _ (i : Input) (t₀ : Cols) {t' : Cols} (target : Cut (List ℕ)) (s j a : ℕ) where
  stands-none : (k : Table) (n : Counts) → n.kept ≡ length k → HoldsKept i k t₀ t' → s ≡ i.bound → length (layer (offer i) s k) ≤ j
      → target ≡ go_on i a (settled_cut i s j (going k (tally_of n))) → StandsIn i t₀ target (none_state s n) t'
  stands-none k n c h e l f =
      subst (λ (x : Cut (List ℕ)). StandsIn i t₀ x (none_state s n) t')
      (sym (f ∙ ap (go_on i a) (settled-none i s j k (tally_of n) e l) ∙ turn-over i a none k (tally_of n)))
      (record { is = ap₂ (λ (x : ℕ) (m : Counts). none_state x m) e (same-counts n k c); holds = h.are; sound = tt })

  -- at a candidate of the size over the table k
  module _ (k : Table) (n : Counts) (c : n.kept ≡ length k) (f : n.tried + 1 < 2 ^ 64) (node : Node) (x : Candidate (List ℕ)) (e : x.node ≡ node_of node) (z : node.size ≡ s) where
    stands-over : (v : Fate) → (end_after v ≡ End.More → ⊥) → Does i node t₀ t' k x v → (st : WalkState (List ℕ)) → st ≡ comes v x k (tally_of n)
        → target ≡ go_on i a (settled_cut i s j st) → StandsIn i t₀ target (over_state s n v node) t'
    stands-over Found g w st is t =
        subst (λ (y : Cut (List ℕ)). StandsIn i t₀ y (over_state s n Found node) t')
        (sym (t ∙ ap (λ (y : WalkState (List ℕ)). go_on i a (settled_cut i s j y)) (is ∙ ap (λ (y : nodes.Node). ended (found y) k (one_tried (tally_of n))) e)
        ∙ ap (go_on i a) (settled-over i s j (found (node_of node)) k (one_tried (tally_of n))) ∙ turn-over i a (found (node_of node)) k (one_tried (tally_of n))))
        (record {
          is = ap₂ (λ (y : ℕ) (m : Counts). end_state y m End.Found node) (sym z) (one-counted k n (counted_by Found n) c f refl refl refl);
          holds = (w.holds (tally_of n)).are;
          sound = tt;
        })
    stands-over Dropped g w st is t = absurd (g refl)
    stands-over Full g w st is t =
        subst (λ (y : Cut (List ℕ)). StandsIn i t₀ y (over_state s n Full node) t')
        (sym (t ∙ ap (λ (y : WalkState (List ℕ)). go_on i a (settled_cut i s j y)) (is ∙ ap (λ (y : nodes.Node). ended (full y.size) k (one_tried (tally_of n))) e)
        ∙ ap (go_on i a) (settled-over i s j (full node.size) k (one_tried (tally_of n))) ∙ turn-over i a (full node.size) k (one_tried (tally_of n))))
        (record {
          is = ap₂ (λ (y : ℕ) (m : Counts). end_state y m End.Full no_node) (sym z) (one-counted k n (counted_by Full n) c f refl refl refl);
          holds = (w.holds (tally_of n)).are;
          sound = tt;
        })
    stands-over Kept g w st is t = absurd (g refl)

-- the counts stay in range: one more is tried, and kept only where there is room
pub record Grown (i : Input) (n after : Counts) : Type 0 where
  pub kept_in : after.kept ≤ i.room
  pub kept_more : n.kept ≤ after.kept
  pub kept-one : after.kept ≤ n.kept + 1
  pub kept-tried : after.kept ≤ after.tried
  pub tried : after.tried ≤ n.tried + 1

grown : {i : Input} (room_in : i.room ≤ most_room) (r : ℕ) (marks : List ℕ) (node : Node) (rows : List ℕ) (n : Counts) (t t' : Cols) (v : Fate) → n.kept ≤ i.room
    → n.kept ≤ n.tried → Tests r i.room marks node n.kept rows t t' v → Grown i n (counted_by v n)
grown h r marks node rows n t t' Found a b p = record { kept_in = a; kept_more = omega arith; kept-one = omega arith; kept-tried = omega arith; tried = omega arith }
grown h r marks node rows n t t' Dropped a b p = record { kept_in = a; kept_more = omega arith; kept-one = omega arith; kept-tried = omega arith; tried = omega arith }
grown h r marks node rows n t t' Full a b p = record { kept_in = a; kept_more = omega arith; kept-one = omega arith; kept-tried = omega arith; tried = omega arith }
grown h r marks node rows n t t' Kept a b p = record {
  kept_in = omega (arith, p.2);
  kept_more = omega arith;
  kept-one = omega arith;
  kept-tried = omega (arith, p.3);
  tried = omega arith;
}

-- there is room at a place below C
pub room_at : {i : Input} {t₀ : Cols} (count : ℕ) → RoomThere i t₀ → count < i.room → RoomAt i count t₀
room_at {i} count w h = record {
  codes = omega (arith, w.codes);
  lefts = omega (arith, w.lefts);
  rights = omega (arith, w.rights);
  sizes = omega (arith, w.sizes);
  matrices = omega (arith, w.matrices, place_end count i.room i.recording.sessions h);
}

module _ {r m bound room constants : ℕ} {marks lengths words unary binary : List ℕ} {budget : ℕ} {from : value.State} {t t' : Cols} {starts : List ℕ} {s : ℕ} {at : Cursor}
    {n : Counts} {left : ℕ} (v : Loop (input_of r m bound room constants marks lengths words unary binary) budget from t t' starts s at n left) where
  abbrev i : Input
  i = input_of r m bound room constants marks lengths words unary binary

  abbrev a : GoAsks i from
  a = v.asks

  reached : s < length starts
  reached = omega (arith, v.begun.long, v.high, a.bound-in)

  -- ---- the end of a size

  module _ (step : Steps (layer_at i s starts) at None) where
    -- of the last one
    pub stops-none : bound ≤ s → Ran i budget from t t' (none_state s n)
    stops-none h = record {
      state-in = record {
        kept_in = v.kept_in;
        kept-tried = v.kept-tried;
        size_in = (v.low, v.high);
        left_in = omega arith;
        right-in = omega arith;
        operator-in = omega arith;
      };
      spends = omega (arith, v.spent);
      keeps = omega (arith, v.gained);
      runs = λ _ t₀ k j ok there w.
          let z = v.runs t₀ k j ok there w in
          stands-none i t₀ _ s z.position left z.table n z.point.stands.counted z.point.stands.holds (omega (arith, v.high))
          (none_left ok z.point v.low reached step) z.is;
    }

    -- and of another
    module _ (h : s < bound) where
      abbrev next-starts : List ℕ
      next-starts = starts_of t'.sizes n.kept

      next-began : Began next-starts (s + 1)
      next-began = began t'.sizes n.kept (s + 1) (omega (arith, v.kept_in, a.room_in)) (omega (arith, a.bound-in))

      next-first : CursorWithin (layer_at i (s + 1) next-starts) (first next-starts (s + 1))
      next-first = first-within (layer_at i (s + 1) next-starts) next-began.rises

      next-places : first_place next-starts (s + 1) ≤ n.kept
      next-places = starts-within t'.sizes n.kept (s + 1) (omega (arith, a.bound-in))

      begins : {t₀ : Cols} {k : Table} → Standing i t₀ t' k starts s n.kept → Standing i t₀ t' k next-starts (s + 1) n.kept
      begins {k = k} w = record {
        counted = w.counted;
        holds = w.holds;
        rising = w.rising;
        small = λ p l. omega (arith, w.small p l);
        begins = λ u l. column-begins no_candidate k t'.sizes n.kept w.rising (kept-sizes w.counted w.holds) u (omega (arith, a.bound-in));
      }

      starts-at-first : first next-starts (s + 1) ≡ cursor_after (layer_at i (s + 1) next-starts) 0
      unfolding cursor_after
      starts-at-first = refl

      -- less is to be tried
      less-size : todo i (starts_of t'.sizes n.kept) (s + 1) (first (starts_of t'.sizes n.kept) (s + 1)) < todo i starts s at
      less-size = omega (arith, few-left i a next-starts (s + 1) (first next-starts (s + 1)) next-began (omega arith))

      pub turn-size : Loop i budget from t t' (starts_of t'.sizes n.kept) (s + 1) (first (starts_of t'.sizes n.kept) (s + 1)) n left
      turn-size = record {
        asks = a;
        low = omega arith;
        high = omega arith;
        kept_in = v.kept_in;
        kept-tried = v.kept-tried;
        places = next-places;
        within = (omega (arith, next-first.left_in, next-places), omega (arith, next-first.right-in, next-places), next-first.operator-in);
        left_in = v.left_in;
        spent = v.spent;
        gained = v.gained;
        long = v.long;
        begun = next-began;
        runs = λ t₀ k j ok there w.
            let z = v.runs t₀ k j ok there w in
            record {
              table = z.table;
              position = 0;
              point = record {
                stands = begins z.point.stands;
                cursor = starts-at-first;
                left = refl;
                tried = omega (arith, z.point.tried, less-size);
                dropped = z.point.dropped;
              };
              is = z.is ∙ ap (go_on i left) (settled-next i s z.position z.table (tally_of n) h (none_left ok z.point v.low reached step)
                  ∙ ap (λ (x : ℕ). settled_cut i x 0 (going z.table (tally_of n))) (sym (add-one s)));
            };
      }

  -- ---- a candidate

  module _ {c : step.Candidate} (step : Steps (layer_at i s starts) at (Some c)) where
    shorter : length (rest (layer_at i s starts) at) ≡ 1 + length (rest (layer_at i s starts) c.next)
    shorter = ap length (step_left step) ∙ omega arith

    -- the budget is spent
    pub stops-more : left ≡ 0 → Ran i budget from t t' (more_state s at n)
    stops-more e = record {
      state-in = record {
        kept_in = v.kept_in;
        kept-tried = v.kept-tried;
        size_in = (v.low, v.high);
        left_in = v.within.0;
        right-in = v.within.1;
        operator-in = omega (arith, v.within.2, list-end i s at.split);
      };
      spends = omega (arith, v.spent);
      keeps = omega (arith, v.gained);
      runs = λ _ t₀ k j ok there w.
          let z = v.runs t₀ k j ok there w in
          let p = z.point in
          let k' = z.table in
          let agree = starts-in p.stands (omega (arith, v.high, a.bound-in)) in
          let same = cursor-same s m constants unary binary starts (starts_in k') v.low reached
          (omega (arith, starts-long (map (λ c. c.node.size) k') (length k'), v.high, a.bound-in)) agree z.position in
          let y : at ≡ cursor_after (layer_at i s (starts_in k')) z.position = p.cursor ∙ same in
          let d = left-same s m constants unary binary starts (starts_in k') v.low reached
          (omega (arith, starts-long (map (λ c. c.node.size) k') (length k'), v.high, a.bound-in)) agree at z.position p.left in
          let o = rest-same s m constants unary binary starts (starts_in k') v.low reached
          (omega (arith, starts-long (map (λ c. c.node.size) k') (length k'), v.high, a.bound-in)) agree at in
          let u = some_left ok p v.low reached v.begun.rises step in
          subst (λ (x : Cut (List ℕ)). StandsIn i t₀ x (more_state s at n) t')
          (sym (z.is ∙ turn-none i left _ e ∙ settled-more i s z.position k' (tally_of n) v.high u))
          (record {
            is = ap₂ (λ (x : Cursor) (b : Counts). more_state s x b) y (same-counts n k' p.stands.counted);
            holds = p.stands.holds.are;
            sound = record {
              size_in = (v.low, v.high);
              few = omega (arith, p.stands.counted, v.kept_in);
              fine = p.stands.holds.fine;
              rising = p.stands.rising;
              small = p.stands.small;
              next = u;
              left = subst (λ (x : Cursor). ahead (layer_at i s (starts_in k')) x ≡ drop z.position (ahead (layer_at i s (starts_in k')) (first (starts_in k') s))) y d;
              tried = subst (λ (x : Cursor). n.tried + todo i (starts_in k') s x ≤ in_all) y (omega (arith, ap length o, p.tried));
              dropped = p.dropped;
            };
          });
    }

    -- it is tried
    abbrev node : Node
    node = record { code = c.code; left = c.left; right = c.right; size = s }

    module _ (some : 1 ≤ left) where
      tries : (j : ℕ) (k : Table) → (ok : Passes i) → {t₀ : Cols} → PointAt i t₀ t' starts s at n k j
          → go_on i left (settled_cut i s j (going k (tally_of n)))
          ≡ go_on i (left - 1) (settled_cut i s (suc j) (consider (offer i) i.room (going k (tally_of n)) (make i k s (cand c.code c.left.0 c.right.0))))
      tries j k ok p =
          ap (go_on i left) (settled-more i s j k (tally_of n) v.high (some_left ok p v.low reached v.begun.rises step))
          ∙ turn_one i left (left - 1) _ (omega arith)
          ∙ ap (go_on i (left - 1)) (one-step i s j k (tally_of n) (make i k s (cand c.code c.left.0 c.right.0)) (next-is ok p v.low reached v.begun.rises step))

      module _ {masks rows rows' : List ℕ} {u : Cols} (ms : Passes i → Masks i masks) (long : most_sessions ≤ length rows) {d : Fate}
          (judged : Judged r m room marks words masks node n.kept rows rows' t' u d) where
        more-counted : Grown i n (counted_by d n)
        more-counted = grown a.room_in r marks node rows' n t' u d v.kept_in v.kept-tried judged.tests

        does : {t₀ : Cols} (k : Table) (j : ℕ) → Passes i → RoomThere i t₀ → PointAt i t₀ t' starts s at n k j → Does i node t₀ u k (make i k s (cand c.code c.left.0 c.right.0)) d
        does k j ok there p = judge-walks r m room marks words masks node n.kept rows rows' t' u d judged bound constants lengths unary binary _ k (make i k s (cand c.code c.left.0 c.right.0))
            (record {
              passes = ok;
              few = v.kept_in;
              room = λ h. room_at n.kept there h;
              masks-are = ms ok;
              rows-there = omega (arith, ok.sessions-in, long);
              holds = p.stands.holds;
              counted = p.stands.counted;
              posed = posed ok p v.low reached v.begun.rises step;
            })

        fits : {t₀ : Cols} {k : Table} {j : ℕ} → PointAt i t₀ t' starts s at n k j → n.tried + 1 < 2 ^ 64
        fits p = omega (arith, p.tried, shorter)

        -- the walk goes on
        pub turn-goes-on : SameLengths t u → end_after d ≡ End.More → Loop i budget from t u starts s c.next (counted_by d n) (left - 1)
        turn-goes-on same e =
            let w = step-within step v.begun.rises in
            let g = more-counted in
            record {
              asks = a;
              low = v.low;
              high = v.high;
              kept_in = g.kept_in;
              kept-tried = g.kept-tried;
              places = omega (arith, v.places, g.kept_more);
              within = (omega (arith, w.left_in, v.places, g.kept_more), omega (arith, w.right-in, v.places, g.kept_more), w.operator-in);
              left_in = omega (arith, v.left_in);
              spent = omega (arith, v.spent, g.tried, v.left_in);
              gained = omega (arith, v.gained, g.kept-one, v.left_in);
              long = same;
              begun = v.begun;
              runs = λ t₀ k j ok there y.
                  let z = v.runs t₀ k j ok there y in
                  let x = make i z.table s (cand c.code c.left.0 c.right.0) in
                  let b = does z.table z.position ok there z.point in
                  record {
                    table = kept (comes d x z.table (tally_of n));
                    position = suc z.position;
                    point = turn-stands ok z.point v.low reached v.begun.rises step d e (omega (arith, v.kept_in, a.room_in)) b;
                    is = z.is ∙ tries z.position z.table ok z.point
                        ∙ ap (λ (st : WalkState (List ℕ)). go_on i (left - 1) (settled_cut i s (suc z.position) st))
                        (b.is (tally_of n) ∙ comes-going d e x z.table n z.point.stands.counted (fits z.point) v.kept-tried z.point.dropped);
                  };
            }

        -- or has ended
        pub stops : (end_after d ≡ End.More → ⊥) → Ran i budget from t u (over_state s n d node)
        stops e =
            let g = more-counted in
            record {
              state-in = record {
                kept_in = g.kept_in;
                kept-tried = g.kept-tried;
                size_in = (v.low, v.high);
                left_in = omega arith;
                right-in = omega arith;
                operator-in = omega arith;
              };
              spends = omega (arith, v.spent, g.tried, v.left_in);
              keeps = omega (arith, v.gained, g.kept-one, v.left_in);
              runs = λ _ t₀ k j ok there y.
                  let z = v.runs t₀ k j ok there y in
                  let x = make i z.table s (cand c.code c.left.0 c.right.0) in
                  let b = does z.table z.position ok there z.point in
                  stands-over i t₀ _ s (suc z.position) (left - 1) z.table n z.point.stands.counted (fits z.point) node x refl refl d e b _ (b.is (tally_of n))
                  (z.is ∙ tries z.position z.table ok z.point);
            }

-- the masks are those of the sessions
pub masked : (i : Input) (masks : List ℕ) → Masked i.recording.sessions i.recording.lengths masks → Passes i → Masks i masks
masked i masks w ok =
    (masks-made i ok (replicate {A = ℕ} most_sessions 0) masks w.done (omega (arith, ok.sessions-in, length-replicate {A = ℕ} most_sessions 0)) w.answer).1
