-- A point of the walk: what a candidate leaves where the walk goes on, and the candidates that are left as the walk has them.
-- Assumes nothing.
use mathlib.Core.Path.{◌≡◌, refl, sym, ap, ◌∙◌}
use mathlib.Core.List.{List, [], ◌∷◌, ◌++◌, map}
use Prim.Native.Nat.{ℕ, zero, suc, ◌+◌, ◌^◌, ◌≤◌, ◌<◌}
use native.Mathlib.Omega.{arith}
use native.Mathlib.Decide.{dec_le}
use lib.ListN.{length, take, drop, length-append, length-drop, get_or-append}
use lib.Seq.{get_or-append_seam}
use Rattle.walk.specs.Walk.{Candidate, going, kept, layer}
use Rattle.walk.specs.Input.{Input, Passes, offer}
use Rattle.walk.specs.Kept.{Table}
use Rattle.walk.proofs.Places.{Split, split-push}
use Rattle.split.specs.declared.Cursor.{Cursor}
use Rattle.split.specs.declared.Candidate as step
use Rattle.std.specs.Prelude.{None, Some}
use Rattle.state.specs.declared.End.{End}
use Rattle.state.proofs.Ends.{not_on}
use Rattle.split.specs.Split.{Cand, cand}
use Rattle.order.specs.Size.{first_place}
use Rattle.order.specs.Ahead.{ahead, candidate_at, rest, first, cursor_after}
use Rattle.order.specs.Steps.{Rises, Steps}
use Rattle.order.proofs.Cursors.{after-step}
use Rattle.order.proofs.Layers.{first-layer}
use Rattle.order.proofs.Rest.{step_left, step-safe, end-left}
use Rattle.rows.specs.Formulas.{no_candidate, Makes}
use Rattle.table.specs.Slices.{Cols}
use Rattle.table.specs.Formulas.{HoldsKept}
use Rattle.counting.specs.declared.Fate.{Fate}
use Rattle.counting.specs.declared.Fate.TheVariants.{Found, Full}
use Rattle.counting.specs.declared.Fate.TheVariants.{Dropped, Kept}
use Rattle.counting.specs.Counting.{comes}
use Rattle.candidate.specs.Judge.{Posed, Does}
use Rattle.counting.specs.declared.Counts.{Counts}
use Rattle.counting.specs.Counting.{tally_of, counted_by}
use Rattle.counting.proofs.Tallies.{counts-are-walks}
use Rattle.turns.specs.Costs.{in_all}
use Rattle.turns.specs.Standing.{layer_at, size_at, todo}
use Rattle.onward.specs.Onward.{end_after}
use Rattle.turns.proofs.Making.{make, made-written, safe-makes, offered}

-- ---- where the walk is

-- the slices hold the table k, of sizes up to s, which begin where `starts` says
pub record Standing (i : Input) (t₀ t : Cols) (k : Table) (starts : List ℕ) (s kept : ℕ) : Type 0 where
  pub counted : kept ≡ length k
  pub holds : HoldsKept i k t₀ t
  pub rising : (p q : ℕ) → p ≤ q → q < length k → size_at k p ≤ size_at k q
  pub small : (p : ℕ) → p < length k → size_at k p ≤ s
  pub begins : (u : ℕ) → u ≤ s → Split no_candidate k u (first_place starts u)

-- the cursor is the one after j candidates of the size, and there were no more candidates than all sizes have
pub record PointAt (i : Input) (t₀ t : Cols) (starts : List ℕ) (s : ℕ) (at : Cursor) (n : Counts) (k : Table) (j : ℕ) : Type 0 where
  pub stands : Standing i t₀ t k starts s n.kept
  pub cursor : at ≡ cursor_after (layer_at i s starts) j
  pub left : ahead (layer_at i s starts) at ≡ drop j (ahead (layer_at i s starts) (first starts s))
  pub tried : n.tried + todo i starts s at ≤ in_all
  pub dropped : n.dropped ≤ n.tried

-- ---- what a candidate leaves, where the walk goes on: the table as it was, or with this formula

-- the counts are the walk's, where they don't reach the largest number
pub comes-going : (v : Fate) → end_after v ≡ End.More → (x : Candidate (List ℕ)) (k : Table) (n : Counts) → n.kept ≡ length k → n.tried + 1 < 2 ^ 64 → n.kept ≤ n.tried
    → n.dropped ≤ n.tried → comes v x k (tally_of n) ≡ going (kept (comes v x k (tally_of n))) (tally_of (counted_by v n))
comes-going Found e x k n c f l d = absurd (not_on refl e)
comes-going Dropped e x k n c f l d = ap (going k) (sym (counts-are-walks Dropped n x k c f l d).0)
comes-going Full e x k n c f l d = absurd (not_on refl e)
comes-going Kept e x k n c f l d = ap (going (k ++ (x ∷ []))) (sym (counts-are-walks Kept n x k c f l d).0)

module _ {i : Input} {t₀ t t' : Cols} {k : Table} {starts : List ℕ} {s kept₀ : ℕ} (w : Standing i t₀ t k starts s kept₀) (x : Candidate (List ℕ))
    (size : x.node.size ≡ s) where
  module _ {kept' : ℕ} (h : HoldsKept i (k ++ (x ∷ [])) t₀ t') (counted : kept' ≡ length (k ++ (x ∷ []))) where
    more : length (k ++ (x ∷ [])) ≡ length k + 1
    more = length-append k (x ∷ [])

    old-size : (p : ℕ) → p < length k → size_at (k ++ (x ∷ [])) p ≡ size_at k p
    old-size p l = ap (λ (c : Candidate (List ℕ)). c.node.size) (get_or-append k (x ∷ []) no_candidate p l)

    new-size : (p : ℕ) → length k ≤ p → p < length (k ++ (x ∷ [])) → size_at (k ++ (x ∷ [])) p ≡ s
    new-size p l m =
        let e : p ≡ length k = omega (arith, more) in
        ap (λ (q : ℕ). size_at (k ++ (x ∷ [])) q) e ∙ ap (λ (c : Candidate (List ℕ)). c.node.size) (get_or-append_seam k x [] no_candidate) ∙ size

    standing-more : Standing i t₀ t' (k ++ (x ∷ [])) starts s kept'
    standing-more = record {
      counted = counted;
      holds = h;
      rising = λ p q a b. elim (dec_le (suc q) (length k)) [
        | yes z ↦ omega (arith, old-size p (omega arith), old-size q z, w.rising p q a z)
        | no z ↦ elim (dec_le (suc p) (length k)) [
          | yes y ↦ omega (arith, old-size p y, new-size q (omega arith) b, w.small p y)
          | no y ↦ omega (arith, new-size p (omega arith) (omega arith), new-size q (omega arith) b)
        ]
      ];
      small = λ p a. elim (dec_le (suc p) (length k)) [
        | yes z ↦ omega (arith, old-size p z, w.small p z)
        | no z ↦ omega (arith, new-size p (omega arith) a)
      ];
      begins = λ u l. split-push no_candidate k u (first_place starts u) x (w.begins u l) (omega (arith, size));
    }

  pub standing-after : (v : Fate) → end_after v ≡ End.More → (n : Counts) → n.kept ≡ kept₀ → n.kept + 1 < 2 ^ 64 → HoldsKept i (kept (comes v x k (tally_of n))) t₀ t'
      → Standing i t₀ t' (kept (comes v x k (tally_of n))) starts s (counted_by v n).kept
  standing-after Found e n c f h = absurd (not_on refl e)
  standing-after Dropped e n c f h = record { counted = c ∙ w.counted; holds = h; rising = w.rising; small = w.small; begins = w.begins }
  standing-after Full e n c f h = absurd (not_on refl e)
  standing-after Kept e n c f h = standing-more h (omega (arith, c, w.counted, length-append k (x ∷ [])))

-- ---- the candidates that are left, as the walk has them

drop-map : {A B : Type 0} (f : A → B) (l : List A) (j : ℕ) → drop j (map f l) ≡ map f (drop j l)
drop-map f [] zero = refl
drop-map f [] (suc j) = refl
drop-map f (x ∷ l) zero = refl
drop-map f (x ∷ l) (suc j) = drop-map f l j

module _ {i : Input} (ok : Passes i) {t₀ t : Cols} {k : Table} {starts : List ℕ} {s j : ℕ} {at : Cursor} {n : Counts} (w : PointAt i t₀ t starts s at n k j)
    (low : 1 ≤ s) (reached : s < length starts) where
  layer-is : map (make i k s) (rest (layer_at i s starts) (first starts s)) ≡ layer (offer i) s k
  layer-is = first-layer (offer i) no_candidate k (layer_at i s starts) (offered i ok s starts k) (λ u a b. w.stands.begins u b) low reached

  pub layer-left : drop j (layer (offer i) s k) ≡ map (make i k s) (rest (layer_at i s starts) at)
  unfolding rest
  layer-left =
      let g = layer_at i s starts in
      ap (drop j) (sym layer-is) ∙ drop-map (make i k s) (map (candidate_at g) (ahead g (first starts s))) j
      ∙ ap (map (make i k s)) (drop-map (candidate_at g) (ahead g (first starts s)) j ∙ ap (map (candidate_at g)) (sym w.left))

  -- none is left
  pub none_left : Steps (layer_at i s starts) at None → length (layer (offer i) s k) ≤ j
  none_left step = omega (arith, ap length (layer-left ∙ ap (map (make i k s)) (end-left step)), length-drop j (layer (offer i) s k))

  -- ---- or the one that a step tells

  module _ (rises : Rises (layer_at i s starts)) {c : step.Candidate} (step : Steps (layer_at i s starts) at (Some c)) where
    abbrev told : Cand
    told = cand c.code c.left.0 c.right.0

    first-left : drop j (layer (offer i) s k) ≡ make i k s told ∷ map (make i k s) (rest (layer_at i s starts) c.next)
    first-left = layer-left ∙ ap (map (make i k s)) (step_left step)

    pub some_left : j < length (layer (offer i) s k)
    some_left = omega (arith, ap length first-left, length-drop j (layer (offer i) s k))

    pub next-is : take 1 (drop j (layer (offer i) s k)) ≡ make i k s (cand c.code c.left.0 c.right.0) ∷ []
    next-is = ap (take 1) first-left

    makes : Makes i.recording.propositions (length k) c.code c.left.0 c.right.0
    makes = safe-makes i ok s starts (length k) told (w.stands.begins s (omega arith)).inside (step-safe step rises)

    pub posed : Posed i k (record { code = c.code; left = c.left; right = c.right; size = s }) (make i k s (cand c.code c.left.0 c.right.0))
    posed = record { node-is = refl; makes = makes; matrix-is = made-written i k makes }

    module _ {t' : Cols} (v : Fate) (goes : end_after v ≡ End.More) (kept-fits : n.kept + 1 < 2 ^ 64)
        (y : Does i (record { code = c.code; left = c.left; right = c.right; size = s }) t₀ t' k (make i k s (cand c.code c.left.0 c.right.0)) v) where
      shorter : length (rest (layer_at i s starts) at) ≡ 1 + length (rest (layer_at i s starts) c.next)
      shorter = ap length (step_left step) ∙ omega arith

      fewer : (u : Fate) → end_after u ≡ End.More → (counted_by u n).dropped ≤ (counted_by u n).tried
      fewer Found e = absurd (not_on refl e)
      fewer Dropped e = omega (arith, w.dropped)
      fewer Full e = absurd (not_on refl e)
      fewer Kept e = omega (arith, w.dropped, w.tried, shorter)

      more-tried : (u : Fate) → (counted_by u n).tried ≤ n.tried + 1
      more-tried Found = omega arith
      more-tried Dropped = omega arith
      more-tried Full = omega arith
      more-tried Kept = omega arith

      pub turn-stands : PointAt i t₀ t' starts s c.next (counted_by v n) (kept (comes v (make i k s (cand c.code c.left.0 c.right.0)) k (tally_of n))) (suc j)
      turn-stands =
          let z = after-step (layer_at i s starts) at j step w.left in
          record {
            stands = standing-after w.stands (make i k s told) refl v goes n refl kept-fits (y.holds (tally_of n));
            cursor = z.0;
            left = z.1;
            tried = omega (arith, w.tried, shorter, more-tried v);
            dropped = fewer v goes;
          }
