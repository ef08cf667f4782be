-- The cursor after so many candidates of a size: a step leads from one to the next, and of the table it depends on no more than where the sizes up to
-- this one begin.
-- Assumes nothing.
use mathlib.Core.Path.{◌≡◌, refl, sym, ap, ap₂, ◌∙◌}
use mathlib.Core.Bool.{Bool, true, false, cond}
use mathlib.Core.List.{List, [], ◌∷◌, ◌++◌, map}
use Prim.Native.Nat.{ℕ, zero, suc, ◌+◌, ◌-◌, ◌/◌, ◌≤◌, ◌<◌}
use native.Mathlib.Omega.{arith}
use Rattle.std.specs.Prelude.{Some}
use native.Mathlib.Decide.{dec_le}
use lib.ListN.{length, get_or, drop}
use lib.Dec.{ltb}
use Rattle.rules.specs.Lists.{each}
use Rattle.split.specs.declared.Cursor.{Cursor}
use Rattle.split.specs.declared.Candidate.{Candidate}
use Rattle.order.specs.Size.{Layer, layer_of, first_place}
use Rattle.split.specs.Split.{range, cursor, column, part_from}
use Rattle.order.specs.Ahead.{leaf_cursor, left_start, left_end, right_start, right_end, split_codes, split_cursors, part_ahead, parts_ahead, ahead}
use Rattle.order.specs.Ahead.{candidate_at, next_cursor, rest, first, cursor_after}
use Rattle.order.specs.Steps.{Rises, CursorWithin, Steps}
use Rattle.split.proofs.Loops.{resume-in, resume-out}
use Rattle.order.proofs.Lists.{each-range}
use Rattle.order.proofs.Sizes.{ahead-leaves, ahead-parts}
use Rattle.order.proofs.Rest.{step-ahead}

-- the first of what is left of a list
drop-first : {A : Type 0} (l : List A) (j : ℕ) (d x : A) (xs : List A) → drop j l ≡ x ∷ xs → (get_or l j d ≡ x) × (drop (suc j) l ≡ xs)
drop-first [] zero d x xs e = let z : ◌≡◌ {A = ℕ} 0 1 = cc e in absurd (omega arith)
drop-first [] (suc j) d x xs e = let z : ◌≡◌ {A = ℕ} 0 1 = cc e in absurd (omega arith)
drop-first {A} (y ∷ l) zero d x xs e = (cc e, cc e)
drop-first (y ∷ l) (suc j) d x xs e = drop-first l j d x xs e

-- a step from the cursor after j leads to the one after j + 1
pub after-step : (g : Layer) (at : Cursor) (j : ℕ) {c : Candidate} → Steps g at (Some c)
    → ahead g at ≡ drop j (ahead g (first g.starts g.size))
    → (c.next ≡ cursor_after g (suc j)) × (ahead g c.next ≡ drop (suc j) (ahead g (first g.starts g.size)))
unfolding cursor_after
after-step g at j {c = c} s e =
    let (here, f, n) = step-ahead s in
    let w = drop-first (ahead g (first g.starts g.size)) j (leaf_cursor 0) here (ahead g c.next) (sym e ∙ f) in
    (n ∙ ap (next_cursor g) (sym w.0), sym w.1)

-- a size's first cursor is within
pub first-within : (g : Layer) → Rises g → CursorWithin g (first g.starts g.size)
first-within g r = record {
  operator-in = omega arith;
  left_in = go (ltb 1 g.size) (r (g.size - 1) (omega arith));
  right-in = omega arith;
}
  where
    go : (b : Bool) → get_or g.starts (g.size - 1) 0 ≤ first_place g.starts g.size → cond b (get_or g.starts (g.size - 1) 0) 0 ≤ first_place g.starts g.size
    go true h = h
    go false h = omega arith

-- ---- starts that agree up to the size

module _ (s m constants : ℕ) (unary binary x y : List ℕ) (low : 1 ≤ s) (in-x : s < length x) (in-y : s < length y)
    (same : (u : ℕ) → u ≤ s → first_place x u ≡ first_place y u) where
  abbrev g : Layer
  g = layer_of s x m constants unary binary

  abbrev h : Layer
  h = layer_of s y m constants unary binary

  pub record Ends (i : ℕ) : Type 0 where
    pub left-start : left_start s x i ≡ left_start s y i
    pub left-end : left_end s x i ≡ left_end s y i
    pub right-start : right_start s x i ≡ right_start s y i
    pub right-end : right_end s x i ≡ right_end s y i

  ends : (i : ℕ) → i < (s + 1) / 2 → Ends i
  ends zero l = record { left-start = same (s - 1) (omega arith); left-end = same (s - 1 + 1) (omega arith); right-start = refl; right-end = refl }
  ends (suc i) l = record {
    left-start = same (suc i) (omega arith);
    left-end = same (suc i + 1) (omega arith);
    right-start = same (s - 1 - suc i) (omega arith);
    right-end = same (s - 1 - suc i + 1) (omega arith);
  }

  ahead_in : (at : Cursor) (i : ℕ) → Ends i → part_ahead g at i ≡ part_ahead h at i
  ahead_in at i e =
      let codes = split_codes unary binary i in
      ap (λ (z : ℕ). part_from codes z (right_start s x i) (right_end s x i) at) e.left-end
      ∙ ap (λ (z : ℕ). part_from codes (left_end s y i) z (right_end s x i) at) e.right-start
      ∙ ap (λ (z : ℕ). part_from codes (left_end s y i) (right_start s y i) z at) e.right-end

  part_same : (i : ℕ) → Ends i → split_cursors g i ≡ split_cursors h i
  part_same i e =
      let codes = split_codes unary binary i in
      ap (λ (z : ℕ). each (range z (left_end s x i)) (column codes i (right_start s x i) (right_end s x i))) e.left-start
      ∙ ap (λ (z : ℕ). each (range (left_start s y i) z) (column codes i (right_start s x i) (right_end s x i))) e.left-end
      ∙ ap (λ (z : ℕ). each (range (left_start s y i) (left_end s y i)) (column codes i z (right_end s x i))) e.right-start
      ∙ ap (λ (z : ℕ). each (range (left_start s y i) (left_end s y i)) (column codes i (right_start s y i) z)) e.right-end

  parts_same : (at : Cursor) → parts_ahead g at ≡ parts_ahead h at
  unfolding parts_ahead
  parts_same at = elim (dec_le (suc at.split) ((s + 1) / 2)) [
    | yes l ↦ resume-in (part_ahead g at) (split_cursors g) at.split ((s + 1) / 2) l
        ∙ ap₂ (λ (a b : List Cursor). a ++ b) (ahead_in at at.split (ends at.split l))
        (each-range (at.split + 1) ((s + 1) / 2) (split_cursors g) (split_cursors h) (λ p a b. part_same p (ends p b)))
        ∙ sym (resume-in (part_ahead h at) (split_cursors h) at.split ((s + 1) / 2) l)
    | no l ↦ resume-out (part_ahead g at) (split_cursors g) at.split ((s + 1) / 2) (omega arith)
        ∙ sym (resume-out (part_ahead h at) (split_cursors h) at.split ((s + 1) / 2) (omega arith))
  ]

  ahead-same : (at : Cursor) → ahead g at ≡ ahead h at
  ahead-same at = elim (dec_le s 1) [
    | yes l ↦ ahead-leaves g in-x (omega arith) at ∙ sym (ahead-leaves h in-y (omega arith) at)
    | no l ↦ ahead-parts g in-x (λ e. omega arith) at ∙ parts_same at ∙ sym (ahead-parts h in-y (λ e. omega arith) at)
  ]

  first-same : first x s ≡ first y s
  first-same = ap (λ (z : ℕ). cursor 0 (cond (ltb 1 s) z 0) 0 0 false) (same (s - 1) (omega arith))

  firsts_same : ahead (layer_of s x m constants unary binary) (first x s) ≡ ahead (layer_of s y m constants unary binary) (first y s)
  firsts_same = ahead-same (first x s) ∙ ap (ahead h) first-same

  pub cursor-same : (j : ℕ) → cursor_after (layer_of s x m constants unary binary) j ≡ cursor_after (layer_of s y m constants unary binary) j
  unfolding cursor_after next_cursor
  cursor-same zero = first-same
  cursor-same (suc j) = ap (λ (cs : List Cursor). next_cursor h (get_or cs j (leaf_cursor 0))) firsts_same

  -- and what is left at it
  pub left-same : (at : Cursor) (j : ℕ)
      → ahead (layer_of s x m constants unary binary) at ≡ drop j (ahead (layer_of s x m constants unary binary) (first x s))
      → ahead (layer_of s y m constants unary binary) at ≡ drop j (ahead (layer_of s y m constants unary binary) (first y s))
  left-same at j e = sym (ahead-same at) ∙ e ∙ ap (drop j) firsts_same

  pub rest-same : (at : Cursor) → rest (layer_of s x m constants unary binary) at ≡ rest (layer_of s y m constants unary binary) at
  unfolding rest candidate_at
  rest-same at = ap (map (candidate_at h)) (ahead-same at)
