-- The splits of a size from a cursor on, and the whole size: from any cursor, whatever its numbers, and from the first.
-- Assumes nothing.
use mathlib.Core.Path.{◌≡◌, refl, sym, ap, ◌∙◌, subst}
use mathlib.Core.Bool.{Bool, true, false, cond}
use mathlib.Core.List.{List, [], ◌∷◌, ◌++◌}
use Prim.Native.Nat.{ℕ, zero, suc, ◌+◌, ◌-◌, ◌/◌, ◌≤◌, ◌<◌}
use native.Mathlib.Omega.{arith}
use Rattle.std.specs.Prelude.{Option, None}
use Rattle.std.specs.Option.{is_some}
use Rattle.std.proofs.lemmas.Bool.{true≢false}
use native.Mathlib.Decide.{dec_le}
use lib.ListN.{length}
use borrow.Author.Tests.{lt-ltb, le-ltb, eq-eqb, ne_eqb}
use Rattle.rules.specs.Lists.{each}
use Rattle.split.specs.declared.Cursor.{Cursor}
use Rattle.split.specs.declared.Part.{Part}
use Rattle.split.specs.declared.Candidate.{Candidate}
use Rattle.split.specs.Split.{cand, range, cursor, cand_in, halfway, after_in, Takes, InPart, CursorStands}
use Rattle.order.specs.Size.{Layer, first_place}
use Rattle.order.specs.Ahead.{left_end, right_end}
use Rattle.order.specs.Ahead.{leaves_ahead, leaf_at, after_leaf, split_codes, codes_in, split_cursors, part_ahead, parts_ahead, ahead, candidate_at, next_cursor}
use Rattle.order.specs.Steps.{CodeIn, Rises, Safe, CursorWithin, Steps}
use Rattle.order.specs.Inner.{LeafAhead, InLeaves, CursorStandsIn, part_of, part_start, PartsTake}
use Rattle.split.proofs.Loops.{resume-in, resume-out, resume-done, resume-fresh}
use Rattle.split.proofs.Splits.{part-fresh}
use Rattle.order.proofs.Leaves.{leaf-safe}

-- ---- the splits

module _ (g : Layer) where
  abbrev half : ℕ
  half = (g.size + 1) / 2

  -- nothing of split i is done
  part-begins : (i : ℕ) → 1 ≤ i → part_ahead g (part_start g.starts g.size i) i ≡ split_cursors g i
  part-begins zero h = absurd (omega arith)
  part-begins (suc i) h = part-fresh g.binary (suc i) _ _ _ _

  parts-begin : (i : ℕ) → 1 ≤ i → parts_ahead g (part_start g.starts g.size i) ≡ each (range i half) (split_cursors g)
  unfolding parts_ahead
  parts-begin i h = resume-fresh (part_ahead g (part_start g.starts g.size i)) (split_cursors g) i half (part-begins i h)

  pub parts_out : (at : Cursor) → half ≤ at.split → parts_ahead g at ≡ []
  unfolding parts_ahead
  parts_out at h = resume-out (part_ahead g at) (split_cursors g) at.split half h

  -- the cursor's split is done
  pub parts-done : (at : Cursor) → part_ahead g at at.split ≡ [] → parts_ahead g at ≡ parts_ahead g (part_start g.starts g.size (at.split + 1))
  unfolding parts_ahead
  parts-done at e = resume-done (part_ahead g at) (split_cursors g) at.split half e ∙ sym (parts-begin (at.split + 1) (omega arith))

  -- the cursor is in split i
  parts_in : (at : Cursor) (i : ℕ) → at.split ≡ i → i < half → parts_ahead g at ≡ part_ahead g at i ++ each (range (i + 1) half) (split_cursors g)
  unfolding parts_ahead
  parts_in at i e =
      subst (λ (i : ℕ). i < half → parts_ahead g at ≡ part_ahead g at i ++ each (range (i + 1) half) (split_cursors g)) e
      (resume-in (part_ahead g at) (split_cursors g) at.split half)

after-split : (codes : List ℕ) (at : Cursor) → (after_in codes at).split ≡ at.split
unfolding after_in
after-split codes at = go (halfway codes at)
  where
    go : (b : Bool) → (cond b (cursor at.split at.left at.right at.operator true) (cursor at.split at.left at.right (at.operator + 1) false)).split ≡ at.split
    go true = refl
    go false = refl

-- a step in its split
pub parts-step : (g : Layer) (at : Cursor) → at.split < (g.size + 1) / 2 → {step : Option Candidate} → is_some step ≡ true
    → InPart (codes_in g at.split) (part_of g.starts g.size at.split) at step
    → PartsTake g at step
parts-step g at h e (Takes.ends f d) = absurd (true≢false (sym e ∙ ap is_some d))
parts-step g at h e (Takes.takes here f d p) =
    let i = at.split in
    let codes = codes_in g i in
    let tail = each (range (i + 1) ((g.size + 1) / 2)) (split_cursors g) in
    let same : codes_in g here.split ≡ codes_in g i = ap (codes_in g) p.split-is in
    Takes.takes here
    (rw same (parts_in g at i refl h ∙ ap (λ (cs : List Cursor). cs ++ tail) f
    ∙ ap (λ (cs : List Cursor). here ∷ cs) (sym (parts_in g (after_in codes here) i (after-split codes here ∙ p.split-is) h))))
    (rw same d)
    record {
      split-in = omega (arith, p.split-is);
      stands = subst (λ (j : ℕ). CursorStands j (codes_in g j) (left_end g.size g.starts j) (right_end g.size g.starts j) here) (sym p.split-is) p;
    }

-- the places of a split as the program has them
pub part-first : (starts : List ℕ) (s i : ℕ) → i ≡ 0 → 1 ≤ s → (record { end = first_place starts s; from = 0; to = 1 }) ≡ part_of starts s i
part-first starts s zero h k = let e : s ≡ s - 1 + 1 = omega arith in ap (λ (t : ℕ). record { end = first_place starts t; from = 0; to = 1 }) e
part-first starts s (suc i) h k = absurd (omega arith)

pub part-later : (starts : List ℕ) (s i : ℕ) → 1 ≤ i → i < s
    → (record { end = first_place starts (i + 1); from = first_place starts (s - 1 - i); to = first_place starts (s - i) }) ≡ part_of starts s i
part-later starts s zero h k = absurd (omega arith)
part-later starts s (suc i) h k = let e : s - suc i ≡ s - 1 - suc i + 1 = omega arith in rw e

pub in-later : (unary binary : List ℕ) (places : Part) (at : Cursor) (step : Option Candidate) → (at.split ≡ 0 → ⊥) → InPart binary places at step
    → InPart (split_codes unary binary at.split) places at step
in-later unary binary places at step h w = subst (λ (codes : List ℕ). InPart codes places at step) (go at.split h) w
  where
    go : (i : ℕ) → (i ≡ 0 → ⊥) → binary ≡ split_codes unary binary i
    go zero h = absurd (h refl)
    go (suc i) h = refl

-- ---- what holds of every candidate

module _ (g : Layer) (here : Cursor) (rises : Rises g) where
  one-safe : (code l q : ℕ) (second : Bool) → CodeIn g.binary code → l < first_place g.starts g.size → q < first_place g.starts g.size
      → Safe g (cand code (cond second q l) (cond second l q))
  one-safe code l q true w h k = Safe.binary w k h
  one-safe code l q false w h k = Safe.binary w h k

  part-safe : (i : ℕ) → 2 ≤ g.size → i < (g.size + 1) / 2
      → CursorStands i (codes_in g i) (left_end g.size g.starts i) (right_end g.size g.starts i) here → Safe g (cand_in (codes_in g i) here)
  part-safe zero h k p =
      let e : g.size - 1 + 1 ≡ g.size = omega arith in
      let l : here.left < first_place g.starts g.size = rw e at p.left_in in
      rw (p.once refl) (Safe.unary (record { position = here.operator; within = p.operator-in; is = refl }) l (omega (arith, p.right-in)))
  part-safe (suc i) h k p =
      let l = rises (suc i + 1) (omega arith) in
      let q = rises (g.size - 1 - suc i + 1) (omega arith) in
      one-safe _ _ _ here.second (record { position = here.operator; within = p.operator-in; is = refl })
      (omega (arith, p.left_in)) (omega (arith, p.right-in))

-- ---- a size

module _ (g : Layer) where
  pub ahead-beyond : length g.starts ≤ g.size → (at : Cursor) → ahead g at ≡ []
  unfolding ahead
  ahead-beyond h at = rw (le-ltb g.size (length g.starts) h)

  module _ (reached : g.size < length g.starts) where
    pub ahead-leaves : g.size ≡ 1 → (at : Cursor) → ahead g at ≡ leaves_ahead g.propositions g.constants at
    unfolding ahead
    ahead-leaves e at = rw (lt-ltb g.size (length g.starts) reached, eq-eqb g.size 1 e)

    pub ahead-parts : (g.size ≡ 1 → ⊥) → (at : Cursor) → ahead g at ≡ parts_ahead g at
    unfolding ahead
    ahead-parts e at = rw (lt-ltb g.size (length g.starts) reached, ne_eqb g.size 1 e)

  pub leaf-candidate : g.size ≡ 1 → (here : Cursor) → candidate_at g here ≡ leaf_at g.propositions g.constants here
  unfolding candidate_at
  leaf-candidate e here = rw (eq-eqb g.size 1 e)

  leaf-after : g.size ≡ 1 → (here : Cursor) → next_cursor g here ≡ after_leaf here
  unfolding next_cursor
  leaf-after e here = rw (eq-eqb g.size 1 e)

  pub part-candidate : (g.size ≡ 1 → ⊥) → (here : Cursor) → candidate_at g here ≡ cand_in (codes_in g here.split) here
  unfolding candidate_at
  part-candidate e here = rw (ne_eqb g.size 1 e)

  part-after : (g.size ≡ 1 → ⊥) → (here : Cursor) → next_cursor g here ≡ after_in (codes_in g here.split) here
  unfolding next_cursor
  part-after e here = rw (ne_eqb g.size 1 e)

  -- the cursor after one is within
  leaf-within : g.size ≡ 1 → (here : Cursor) → LeafAhead g.propositions g.constants here → CursorWithin g (after_leaf here)
  leaf-within e here p = record { operator-in = rw (eq-eqb g.size 1 e) (omega (arith, p.operator-in)); left_in = omega arith; right-in = omega arith }

  left_below : Rises g → 2 ≤ g.size → (i : ℕ) → i < (g.size + 1) / 2 → left_end g.size g.starts i ≤ first_place g.starts g.size
  left_below r k zero h = r (g.size - 1 + 1) (omega arith)
  left_below r k (suc i) h = r (suc i + 1) (omega arith)

  right-below : Rises g → 2 ≤ g.size → (i p : ℕ) → i < (g.size + 1) / 2 → p < right_end g.size g.starts i → p ≤ first_place g.starts g.size
  right-below r k zero p h l = omega arith
  right-below r k (suc i) p h l = let w = r (g.size - 1 - suc i + 1) (omega arith) in omega (arith, w, l)

  part-within : Rises g → 2 ≤ g.size → (here : Cursor) → CursorStandsIn g here → CursorWithin g (after_in (codes_in g here.split) here)
  unfolding after_in
  part-within r k here p = go (halfway (codes_in g here.split) here)
    where
      go : (b : Bool)
          → CursorWithin g (cond b (cursor here.split here.left here.right here.operator true) (cursor here.split here.left here.right (here.operator + 1) false))
      go true = record {
        operator-in = rw (ne_eqb g.size 1 (λ e. omega arith)) (omega (arith, p.stands.operator-in));
        left_in = omega (arith, p.stands.left_in, left_below r k here.split p.split-in);
        right-in = right-below r k here.split here.right p.split-in p.stands.right-in;
      }
      go false = record {
        operator-in = rw (ne_eqb g.size 1 (λ e. omega arith)) (omega (arith, p.stands.operator-in));
        left_in = omega (arith, p.stands.left_in, left_below r k here.split p.split-in);
        right-in = right-below r k here.split here.right p.split-in p.stands.right-in;
      }

  module _ (at : Cursor) where
    pub steps-beyond : length g.starts ≤ g.size → Steps g at None
    steps-beyond h = Steps.ends (ahead-beyond h at) refl

    pub steps-none : g.size ≡ 0 → Steps g at None
    steps-none e = elim (dec_le (length g.starts) g.size) [
      | yes h ↦ steps-beyond h
      | no h ↦ Steps.ends (ahead-parts (omega arith) (λ d. omega arith) at ∙ parts_out g at (omega arith)) refl
    ]

    pub steps-leaves : {step : Option Candidate} → g.size < length g.starts → g.size ≡ 1 → InLeaves g.propositions g.constants at step → Steps g at step
    steps-leaves h e (Takes.ends f d) = Steps.ends (ahead-leaves h e at ∙ f) d
    steps-leaves h e (Takes.takes here f d p) =
        Steps.takes here
        (rw (leaf-after e here) (ahead-leaves h e at ∙ f ∙ ap (λ (cs : List Cursor). here ∷ cs) (sym (ahead-leaves h e (after_leaf here)))))
        (rw (leaf-candidate e here, leaf-after e here) d)
        (λ r. rw (leaf-candidate e here) (leaf-safe g here p))
        (λ r. rw (leaf-after e here) (leaf-within e here p))

    pub steps-parts : {step : Option Candidate} → g.size < length g.starts → 2 ≤ g.size
        → PartsTake g at step → Steps g at step
    steps-parts h k (Takes.ends f d) = Steps.ends (ahead-parts h (λ e. omega arith) at ∙ f) d
    steps-parts h k (Takes.takes here f d p) =
        let e : g.size ≡ 1 → ⊥ = λ z. omega arith in
        Steps.takes here
        (rw (part-after e here) (ahead-parts h e at ∙ f ∙ ap (λ (cs : List Cursor). here ∷ cs) (sym (ahead-parts h e (after_in (codes_in g here.split) here)))))
        (rw (part-candidate e here, part-after e here) d)
        (λ r. rw (part-candidate e here) (part-safe g here r here.split k p.split-in p.stands))
        (λ r. rw (part-after e here) (part-within r k here p))
