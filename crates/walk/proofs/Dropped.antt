-- What the walk drops: it counts each candidate as kept, as dropped or as the one that decides; and of those kept the one with a dropped candidate's
-- matrix came before it, at a size no larger, since the candidates come by rising size.
-- Assumes nothing.
use mathlib.Core.Path.{◌≡◌, refl, sym, ap, ◌∙◌, subst}
use mathlib.Core.Logic.{◌⊎◌, inl, inr, ⊎_elim}
use mathlib.Core.Bool.{Bool, true, false, ◌||◌, true≢false}
use mathlib.Core.List.Memᴰ
use mathlib.Core.List.{List, [], ◌∷◌, ◌++◌, foldl, foldl-append}
use Prim.Native.Nat.{ℕ, zero, suc, ◌+◌, ◌≤◌, ◌<◌}
use native.Mathlib.Omega.{arith}
use native.Mathlib.Decide.{dec_lt}
use lib.ListN.{length, get_or, take, length-append, get_or-append}
use lib.Dec.{leb}
use Rattle.rules.specs.Lists.{◌∈◌}
use Rattle.walk.specs.Walk.{Offer, Candidate, Ending, Tally, tally, one_tried, one_dropped, WalkState, going, ended, kept, dropped, known, judge, layer}
use Rattle.walk.specs.Walk.{consider, after, finish, walk, trail}
use Rattle.walk.specs.Input.{Input, offer, search}
use Rattle.walk.specs.Cut.{Cut, more, over}
use Rattle.walk.specs.Kept.{Table, go_on, begun}
use Rattle.walk.specs.Promises.{deciding, AddsUp, TriedAddsUp, CutOf, CutSum, CutAddsUp, Drops, SuperfluousBy, DroppedBy}
use Rattle.walk.proofs.Trees.{Lawful}
use Rattle.walk.proofs.Layers.{layer_fits}
use Rattle.walk.proofs.Pass.{kept-finish, Distinct, grown, Tidy, tidy}
use Rattle.walk.proofs.Position.{after-trail}
use Rattle.walk.proofs.Resume.{cut-resume}
use Rattle.walk.proofs.Reading.{lawful}

-- ---- the sum

module _ {L U B Mat : Type 0} (O : Offer L U B Mat) (C : ℕ) where
  abbrev Sum : WalkState Mat → Type 0
  Sum (going k n) = AddsUp (length k) n 0
  Sum (ended e k n) = AddsUp (length k) n (deciding e)

  sum-judge : (a b r : Bool) (c : Candidate Mat) (k : List (Candidate Mat)) (n : Tally) → AddsUp (length k) n 0 → Sum (judge O a b r c k (one_tried n))
  unfolding judge
  sum-judge true b r c k n h = omega arith
  sum-judge false true r c k n h = omega arith
  sum-judge false false true c k n h = omega arith
  sum-judge false false false c k n h = omega (arith, length-append k (c ∷ []))

  sum-consider : (st : WalkState Mat) (c : Candidate Mat) → Sum st → Sum (consider O C st c)
  unfolding consider
  sum-consider (going k n) c h = sum-judge (O.agrees c.matrix) (known O c.matrix k) (leb C (length k)) c k n h
  sum-consider (ended e k n) c h = h

  sum-all : (cs : List (Candidate Mat)) (st : WalkState Mat) → Sum st → Sum (foldl (consider O C) st cs)
  sum-all [] st h = h
  sum-all (c ∷ cs) st h = sum-all cs (consider O C st c) (sum-consider st c h)

  sum-finish : (st : WalkState Mat) → Sum st → Sum (finish st)
  unfolding finish
  sum-finish (going k n) h = h
  sum-finish (ended e k n) h = h

  sum-trail : (cs : List (Candidate Mat)) → Sum (foldl (consider O C) (going [] (tally 0 0)) cs)
  sum-trail cs = sum-all cs (going [] (tally 0 0)) refl

  sum-walk : (b : ℕ) → Sum (walk O C b)
  unfolding walk
  sum-walk b = sum-finish (after O C b) (subst Sum (sym (after-trail O C b)) (sum-trail (trail O C b)))

pub tried-adds-up : TriedAddsUp
tried-adds-up i e k n q = subst (Sum (offer i) i.room) q (sum-walk (offer i) i.room i.bound)

pub cut-adds-up : CutAddsUp
cut-adds-up i n = go (go_on i n (begun i)) (cut-resume i n)
  where
    go : (c : Cut (List ℕ)) → CutOf i n c → CutSum c
    go (over e k m) h = tried-adds-up i e k m h.0
    go (more s j k m) h = subst (Sum (offer i) i.room) h.2 (sum-trail (offer i) i.room (take n (trail (offer i) i.room i.bound)))

-- ---- the one with its matrix

module _ {L U B Mat : Type 0} (O : Offer L U B Mat) (C : ℕ) (Z : Lawful O) where
  -- what is dropped is known
  drops-known : (a b r : Bool) (c : Candidate Mat) (k : List (Candidate Mat)) (n : Tally) → judge O a b r c k (one_tried n) ≡ going k (one_dropped (one_tried n))
      → b ≡ true
  unfolding judge
  drops-known true b r c k n e = let z : ◌≡◌ {A = ℕ} 0 1 = cc in absurd (omega arith)
  drops-known false true r c k n e = refl
  drops-known false false true c k n e = let z : ◌≡◌ {A = ℕ} 0 1 = cc in absurd (omega arith)
  drops-known false false false c k n e = let z : suc n.dropped ≡ n.dropped = ap dropped (sym e) in absurd (omega arith)

  -- and has a place
  known-place : (x : Mat) (k : List (Candidate Mat)) → known O x k ≡ true → (d : Candidate Mat)
      → (p : ℕ) × (p < length k) × ((get_or k p d).matrix ≡ x) × (get_or k p d ∈ k)
  unfolding known
  known-place x [] e d = absurd (true≢false (sym e))
  known-place x (c ∷ k) e d = go (O.same x c.matrix) refl e (λ h. known-place x k h d)
    where
      go : (b : Bool) → O.same x c.matrix ≡ b → (b || known O x k) ≡ true
          → (known O x k ≡ true → (p : ℕ) × (p < length k) × ((get_or k p d).matrix ≡ x) × (get_or k p d ∈ k))
          → (p : ℕ) × (p < length (c ∷ k)) × ((get_or (c ∷ k) p d).matrix ≡ x) × (get_or (c ∷ k) p d ∈ (c ∷ k))
      go true w h r = (0, omega arith, sym (Z.same_true x c.matrix w), Memᴰ.head refl)
      go false w h r = let (p, l, e, m) = r h in (suc p, omega arith, e, Memᴰ.tail m)

  in_list : (k : List (Candidate Mat)) (p : ℕ) (d : Candidate Mat) → p < length k → get_or k p d ∈ k
  in_list [] p d h = absurd (omega arith)
  in_list (c ∷ k) zero d h = Memᴰ.head refl
  in_list (c ∷ k) (suc p) d h = Memᴰ.tail (in_list k p d (omega arith))

  -- no two places have one matrix
  one_place : (k : List (Candidate Mat)) → Distinct O k → (d : Candidate Mat) (p q : ℕ) → p < length k → q < length k
      → (get_or k q d).matrix ≡ (get_or k p d).matrix → q ≡ p
  one_place [] z d p q h l e = absurd (omega arith)
  one_place (c ∷ k) z d zero zero h l e = refl
  one_place (c ∷ k) z d zero (suc q) h l e = absurd (z.0 (get_or k q d) (in_list k q d (omega arith)) e)
  one_place (c ∷ k) z d (suc p) zero h l e = absurd (z.0 (get_or k p d) (in_list k p d (omega arith)) (sym e))
  one_place (c ∷ k) z d (suc p) (suc q) h l e = ap suc (one_place k z.1 d p q (omega arith) (omega arith) e)

  -- ---- the candidates come by rising size

  abbrev Rising : List (Candidate Mat) → Type 0
  Rising [] = Unit {0}
  Rising (c ∷ cs) = ((u : Candidate Mat) → u ∈ cs → c.node.size ≤ u.node.size) × Rising cs

  rising-one : (s : ℕ) (cs : List (Candidate Mat)) → ((u : Candidate Mat) → u ∈ cs → u.node.size ≡ s) → Rising cs
  rising-one s [] h = tt
  rising-one s (c ∷ cs) h = (
    λ u m. omega (arith, h c (Memᴰ.head refl), h u (Memᴰ.tail m)),
    rising-one s cs (λ u m. h u (Memᴰ.tail m)),
  )

  rising-append : (xs ys : List (Candidate Mat)) → Rising xs → Rising ys
      → ((x y : Candidate Mat) → x ∈ xs → y ∈ ys → x.node.size ≤ y.node.size) → Rising (xs ++ ys)
  rising-append [] ys a b h = b
  rising-append (x ∷ xs) ys a b h = (
    λ u m. ⊎_elim (λ g. a.0 u g) (λ g. h x u (Memᴰ.head refl) g) (Memᴰ.append_cases xs m),
    rising-append xs ys a.1 b (λ y z m g. h y z (Memᴰ.tail m) g),
  )

  rising-split : (before behind : List (Candidate Mat)) (c u : Candidate Mat) → Rising (before ++ (c ∷ behind)) → u ∈ before → u.node.size ≤ c.node.size
  rising-split [] behind c u r m = absurd (Memᴰ.not-nil m)
  rising-split (d ∷ before) behind c u r m = ⊎_elim
      (λ e. omega (arith, ap (λ (x : Candidate Mat). x.node.size) e, r.0 c (mid before)))
      (λ h. rising-split before behind c u r.1 h) (Memᴰ.cases_cons m)
    where
      mid : (xs : List (Candidate Mat)) → c ∈ (xs ++ (c ∷ behind))
      mid [] = Memᴰ.head refl
      mid (x ∷ xs) = Memᴰ.tail (mid xs)

  trail-small : (b : ℕ) (u : Candidate Mat) → u ∈ trail O C b → u.node.size ≤ b
  unfolding trail
  trail-small zero u m = absurd (Memᴰ.not-nil m)
  trail-small (suc b) u m = ⊎_elim
      (λ h. omega (arith, trail-small b u h))
      (λ h. omega (arith, (layer_fits O (suc b) (kept (after O C b)) u h).1)) (Memᴰ.append_cases (trail O C b) m)

  trail-rising : (b : ℕ) → Rising (trail O C b)
  unfolding trail
  trail-rising zero = tt
  trail-rising (suc b) =
      let l = layer_fits O (suc b) (kept (after O C b)) in
      rising-append (trail O C b) (layer O (suc b) (kept (after O C b))) (trail-rising b) (rising-one (suc b) (layer O (suc b) (kept (after O C b))) (λ u m. (l u m).1))
      (λ x y m g. omega (arith, trail-small b x m, (l y g).1))

  -- ---- together

  tidy-walk : (b : ℕ) → Tidy O C (kept (walk O C b))
  unfolding walk
  tidy-walk b =
      subst (Tidy O C) (sym (kept-finish (after O C b) ∙ ap kept (after-trail O C b)))
      (tidy O C Z (trail O C b) (going [] (tally 0 0)) (omega arith, tt))

  module _ (b : ℕ) (before behind : List (Candidate Mat)) (c : Candidate Mat) (turn : trail O C b ≡ before ++ (c ∷ behind)) (k : List (Candidate Mat)) (n : Tally)
      (goes : foldl (consider O C) (going [] (tally 0 0)) before ≡ going k n) where
    -- those kept so far came before
    kept-before : (u : Candidate Mat) → u ∈ k → u ∈ before
    kept-before u m =
        let g = grown O C Z before (going [] (tally 0 0)) in
        (g.comes u (subst (λ (l : List (Candidate Mat)). u ∈ l) (ap kept (sym goes) ∙ g.longer) m)).0

    -- and stand at the front of those kept at the end
    whole : kept (walk O C b) ≡ kept (foldl (consider O C) (going k n) (c ∷ behind))
    unfolding walk
    whole =
        kept-finish (after O C b)
        ∙ ap kept (after-trail O C b ∙ ap (foldl (consider O C) (going [] (tally 0 0))) turn
        ∙ foldl-append (consider O C) (going [] (tally 0 0)) before (c ∷ behind)
        ∙ ap (λ (st : WalkState Mat). foldl (consider O C) st (c ∷ behind)) goes)

    front : (new : List (Candidate Mat)) × (kept (walk O C b) ≡ k ++ new)
    front = let g = grown O C Z (c ∷ behind) (going k n) in (g.new, whole ∙ g.longer)

    by_place : known O c.matrix k ≡ true → (p : ℕ) × (p < length k) × SuperfluousBy (kept (walk O C b)) before c p
    by_place h =
        let (p, l, e, m) = known-place c.matrix k h c in
        let (new, longer) = front in
        let size = ap length longer ∙ length-append k new in
        let old = ap (λ (x : List (Candidate Mat)). get_or x p c) longer ∙ get_or-append k new c p l in
        let matrix = ap (λ (u : Candidate Mat). u.matrix) old ∙ e in (
          p,
          l,
          record {
            there = omega (arith, size);
            same = matrix;
            only = λ q w f. one_place (kept (walk O C b)) (tidy-walk b).1 c p q (omega (arith, size)) w (f ∙ sym matrix);
            no-larger = omega (
              arith,
              ap (λ (u : Candidate Mat). u.node.size) old,
              rising-split before behind c (get_or k p c) (subst Rising turn (trail-rising b)) (kept-before (get_or k p c) m),
            );
            earlier = subst (λ (u : Candidate Mat). u ∈ before) (sym old) (kept-before (get_or k p c) m);
          },
        )

-- those kept by then stand at the front of those kept at the end
pub drops-front : (i : Input) (e : Ending) (k : Table) (n : Tally) → search i ≡ ended e k n → (before : Table) (c : Candidate (List ℕ)) (d : Drops i before c)
    → (new : Table) × (k ≡ d.so_far ++ new)
drops-front i e k n q before c d =
    let (new, w) = front (offer i) i.room (lawful i) i.bound before d.behind c d.in-turn d.so_far d.counts d.goes in
    (new, ap kept (sym q) ∙ w)

pub dropped-by : DroppedBy
unfolding consider
dropped-by i e k n q before c d =
    let O = offer i in
    let h = drops-known O i.room (lawful i) (O.agrees c.matrix) (known O c.matrix d.so_far) (leb i.room (length d.so_far)) c d.so_far d.counts d.drops in
    let (p, l, w) = by_place O i.room (lawful i) i.bound before d.behind c d.in-turn d.so_far d.counts d.goes h in
    (p, l, subst (λ (x : Table). SuperfluousBy x before c p) (ap kept q) w)
