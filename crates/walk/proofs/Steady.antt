-- A larger bound or more room never changes what was found: an ended walk stays as it is through the sizes after, and two walks with different
-- room are the same until the smaller room is full; then the other keeps the formula for which there was no place.
-- Assumes nothing.
use mathlib.Core.Path.{◌≡◌, refl, sym, ap, ◌∙◌, subst}
use mathlib.Core.Logic.{◌⊎◌, inl, inr, ⊎_elim}
use mathlib.Core.Bool.{Bool, true, false}
use mathlib.Core.List.{List, [], ◌∷◌, ◌++◌, foldl, append_assoc}
use Prim.Native.Nat.{ℕ, zero, suc, ◌≤◌, ◌<◌}
use native.Mathlib.Omega.{arith}
use native.Mathlib.Nat.{eq-or-lt_of_le}
use lib.ListN.{length}
use lib.Dec.{leb}
use borrow.Author.Tests.{leb-true, leb-false}
use Rattle.formula.specs.Nodes.{Node}
use Rattle.walk.specs.Walk.{Offer, Candidate, Ending, found, full, Tally, one_tried, WalkState, going, ended, kept, known, judge, layer, consider, through, after, finish, walk}
use Rattle.walk.specs.Input.{Input, separating, offer, search}
use Rattle.walk.specs.Kept.{Table}
use Rattle.walk.specs.Promises.{again, KeepsNext, LargerBoundSame, LargerRoomSame, FoundStays}
use Rattle.walk.proofs.Trees.{Lawful}
use Rattle.walk.proofs.Pass.{kept-finish, stays, grown, Tidy, tidy}
use Rattle.walk.proofs.Smallest.{Says, walk-says}
use Rattle.walk.proofs.Reading.{lawful}
use Rattle.walk.proofs.Same.{same-where-read}

module _ {L U B Mat : Type 0} (O : Offer L U B Mat) where
  module _ (C : ℕ) where
    pub through-ended : (s : ℕ) (e : Ending) (k : List (Candidate Mat)) (n : Tally) → through O C s (ended e k n) ≡ ended e k n
    unfolding through
    through-ended s e k n = stays O C e k n (layer O s k)

    -- once ended, the same at every later size
    pub after-later : (b d : ℕ) → b ≤ d → (e : Ending) (k : List (Candidate Mat)) (n : Tally) → after O C b ≡ ended e k n → after O C d ≡ ended e k n
    unfolding after
    after-later b zero h e k n q = let z : b ≡ 0 = omega arith in ap (after O C) (sym z) ∙ q
    after-later b (suc d) h e k n q =
        ⊎_elim (λ z. ap (after O C) (sym z) ∙ q) (λ l. ap (through O C (suc d)) (after-later b d (omega arith) e k n q) ∙ through-ended (suc d) e k n)
        (eq-or-lt_of_le h)

    unfinish : (root : Node) (k : List (Candidate Mat)) (n : Tally) (st : WalkState Mat) → finish st ≡ ended (found root) k n → st ≡ ended (found root) k n
    unfolding finish
    unfinish root k n (going k' n') e = let z : ◌≡◌ {A = ℕ} 0 1 = cc in absurd (omega arith)
    unfinish root k n (ended e' k' n') e = e

    pub larger-bound : (b d : ℕ) → b ≤ d → (root : Node) (k : List (Candidate Mat)) (n : Tally) → walk O C b ≡ ended (found root) k n
        → walk O C d ≡ ended (found root) k n
    unfolding walk finish
    larger-bound b d h root k n q = ap finish (after-later b d h (found root) k n (unfinish root k n (after O C b) q))

  -- ---- more room

  -- all of k is kept and, at the place after them, one of size s
  abbrev pub Next : ℕ → List (Candidate Mat) → WalkState Mat → Type 0
  Next s k y = (d : Candidate Mat) × (more : List (Candidate Mat)) × (d.node.size ≡ s) × (kept y ≡ k ++ (d ∷ more))

  module _ (Z : Lawful O) (C D : ℕ) (le : C ≤ D) where
    -- the first walk was full; then the second, where it has more room, kept the one for which there was no place
    abbrev Parts : WalkState Mat → WalkState Mat → Type 0
    Parts x y = (s : ℕ) × (k : List (Candidate Mat)) × (n : Tally) × (x ≡ ended (full s) k n) × (C < D → Next s k y)

    -- the same, unless the first was full
    abbrev SameUnlessFull : WalkState Mat → WalkState Mat → Type 0
    SameUnlessFull x y = (y ≡ x) ⊎ Parts x y

    same-judge : (a b : Bool) (c : Candidate Mat) (k : List (Candidate Mat)) (n : Tally) → length k ≤ C
        → (r r' : Bool) → leb C (length k) ≡ r → leb D (length k) ≡ r' → SameUnlessFull (judge O a b r c k n) (judge O a b r' c k n)
    unfolding judge
    same-judge true b c k n l r r' e f = inl refl
    same-judge false true c k n l r r' e f = inl refl
    same-judge false false c k n l true true e f = inr (c.node.size, k, _, refl, λ h. absurd (omega (arith, leb-true D (length k) f)))
    same-judge false false c k n l true false e f = inr (c.node.size, k, _, refl, λ h. (c, [], refl, refl))
    same-judge false false c k n l false true e f = absurd (omega (arith, leb-false C (length k) e, leb-true D (length k) f))
    same-judge false false c k n l false false e f = inl refl

    same-consider : (st : WalkState Mat) (c : Candidate Mat) → length (kept st) ≤ C → SameUnlessFull (consider O C st c) (consider O D st c)
    unfolding consider
    same-consider (going k n) c l = same-judge (O.agrees c.matrix) (known O c.matrix k) c k (one_tried n) l (leb C (length k)) (leb D (length k)) refl refl
    same-consider (ended e k n) c l = inl refl

    -- whatever comes, what was kept stays
    still_full : (cs ds : List (Candidate Mat)) (x y : WalkState Mat) → Parts x y → Parts (foldl (consider O C) x cs) (foldl (consider O D) y ds)
    still_full cs ds x y (s, k, n, e, w) = (
      s,
      k,
      n,
      ap (λ (z : WalkState Mat). foldl (consider O C) z cs) e ∙ stays O C (full s) k n cs,
      λ h. let (d, more, size, keeps) = w h in
          let g = grown O D Z ds y in
          (d, more ++ g.new, size, g.longer ∙ ap (λ (z : List (Candidate Mat)). z ++ g.new) keeps ∙ append_assoc k (d ∷ more) g.new),
    )

    same_fold : (cs : List (Candidate Mat)) (st : WalkState Mat) → Tidy O C (kept st) → SameUnlessFull (foldl (consider O C) st cs) (foldl (consider O D) st cs)
    same_fold [] st t = inl refl
    same_fold (c ∷ cs) st t =
        ⊎_elim
        (λ e. ⊎_elim
        (λ f. inl (ap (λ (s : WalkState Mat). foldl (consider O D) s cs) e ∙ f))
        (λ h. inr (subst (λ (s : WalkState Mat). Parts (foldl (consider O C) (consider O C st c) cs) (foldl (consider O D) s cs)) (sym e) h))
        (same_fold cs (consider O C st c) (tidy O C Z (c ∷ []) st t)))
        (λ h. inr (still_full cs cs (consider O C st c) (consider O D st c) h)) (same-consider st c t.0)

    tidy-after : (b : ℕ) → Tidy O C (kept (after O C b))
    unfolding after through
    tidy-after zero = (omega arith, tt)
    tidy-after (suc b) = tidy O C Z (layer O (suc b) (kept (after O C b))) (after O C b) (tidy-after b)

    same_after : (b : ℕ) → SameUnlessFull (after O C b) (after O D b)
    unfolding after through
    same_after zero = inl refl
    same_after (suc b) =
        ⊎_elim
        (λ e. ⊎_elim
        (λ f. inl (ap (through O D (suc b)) e ∙ f))
        (λ h. inr (subst (λ (s : WalkState Mat). Parts (through O C (suc b) (after O C b)) (through O D (suc b) s)) (sym e) h))
        (same_fold (layer O (suc b) (kept (after O C b))) (after O C b) (tidy-after b)))
        (λ h. inr (still_full (layer O (suc b) (kept (after O C b))) (layer O (suc b) (kept (after O D b))) (after O C b) (after O D b) h)) (same_after b)

    pub larger-room : (b : ℕ) → SameUnlessFull (walk O C b) (walk O D b)
    unfolding walk finish
    larger-room b =
        ⊎_elim
        (λ e. inl (ap finish e))
        (λ (s, k, n, e, w). inr (s, k, n, ap finish e, λ h. let (d, more, size, keeps) = w h in (d, more, size, kept-finish (after O D b) ∙ keeps)))
        (same_after b)

-- the offer has nothing of bound and room
again-offer : (i : Input) (b c : ℕ) → offer (again i b c) ≡ offer i
unfolding separating
again-offer i b c = refl

-- (4)
pub larger-bound-same : LargerBoundSame
larger-bound-same i b h root k n q = rw again-offer (larger-bound (offer i) i.room i.bound b h root k n q)

pub larger-room-same : LargerRoomSame
larger-room-same i c h =
    rw again-offer (⊎_elim inl (λ (s, k, n, e, w). inr (s, k, n, e)) (larger-room (offer i) (lawful i) i.room c h i.bound))

found-again : (i : Input) (b c : ℕ) → i.bound ≤ b → i.room ≤ c → (root : Node) (k : Table) (n : Tally)
    → search i ≡ ended (found root) k n → search (again i b c) ≡ ended (found root) k n
found-again i b c hb hc root k n q =
    rw again-offer (larger-bound (offer i) c i.bound b hb root k n
    (⊎_elim (λ e. e ∙ q) (λ f. let z : ◌≡◌ {A = ℕ} 0 1 = cc f.3 in absurd (omega arith)) (larger-room (offer i) (lawful i) i.room c hc i.bound)))

pub found-stays : FoundStays
found-stays i j w root k n q =
    sym (same-where-read (again i j.bound j.room) j w.same) ∙ found-again i j.bound j.room w.bound w.room root k n q

-- a full walk has kept as many as there is room for
full-long : {L U B Mat : Type 0} (O : Offer L U B Mat) (Z : Lawful O) (C b s : ℕ) (k : List (Candidate Mat)) (n : Tally) → walk O C b ≡ ended (full s) k n
    → length k ≡ C
full-long O Z C b s k n q = (subst (Says O C Z b) q (walk-says O C Z b)).2.as_many

-- (3): where a walk is full, with any larger room it keeps the same and one more
pub keeps-next : (i : Input) (s : ℕ) (k : Table) (n : Tally) → search i ≡ ended (full s) k n → (c : ℕ) → i.room < c → KeepsNext i s k c
keeps-next i s k n q c h =
    ⊎_elim
    (λ e. absurd (omega (
      arith,
      full-long (offer i) (lawful i) i.room i.bound s k n q,
      full-long (offer i) (lawful i) c i.bound s k n (e ∙ q),
    )))
    (λ (s', k', n', e, w). let (d, more, size, keeps) = w h in
    let es : s' ≡ s = cc in
    let ek : k' ≡ k = cc in
    record {
      next = d;
      sized = size ∙ es;
      more = more;
      keeps = rw again-offer (keeps ∙ ap (λ (l : Table). l ++ (d ∷ more)) ek);
    })
    (larger-room (offer i) (lawful i) i.room c (omega arith) i.bound)
