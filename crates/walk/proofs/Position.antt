-- The number tried is the deciding candidate's position: the walk is one pass over the trail, and counts each candidate that it comes to.
-- Assumes nothing.
use mathlib.Core.Path.{◌≡◌, refl, sym, ap, ◌∙◌, subst}
use mathlib.Core.Logic.{◌⊎◌, ⊎_elim}
use mathlib.Core.Bool.{Bool, true, false}
use mathlib.Core.List.Memᴰ
use mathlib.Core.List.{List, [], ◌∷◌, ◌++◌, foldl, foldl-append}
use Prim.Native.Nat.{ℕ, zero, suc, ◌+◌}
use native.Mathlib.Omega.{arith}
use lib.ListN.{length}
use lib.Dec.{leb}
use Rattle.rules.specs.Lists.{◌∈◌}
use Rattle.walk.specs.Walk.{Offer, Candidate, Ending, found, full, none, Tally, tally, one_tried, WalkState, going, ended, kept, walk_tally, known, judge, layer, consider, through}
use Rattle.walk.specs.Walk.{after, finish, walk, trail}
use Rattle.walk.specs.Input.{offer}
use Rattle.walk.specs.Promises.{Nth, Has, DecidedAt, TriedIsPosition}
use Rattle.walk.proofs.Trees.{Lawful}
use Rattle.walk.proofs.Pass.{Rejected, known-true, known-false, grows-keeps, stays, grown}
use Rattle.walk.proofs.Reading.{lawful}

module _ {L U B Mat : Type 0} (O : Offer L U B Mat) (C : ℕ) where
  -- from m tried on: all of cs were tried, or the deciding one is among them
  abbrev pub Counts : ℕ → List (Candidate Mat) → WalkState Mat → Type 0
  Counts m cs (going k n) = (n.tried ≡ m + length cs) × ((d : Candidate Mat) → d ∈ cs → Rejected O d)
  Counts m cs (ended e k n) = (p : ℕ) × (n.tried ≡ m + p) × DecidedAt O.agrees cs e k p × (e ≡ none → ⊥)

  -- the deciding one of cs is one later of c ∷ cs
  nth_on : (c : Candidate Mat) (cs : List (Candidate Mat)) (p : ℕ) (x : Candidate Mat) → Rejected O c → Nth O.agrees cs p x → Nth O.agrees (c ∷ cs) (suc p) x
  nth_on c cs p x r z = record {
    before = c ∷ z.before;
    behind = z.behind;
    split = ap (λ (l : List (Candidate Mat)). c ∷ l) z.split;
    position = ap suc z.position;
    passed = λ d m. ⊎_elim (λ e. ap (λ (a : Candidate Mat). O.agrees a.matrix) e ∙ r) (λ h. z.passed d h) (Memᴰ.cases_cons m);
  }

  decided-on : (c : Candidate Mat) (cs : List (Candidate Mat)) (e : Ending) (k : List (Candidate Mat)) (p : ℕ) → Rejected O c → Has k c.matrix
      → DecidedAt O.agrees cs e k p → DecidedAt O.agrees (c ∷ cs) e k (suc p)
  unfolding nth_on
  decided-on c cs (found root) k p r h z = (z.0, nth_on c cs p z.0 r z.1, z.2, z.3)
  decided-on c cs (full s) k p r h z = (
    z.0,
    nth_on c cs p z.0 r z.1,
    z.2,
    z.3,
    λ d m. ⊎_elim (λ e. subst (λ (a : Candidate Mat). Has k a.matrix) (sym e) h) (λ m'. z.4 d m') (Memᴰ.cases_cons m),
    z.5,
  )
  decided-on c cs none k p r h z = ap suc z

  counts-on : (c : Candidate Mat) (cs : List (Candidate Mat)) (m : ℕ) (st : WalkState Mat) → Rejected O c → Has (kept st) c.matrix
      → Counts (suc m) cs st → Counts m (c ∷ cs) st
  counts-on c cs m (going k n) r h w = (
    omega (arith, w.0),
    λ d m. ⊎_elim (λ e. ap (λ (a : Candidate Mat). O.agrees a.matrix) e ∙ r) (λ m'. w.1 d m') (Memᴰ.cases_cons m),
  )
  counts-on c cs m (ended e k n) r h w = (suc w.0, omega (arith, w.1), decided-on c cs e k w.0 r h w.2, w.3)

  -- the first of the list decides
  at_once : (c : Candidate Mat) (cs : List (Candidate Mat)) → Nth O.agrees (c ∷ cs) 1 c
  at_once c cs = record { before = []; behind = cs; split = refl; position = refl; passed = λ d m. absurd (Memᴰ.not-nil m) }

  module _ (Z : Lawful O) where
    -- what was kept stays so
    has_on : (cs : List (Candidate Mat)) (k : List (Candidate Mat)) (n : Tally) (x : Mat) → Has k x → Has (kept (foldl (consider O C) (going k n) cs)) x
    has_on cs k n x h = (h.0, grows-keeps O (grown O C Z cs (going k n)) h.0 h.1, h.2)

    counts_step : (c : Candidate Mat) (cs k : List (Candidate Mat)) (n : Tally)
        → ((k₁ : List (Candidate Mat)) (m : Tally) → Counts m.tried cs (foldl (consider O C) (going k₁ m) cs))
        → (a : Bool) → O.agrees c.matrix ≡ a → (b : Bool) → known O c.matrix k ≡ b → (r : Bool)
        → Counts n.tried (c ∷ cs) (foldl (consider O C) (judge O a b r c k (one_tried n)) cs)
    unfolding judge at_once
    counts_step c cs k n go true ea b eb r =
        rw stays (1, omega arith, (c, at_once c cs, refl, ea), λ q. let v : ◌≡◌ {A = ℕ} 0 1 = cc in omega arith)
    counts_step c cs k n go false ea true eb r =
        let m = walk_tally (judge O false true r c k (one_tried n)) in
        counts-on c cs n.tried (foldl (consider O C) (going k m) cs) ea (has_on cs k m c.matrix (known-true O Z c.matrix k eb)) (go k m)
    counts_step c cs k n go false ea false eb true =
        rw stays (
          1,
          omega arith,
          (c, at_once c cs, refl, ea, λ d h. absurd (Memᴰ.not-nil h), λ h. known-false O Z c.matrix k eb h.0 h.1 h.2),
          λ q. let v : ◌≡◌ {A = ℕ} 0 1 = cc in omega arith,
        )
    counts_step c cs k n go false ea false eb false =
        let m = walk_tally (judge O false false false c k (one_tried n)) in
        counts-on c cs n.tried (foldl (consider O C) (going (k ++ (c ∷ [])) m) cs) ea
        (has_on cs (k ++ (c ∷ [])) m c.matrix (c, Memᴰ.append_right k (Memᴰ.head refl), refl)) (go (k ++ (c ∷ [])) m)

    pub counts : (cs k : List (Candidate Mat)) (n : Tally) → Counts n.tried cs (foldl (consider O C) (going k n) cs)
    unfolding consider
    counts [] k n = (omega arith, λ d h. absurd (Memᴰ.not-nil h))
    counts (c ∷ cs) k n =
        counts_step c cs k n (λ k₁ m. counts cs k₁ m) (O.agrees c.matrix) refl (known O c.matrix k) refl (leb C (length k))

  -- the walk is one pass over the trail
  pub after-trail : (b : ℕ) → after O C b ≡ foldl (consider O C) (going [] (tally 0 0)) (trail O C b)
  unfolding after through trail
  after-trail zero = refl
  after-trail (suc b) =
      ap (λ (st : WalkState Mat). foldl (consider O C) st (layer O (suc b) (kept (after O C b)))) (after-trail b)
      ∙ sym (foldl-append (consider O C) (going [] (tally 0 0)) (trail O C b) (layer O (suc b) (kept (after O C b))))

  abbrev Ended : List (Candidate Mat) → WalkState Mat → Type 0
  Ended cs (going k n) = ⊥
  Ended cs (ended e k n) = DecidedAt O.agrees cs e k n.tried

  ended_at : (cs : List (Candidate Mat)) (st : WalkState Mat) → Counts 0 cs st → Ended cs (finish st)
  unfolding finish
  ended_at cs (going k n) w = omega (arith, w.0)
  ended_at cs (ended e k n) w = subst (DecidedAt O.agrees cs e k) (let z : w.0 ≡ n.tried = omega (arith, w.1) in z) w.2

  pub walk-decided : Lawful O → (b : ℕ) → Ended (trail O C b) (walk O C b)
  unfolding walk
  walk-decided Z b =
      ended_at (trail O C b) (after O C b) (subst (Counts 0 (trail O C b)) (sym (after-trail b)) (counts Z (trail O C b) [] (tally 0 0)))

-- (5)
pub tried-is-position : TriedIsPosition
tried-is-position i e k n q =
    subst (Ended (offer i) i.room (trail (offer i) i.room i.bound)) q (walk-decided (offer i) i.room (lawful i) i.bound)
