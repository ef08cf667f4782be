-- Cut after any candidate and resumed, the walk comes to the same: a size's candidates look only at smaller formulas, so what is kept in the
-- meantime leaves the rest of them as they were, and the next one can be read off what is kept.
-- Assumes nothing.
use mathlib.Core.Path.{◌≡◌, refl, sym, ap, ap₂, ◌∙◌, subst}
use mathlib.Core.Logic.{◌⊎◌, ⊎_elim}
use mathlib.Core.Bool.{Bool, true, false, cond}
use mathlib.Core.List.Memᴰ
use mathlib.Core.List.{List, [], ◌∷◌, ◌++◌, map, foldl, foldl-append, append-nil, append_assoc}
use Prim.Native.Nat.{ℕ, zero, suc, ◌+◌, ◌-◌, ◌≤◌, ◌<◌}
use native.Mathlib.Omega.{arith}
use native.Mathlib.Nat.{eq-or-lt_of_le}
use lib.ListN.{length, take, drop, length-append, length-take, length-drop, take-append-drop}
use lib.Seq.{take_all, take-add, take-append_seam}
use lib.Dec.{eqb, ltb}
use borrow.Author.Tests.{eqb-true, ltb-true, ltb-false}
use Rattle.walk.specs.Walk.{Offer, Candidate, Placed, Ending, found, full, none, Tally, tally, WalkState, going, ended, kept, tried, of_size, keep_if, left_sizes, orders, unary_on}
use Rattle.walk.specs.Walk.{unary_candidates, pairs, layer, consider, through, after, finish, walk, trail}
use Rattle.rules.specs.Lists.{each, ◌∈◌}
use Rattle.walk.specs.Input.{offer}
use Rattle.walk.specs.Cut.{Cut, more, over, settle, start, step, turn}
use Rattle.walk.specs.Promises.{Nth, DecidedAt, CutOf, TurnsAdd, CutResume}
use Rattle.walk.proofs.Members.{left_below}
use Rattle.walk.proofs.Trees.{Lawful}
use Rattle.walk.proofs.Layers.{layer_fits}
use Rattle.walk.proofs.Pass.{stays, grown}
use Rattle.walk.proofs.Steady.{after-later}
use Rattle.walk.proofs.Position.{Counts, counts, after-trail}
use Rattle.walk.proofs.Reading.{lawful}

-- ---- a size's candidates look only at smaller formulas

module _ {Mat : Type 0} where
  -- formulas of other sizes leave those of size s as they are
  of_size-none : (s p : ℕ) (x : List (Candidate Mat)) → ((u : Candidate Mat) → u ∈ x → u.node.size ≡ s → ⊥) → of_size s p x ≡ []
  unfolding of_size
  of_size-none s p [] h = refl
  of_size-none s p (c ∷ x) h = go (eqb c.node.size s) refl (of_size-none s (suc p) x (λ u m. h u (Memᴰ.tail m)))
    where
      go : (b : Bool) → eqb c.node.size s ≡ b → of_size s (suc p) x ≡ [] → keep_if b (record { place = p; kept = c }) (of_size s (suc p) x) ≡ []
      go true e r = absurd (h c (Memᴰ.head refl) (eqb-true c.node.size s e))
      go false e r = r

  of_size-append : (s p : ℕ) (k x : List (Candidate Mat)) → ((u : Candidate Mat) → u ∈ x → u.node.size ≡ s → ⊥) → of_size s p (k ++ x) ≡ of_size s p k
  unfolding of_size
  of_size-append s p [] x h = of_size-none s p x h
  of_size-append s p (c ∷ k) x h = ap (keep_if (eqb c.node.size s) (record { place = p; kept = c })) (of_size-append s (suc p) k x h)

each_same : {A B : Type 0} (f g : A → List B) (xs : List A) → ((x : A) → x ∈ xs → f x ≡ g x) → each xs f ≡ each xs g
unfolding each
each_same f g [] h = refl
each_same f g (x ∷ xs) h = ap₂ (λ a b. a ++ b) (h x (Memᴰ.head refl)) (each_same f g xs (λ y m. h y (Memᴰ.tail m)))

module _ {L U B Mat : Type 0} (O : Offer L U B Mat) where
  layer-same : (a : ℕ) (k k' : List (Candidate Mat)) → ((s : ℕ) → s ≤ a → of_size s 0 k' ≡ of_size s 0 k) → layer O (suc a) k' ≡ layer O (suc a) k
  unfolding layer unary_candidates pairs
  layer-same zero k k' h = refl
  layer-same (suc m) k k' h =
      ap₂ (λ x y. x ++ y) (ap (λ (x : List (Placed Mat)). each x λ f. map (λ op. unary_on O op f) O.unaries) (h (suc m) (omega arith)))
      (each_same (λ i. pairs O i (suc m - i) k') (λ i. pairs O i (suc m - i) k) (left_sizes (suc (suc m)))
      λ i w. let z = left_below m i w in
      ap₂ (λ (x y : List (Placed Mat)). each x λ l. each y λ q. each O.binaries λ op. orders O (O.commutes op) op l q)
      (h i (omega arith)) (h (suc m - i) (omega arith)))

  module _ (C : ℕ) (Z : Lawful O) where
    -- the state after the sizes up to a and j candidates of the next
    abbrev within : ℕ → ℕ → WalkState Mat
    within a j = foldl (consider O C) (after O C a) (take j (layer O (suc a) (kept (after O C a))))

    in_take : (j : ℕ) (cs : List (Candidate Mat)) {c : Candidate Mat} → c ∈ take j cs → c ∈ cs
    in_take j cs {c} m = subst (λ (l : List (Candidate Mat)). c ∈ l) (take-append-drop j cs) (Memᴰ.append_left _ m)

    -- within a size its candidates stay the same
    layer-within : (a j : ℕ) → layer O (suc a) (kept (within a j)) ≡ layer O (suc a) (kept (after O C a))
    layer-within a j =
        let k = kept (after O C a) in
        let g = grown O C Z (take j (layer O (suc a) k)) (after O C a) in
        layer-same a k (kept (within a j))
        (λ s h. ap (of_size s 0) g.longer
        ∙ of_size-append s 0 k g.new (λ u m e. let w = (layer_fits O (suc a) k u (in_take j (layer O (suc a) k) (g.comes u m).0)).1 in omega arith))

    -- and all of them come to the size's end
    within_all : (a j : ℕ) → length (layer O (suc a) (kept (after O C a))) ≤ j → within a j ≡ after O C (suc a)
    unfolding after through
    within_all a j h = ap (foldl (consider O C) (after O C a)) (take_all j (layer O (suc a) (kept (after O C a))) h)

    within-rest : (a j : ℕ) → foldl (consider O C) (within a j) (drop j (layer O (suc a) (kept (after O C a)))) ≡ after O C (suc a)
    unfolding after through
    within-rest a j =
        let cs = layer O (suc a) (kept (after O C a)) in
        sym (foldl-append (consider O C) (after O C a) (take j cs) (drop j cs)) ∙ ap (foldl (consider O C) (after O C a)) (take-append-drop j cs)

    within-next : (a j : ℕ) → foldl (consider O C) (within a j) (take 1 (drop j (layer O (suc a) (kept (after O C a))))) ≡ within a (suc j)
    within-next a j =
        let cs = layer O (suc a) (kept (after O C a)) in
        sym (foldl-append (consider O C) (after O C a) (take j cs) (take 1 (drop j cs)))
        ∙ ap (foldl (consider O C) (after O C a)) (sym (take-add j 1 cs) ∙ ap (λ (m : ℕ). take m cs) (let e : j + 1 ≡ suc j = omega arith in e))

    -- those tried after the sizes up to a and j of the next
    done : ℕ → ℕ → List (Candidate Mat)
    done a j = trail O C a ++ take j (layer O (suc a) (kept (after O C a)))

    through-done : (a j : ℕ) → foldl (consider O C) (going [] (tally 0 0)) (done a j) ≡ within a j
    unfolding done
    through-done a j =
        foldl-append (consider O C) (going [] (tally 0 0)) (trail O C a) (take j (layer O (suc a) (kept (after O C a))))
        ∙ ap (λ (st : WalkState Mat). foldl (consider O C) st (take j (layer O (suc a) (kept (after O C a))))) (sym (after-trail O C a))

    -- ---- no more are tried than there were

    nth-le : (cs : List (Candidate Mat)) (p : ℕ) (c : Candidate Mat) → Nth O.agrees cs p c → p ≤ length cs
    nth-le cs p c z = omega (arith, z.position, ap length z.split, length-append z.before (c ∷ z.behind))

    decided-le : (cs : List (Candidate Mat)) (e : Ending) (k : List (Candidate Mat)) (p : ℕ) → DecidedAt O.agrees cs e k p → p ≤ length cs
    decided-le cs (found root) k p z = nth-le cs p z.0 z.1
    decided-le cs (full s) k p z = nth-le cs p z.0 z.1
    decided-le cs none k p z = omega arith

    counts-le : (m : ℕ) (cs : List (Candidate Mat)) (st : WalkState Mat) → Counts O C m cs st → tried st ≤ m + length cs
    counts-le m cs (going k n) w = omega (arith, w.0)
    counts-le m cs (ended e k n) w = omega (arith, w.1, decided-le cs e k w.0 w.2)

    after-le : (a : ℕ) → tried (after O C a) ≤ length (trail O C a)
    after-le a =
        let w = counts-le 0 (trail O C a) (after O C a) (subst (Counts O C 0 (trail O C a)) (sym (after-trail O C a)) (counts O C Z (trail O C a) [] (tally 0 0))) in
        omega arith

    within-le : (a j : ℕ) → tried (within a j) ≤ length (trail O C a) + j
    unfolding done
    within-le a j =
        let cs = take j (layer O (suc a) (kept (after O C a))) in
        let w = counts-le 0 (done a j) (within a j) (subst (Counts O C 0 (done a j)) (through-done a j) (counts O C Z (done a j) [] (tally 0 0))) in
        omega (arith, length-append (trail O C a) cs, length-take j (layer O (suc a) (kept (after O C a))))

    module _ (b : ℕ) where
      -- a cut walk after n candidates, or after fewer where the walk ended
      abbrev Here : ℕ → Cut Mat → Type 0
      Here n (over e k m) = (walk O C b ≡ ended e k m) × (m.tried ≤ n)
      Here n (more s j k m) =
          (a : ℕ) × (s ≡ suc a) × (a < b) × (within a j ≡ going k m)
          × (j < length (layer O (suc a) (kept (after O C a)))) × (n ≡ length (trail O C a) + j)

      over-here : (a : ℕ) → a ≤ b → (e : Ending) (k : List (Candidate Mat)) (n : Tally) → after O C a ≡ ended e k n → walk O C b ≡ ended e k n
      unfolding walk finish
      over-here a h e k n q = ap finish (after-later O C a b h e k n q)

      none_here : (a : ℕ) → a ≡ b → (k : List (Candidate Mat)) (n : Tally) → after O C a ≡ going k n → walk O C b ≡ ended none k n
      unfolding walk finish
      none_here a h k n q = ap finish (ap (after O C) (sym h) ∙ q)

      trail-on : (a : ℕ) → length (trail O C (suc a)) ≡ length (trail O C a) + length (layer O (suc a) (kept (after O C a)))
      unfolding trail
      trail-on a = length-append (trail O C a) (layer O (suc a) (kept (after O C a)))

      -- a size begins, and the first candidate there is stands next
      begins : (d a : ℕ) → a + d ≡ b → (n : ℕ) → n ≡ length (trail O C a) → Here n (settle O C b d (suc a) 0 (after O C a))
      unfolding settle
      begins zero a e n h = go (after O C a) refl
        where
          go : (st : WalkState Mat) → after O C a ≡ st → Here n (settle O C b zero (suc a) 0 st)
          go (going k m) q = (none_here a (omega arith) k m q, omega (arith, after-le a, ap tried q))
          go (ended e' k m) q = (over-here a (omega arith) e' k m q, omega (arith, after-le a, ap tried q))
      begins (suc d) a e n h = go (after O C a) refl (λ g. begins d (suc a) (omega arith) n g)
        where
          empty : length (layer O (suc a) (kept (after O C a))) ≤ 0 → after O C (suc a) ≡ after O C a
          empty l = sym (within_all a 0 l)

          go : (st : WalkState Mat) → after O C a ≡ st
              → (n ≡ length (trail O C (suc a)) → Here n (settle O C b d (suc (suc a)) 0 (after O C (suc a)))) → Here n (settle O C b (suc d) (suc a) 0 st)
          go (ended e' k m) q r = (over-here a (omega arith) e' k m q, omega (arith, after-le a, ap tried q))
          go (going k m) q r = pick (ltb 0 (length (layer O (suc a) k))) refl
            where
              same : length (layer O (suc a) k) ≡ length (layer O (suc a) (kept (after O C a)))
              same = ap (λ (st : WalkState Mat). length (layer O (suc a) (kept st))) (sym q)

              pick : (t : Bool) → ltb 0 (length (layer O (suc a) k)) ≡ t → Here n (cond t (more (suc a) 0 k m) (settle O C b d (suc (suc a)) 0 (going k m)))
              pick true w = (a, refl, omega arith, q, omega (arith, same, ltb-true 0 (length (layer O (suc a) k)) w), omega arith)
              pick false w =
                  let l : length (layer O (suc a) (kept (after O C a))) ≤ 0 = omega (arith, same, ltb-false 0 (length (layer O (suc a) k)) w) in
                  subst (λ (st : WalkState Mat). Here n (settle O C b d (suc (suc a)) 0 st)) (empty l ∙ q) (r (omega (arith, trail-on a)))

      -- within a size, after j of its candidates
      goes : (d a : ℕ) → a + suc d ≡ b → (j n : ℕ) → j ≤ length (layer O (suc a) (kept (after O C a))) → n ≡ length (trail O C a) + j
          → Here n (settle O C b (suc d) (suc a) j (within a j))
      unfolding settle
      goes d a e j n le h = go (within a j) refl
        where
          go : (st : WalkState Mat) → within a j ≡ st → Here n (settle O C b (suc d) (suc a) j st)
          go (ended e' k m) q = (
            over-here (suc a) (omega arith) e' k m
                (sym (within-rest a j)
                ∙ ap (λ (st : WalkState Mat). foldl (consider O C) st (drop j (layer O (suc a) (kept (after O C a))))) q
                ∙ stays O C e' k m (drop j (layer O (suc a) (kept (after O C a))))),
            omega (arith, within-le a j, ap tried q),
          )
          go (going k m) q = pick (ltb j (length (layer O (suc a) k))) refl
            where
              same : length (layer O (suc a) k) ≡ length (layer O (suc a) (kept (after O C a)))
              same = ap (λ (st : WalkState Mat). length (layer O (suc a) (kept st))) (sym q) ∙ ap length (layer-within a j)

              pick : (t : Bool) → ltb j (length (layer O (suc a) k)) ≡ t → Here n (cond t (more (suc a) j k m) (settle O C b d (suc (suc a)) 0 (going k m)))
              pick true w = (a, refl, omega arith, q, omega (arith, same, ltb-true j (length (layer O (suc a) k)) w), h)
              pick false w =
                  let l : length (layer O (suc a) (kept (after O C a))) ≤ j = omega (arith, same, ltb-false j (length (layer O (suc a) k)) w) in
                  subst (λ (st : WalkState Mat). Here n (settle O C b d (suc (suc a)) 0 st)) (sym (within_all a j l) ∙ q)
                  (begins d (suc a) (omega arith) n (omega (arith, trail-on a)))

      starts : Here 0 (start O C b)
      unfolding start after trail
      starts = begins b 0 (omega arith) 0 refl

      steps : (n : ℕ) (c : Cut Mat) → Here n c → Here (suc n) (step O C b c)
      unfolding step
      steps n (over e k m) (h, le) = (h, omega arith)
      steps n (more s j k m) (a, es, la, q, lj, en) =
          subst (λ (s : ℕ). Here (suc n) (settle O C b (suc b - s) s (suc j) (foldl (consider O C) (going k m) (take 1 (drop j (layer O s k))))))
          (sym es)
          (subst (λ (st : WalkState Mat). Here (suc n) (settle O C b (suc b - suc a) (suc a) (suc j) st)) (sym next)
          (subst (λ (d : ℕ). Here (suc n) (settle O C b d (suc a) (suc j) (within a (suc j)))) (let e : suc (b - suc a) ≡ suc b - suc a = omega arith in e)
          (goes (b - suc a) a (omega arith) (suc j) (suc n) lj (omega arith))))
        where
          same : layer O (suc a) k ≡ layer O (suc a) (kept (after O C a))
          same = ap (λ (st : WalkState Mat). layer O (suc a) (kept st)) (sym q) ∙ layer-within a j

          next : foldl (consider O C) (going k m) (take 1 (drop j (layer O (suc a) k))) ≡ within a (suc j)
          next =
              ap₂ (λ (st : WalkState Mat) (cs : List (Candidate Mat)). foldl (consider O C) st (take 1 (drop j cs))) (sym q) same
              ∙ within-next a j

      turns : (t n : ℕ) (c : Cut Mat) → Here n c → Here (n + t) (turn O C b t c)
      unfolding turn
      turns zero n c h = rw (let e : n + 0 ≡ n = omega arith in e) h
      turns (suc t) n c h = rw (let e : n + suc t ≡ suc n + t = omega arith in e) (turns t (suc n) (step O C b c) (steps n c h))

      turn-add : (t u : ℕ) (c : Cut Mat) → turn O C b u (turn O C b t c) ≡ turn O C b (t + u) c
      unfolding turn
      turn-add zero u c = ap (λ (n : ℕ). turn O C b n c) (let e : u ≡ 0 + u = omega arith in e)
      turn-add (suc t) u c = turn-add t u (step O C b c) ∙ ap (λ (n : ℕ). turn O C b n c) (let e : suc (t + u) ≡ suc t + u = omega arith in e)

      -- ---- what a cut walk has tried and kept

      -- the trail up to b goes on from the trail up to a smaller size
      trail-later : (a d : ℕ) → suc a ≤ d → (rest : List (Candidate Mat)) × (trail O C d ≡ trail O C (suc a) ++ rest)
      unfolding trail
      trail-later a zero h = absurd (omega arith)
      trail-later a (suc d) h =
          ⊎_elim
          (λ e. ([], ap (trail O C) (sym e) ∙ sym (append-nil (trail O C (suc a)))))
          (λ l. let (rest, w) = trail-later a d (omega arith) in (
            rest ++ layer O (suc d) (kept (after O C d)),
            ap (λ (cs : List (Candidate Mat)). cs ++ layer O (suc d) (kept (after O C d))) w
                ∙ append_assoc (trail O C (suc a)) rest (layer O (suc d) (kept (after O C d))),
          ))
          (eq-or-lt_of_le h)

      trail-cut : (a j : ℕ) → suc a ≤ b → (rest : List (Candidate Mat)) × (trail O C b ≡ done a j ++ (drop j (layer O (suc a) (kept (after O C a))) ++ rest))
      unfolding trail done
      trail-cut a j h =
          let cs = layer O (suc a) (kept (after O C a)) in
          let (rest, w) = trail-later a b h in (
            rest,
            w ∙ ap (λ (l : List (Candidate Mat)). (trail O C a ++ l) ++ rest) (sym (take-append-drop j cs))
                ∙ simp append_assoc,
          )

      length-done : (a j : ℕ) → j ≤ length (layer O (suc a) (kept (after O C a))) → length (done a j) ≡ length (trail O C a) + j
      unfolding done
      length-done a j h = simp (length-append, length-take) (omega arith)

      tried-finish : (st : WalkState Mat) → tried (finish st) ≡ tried st
      unfolding finish
      tried-finish (going k n) = refl
      tried-finish (ended e k n) = refl

      -- a walk that goes on before some candidate tries more
      tries-more : (cs k : List (Candidate Mat)) (m : Tally) → 0 < length cs → m.tried < tried (foldl (consider O C) (going k m) cs)
      tries-more cs k m h = go (foldl (consider O C) (going k m) cs) (counts O C Z cs k m)
        where
          some : (e : Ending) (k' : List (Candidate Mat)) (p : ℕ) → DecidedAt O.agrees cs e k' p → (e ≡ none → ⊥) → 0 < p
          some (found root) k' p z w = omega (arith, z.1.position)
          some (full s) k' p z w = omega (arith, z.1.position)
          some none k' p z w = absurd (w refl)

          go : (st : WalkState Mat) → Counts O C m.tried cs st → m.tried < tried st
          go (going k' n) w = omega (arith, w.0)
          go (ended e k' n) w = omega (arith, w.1, some e k' w.0 w.2 w.3)

      -- what `CutOf` says, here of any offer: `CutOf` is of an input's, so that a reader of the promises needs no offer
      abbrev pub CutAt : ℕ → Cut Mat → Type 0
      CutAt n (over e k m) = (walk O C b ≡ ended e k m) × (m.tried ≤ n)
      CutAt n (more s j k m) =
          (m.tried ≡ n) × (n < tried (walk O C b)) × (foldl (consider O C) (going [] (tally 0 0)) (take n (trail O C b)) ≡ going k m)

      cut_at : (n : ℕ) (c : Cut Mat) → Here n c → CutAt n c
      unfolding walk
      cut_at n (over e k m) h = h
      cut_at n (more s j k m) (a, es, la, q, lj, en) =
          let (rest, w) = trail-cut a j la in
          let cs = layer O (suc a) (kept (after O C a)) in
          let left = drop j cs ++ rest in
          let ld = length-done a j (omega arith) in
          let at = through-done a j ∙ q in
          let c = subst (Counts O C 0 (done a j)) at (counts O C Z (done a j) [] (tally 0 0)) in
          let mn : m.tried ≡ n = omega (arith, c.0) in
          let whole = after-trail O C b ∙ ap (foldl (consider O C) (going [] (tally 0 0))) w ∙ foldl-append (consider O C) (going [] (tally 0 0)) (done a j) left
          ∙ ap (λ (st : WalkState Mat). foldl (consider O C) st left) at in
          let some : 0 < length left = omega (arith, length-append (drop j cs) rest, length-drop j cs) in (
            mn,
            omega (arith, tries-more left k m some, tried-finish (after O C b), ap tried whole),
            ap (λ (p : ℕ). foldl (consider O C) (going [] (tally 0 0)) (take p (trail O C b))) (en ∙ sym ld)
                ∙ ap (λ (l : List (Candidate Mat)). foldl (consider O C) (going [] (tally 0 0)) (take (length (done a j)) l)) w
                ∙ ap (foldl (consider O C) (going [] (tally 0 0))) (take-append_seam (done a j) left)
                ∙ at,
          )

      pub cut-whole : (n : ℕ) → CutAt n (turn O C b n (start O C b))
      cut-whole n = cut_at n (turn O C b n (start O C b))
          (subst (λ (m : ℕ). Here m (turn O C b n (start O C b))) (let e : 0 + n ≡ n = omega arith in e) (turns n 0 (start O C b) starts))

-- ---- the promises

pub turns-add : TurnsAdd
turns-add i a b c = turn-add (offer i) i.room (lawful i) i.bound a b c

pub cut-resume : CutResume
cut-resume i n = go (turn (offer i) i.room i.bound n (start (offer i) i.room i.bound)) (cut-whole (offer i) i.room (lawful i) i.bound n)
  where
    go : (c : Cut (List ℕ)) → CutAt (offer i) i.room (lawful i) i.bound n c → CutOf i n c
    go (over e k m) h = h
    go (more s j k m) h = h
