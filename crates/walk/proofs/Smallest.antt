-- After the sizes up to b: as long as the walk goes on, each formula of a size up to b has a kept one that stands for it, and none of them
-- agrees with the marks. So what is found is smallest, and where there was no place nothing smaller would have been found.
-- Assumes nothing.
use mathlib.Core.Path.{◌≡◌, refl, sym, ap, ◌∙◌, subst}
use mathlib.Core.Logic.{◌⊎◌, ⊎_elim}
use mathlib.Core.Bool.{true, true≢false}
use mathlib.Core.List.Memᴰ
use mathlib.Core.List.{List, [], map, foldl}
use Prim.Native.Nat.{ℕ, zero, suc, ◌≤◌}
use native.Mathlib.Omega.{arith}
use native.Mathlib.Nat.{eq-or-lt_of_le}
use native.Mathlib.Decide.{dec_le}
use lib.ListN.{length}
use Rattle.formula.specs.Formula.{Tree, size}
use Rattle.rules.specs.Lists.{◌∈◌}
use Rattle.formula.proofs.Trees.{size-pos}
use Rattle.formula.specs.Nodes.{Node, Spells}
use Rattle.walk.specs.Walk.{Offer, Candidate, Ending, found, full, none, WalkState, going, ended, kept, layer, consider, through, after, finish, walk, matrix}
use Rattle.walk.proofs.Trees.{From, Lawful, Is, is-size, is-longer, Sound, Ordered, ordered-sound, ordered-append}
use Rattle.walk.proofs.Layers.{Complete, layer_fits, layer-has}
use Rattle.walk.proofs.Pass.{Rejected, Grows, grows-keeps, grows_from, Covers, Pass, pass, stays, Tidy, tidy}

module _ {L U B Mat : Type 0} (O : Offer L U B Mat) where
  -- each formula over what was offered that agrees with the marks has a size of n or more
  abbrev pub Needs : ℕ → Type 0
  Needs n = (t : Tree L U B) → From O t → O.agrees (matrix O t) ≡ true → n ≤ size t

  -- a kept list's formulas: each is one over what was offered and those before it, and does not agree with the marks
  abbrev pub Ours : List (Candidate Mat) → Type 0
  Ours k = Ordered O [] k × ((c : Candidate Mat) → c ∈ k → Rejected O c)

  -- the root node over the list is a formula over what was offered of a size up to b; it agrees, and nothing smaller does
  pub record Smallest (b : ℕ) (root : Node) (k : List (Candidate Mat)) : Type 0 where
    pub formula : Tree L U B
    pub spelled : Spells O.codes (map (λ d. d.node) k) root formula
    pub from : From O formula
    pub within : size formula ≤ b
    pub agreed : O.agrees (matrix O formula) ≡ true
    pub least : Needs (size formula)

  -- a list as long as there is room, of formulas of a size up to s, and one more of that size whose matrix is none of theirs
  pub record Spills (C b s : ℕ) (k : List (Candidate Mat)) : Type 0 where
    pub within : s ≤ b
    pub as_many : length k ≡ C
    pub small : (c : Candidate Mat) → c ∈ k → c.node.size ≤ s
    pub extra : Candidate Mat
    pub formula : (t : Tree L U B) × Is O k extra t
    pub sized : extra.node.size ≡ s
    pub rejected : Rejected O extra
    pub fresh : (u : Candidate Mat) → u ∈ k → u.matrix ≡ extra.matrix → ⊥
    pub least : Needs s

  pub record Inv (b : ℕ) (k : List (Candidate Mat)) : Type 0 where
    pub sizes : (c : Candidate Mat) → c ∈ k → c.node.size ≤ b
    pub complete : Complete O b k

  -- nothing of a size up to b agrees
  inv-needs : (b : ℕ) (k : List (Candidate Mat)) → Ours k → Inv b k → Needs (suc b)
  inv-needs b k o i t f s =
      elim (dec_le (size t) b) [
        | yes h ↦ (let (c, hc, lc, ec) = i.complete t f h in absurd (true≢false (sym s ∙ ap O.agrees (sym ec) ∙ o.1 c hc)))
        | no h ↦ omega arith
      ]

  sound : (k : List (Candidate Mat)) → Ours k → Sound O k
  sound k o = ordered-sound O k o.0

  -- what is kept after one more layer
  ours-more : (b : ℕ) (k k' : List (Candidate Mat)) → Ours k → Grows O k (layer O (suc b) k) k' → Ours k'
  ours-more b k k' o g = (
    subst (Ordered O []) (sym g.longer) (ordered-append O [] k g.new o.0 (λ c m. (layer_fits O (suc b) k c (g.comes c m).0).0 (sound k o))),
    λ c m. ⊎_elim (λ h. o.1 c h) (λ h. h.1) (grows_from O g c m),
  )

  sizes-more : (b : ℕ) (k k' : List (Candidate Mat)) → Inv b k → Grows O k (layer O (suc b) k) k' → (c : Candidate Mat) → c ∈ k' → c.node.size ≤ suc b
  sizes-more b k k' i g c m =
      ⊎_elim (λ h. omega (arith, i.sizes c h)) (λ h. omega (arith, (layer_fits O (suc b) k c h.0).1)) (grows_from O g c m)

  module _ (C : ℕ) where
    abbrev pub EndsWell : ℕ → Ending → List (Candidate Mat) → Type 0
    EndsWell b (found root) k = Smallest b root k
    EndsWell b (full s) k = Spills C b s k
    EndsWell b none k = Needs (suc b)

    abbrev After : ℕ → WalkState Mat → Type 0
    After b (going k n) = Inv b k
    After b (ended e k n) = EndsWell b e k × (e ≡ none → ⊥)

    module _ (Z : Lawful O) where
      complete-more : (b : ℕ) (k k' : List (Candidate Mat)) → Ours k → Inv b k → Grows O k (layer O (suc b) k) k' → Covers O (layer O (suc b) k) k'
          → Complete O (suc b) k'
      complete-more b k k' o i g hs t f h =
          ⊎_elim
          (λ e. ⊎_elim
          (λ w. let v = hs w.0 w.1 in
          let z = sizes-more b k k' i g v.0 v.1 in
          (v.0, v.1, omega arith, v.2 ∙ w.2))
          (λ w. (w.0, grows-keeps O g w.0 w.1, w.2, w.3))
          (layer-has O Z b k (sound k o) i.complete t f e))
          (λ l. let w = i.complete t f (omega arith) in (w.0, grows-keeps O g w.0 w.1, w.2, w.3))
          (eq-or-lt_of_le h)

      -- one layer, from a state that goes on
      after-layer : (b : ℕ) (k : List (Candidate Mat)) → Tidy O C k → Ours k → Inv b k → (st : WalkState Mat) → Tidy O C (kept st)
          → Pass O C k (layer O (suc b) k) st → Ours (kept st) × After (suc b) st
      after-layer b k y o i (going k' n) d p = (
        ours-more b k k' o p.0,
        record { sizes = sizes-more b k k' i p.0; complete = complete-more b k k' o i p.0 p.1 },
      )
      after-layer b k y o i (ended (found root) k' n) d p =
          let z = p.1 in
          let (w, ws) = layer_fits O (suc b) k z.hit z.among in
          let (t, it) = w (sound k o) in
          let it' = is-longer O p.0.new it in
          let e = is-size O it in (
            ours-more b k k' o p.0,
            (
              record {
                formula = t;
                spelled = subst (λ (m : Node). Spells O.codes (map (λ d. d.node) k') m t) z.named
                    (subst (λ (l : List (Candidate Mat)). Is O l z.hit t) (sym p.0.longer) it').spelled;
                from = it.from;
                within = omega arith;
                agreed = ap O.agrees (sym it.rows) ∙ z.agreed;
                least = λ u f s. (let q = inv-needs b k o i u f s in omega arith);
              },
              λ q. let v : ◌≡◌ {A = ℕ} 0 1 = cc in omega arith,
            ),
          )
      after-layer b k y o i (ended (full s) k' n) d p =
          let z = p.1 in
          let (w, ws) = layer_fits O (suc b) k z.extra z.among in
          let (t, it) = w (sound k o) in
          let e : s ≡ suc b = sym z.sized ∙ ws in
          let r = z.no_room in (
            ours-more b k k' o p.0,
            (
              record {
                within = omega arith;
                as_many = omega (arith, d.0);
                small = λ c m. (let v = sizes-more b k k' i p.0 c m in omega arith);
                extra = z.extra;
                formula = (t, subst (λ (l : List (Candidate Mat)). Is O l z.extra t) (sym p.0.longer) (is-longer O p.0.new it));
                sized = z.sized;
                rejected = z.rejected;
                fresh = z.fresh;
                least = λ u f q. (let v = inv-needs b k o i u f q in omega arith);
              },
              λ q. let v : ◌≡◌ {A = ℕ} 0 1 = cc in omega arith,
            ),
          )
      after-layer b k y o i (ended none k' n) d p = absurd p.1

      -- what was said up to b is said up to b + 1
      ends-later : (b : ℕ) (e : Ending) (k : List (Candidate Mat)) → (e ≡ none → ⊥) → EndsWell b e k → EndsWell (suc b) e k
      ends-later b (found root) k h w = record {
        formula = w.formula;
        spelled = w.spelled;
        from = w.from;
        within = omega (arith, w.within);
        agreed = w.agreed;
        least = w.least;
      }
      ends-later b (full s) k h w = record {
        within = omega (arith, w.within);
        as_many = w.as_many;
        small = w.small;
        extra = w.extra;
        formula = w.formula;
        sized = w.sized;
        rejected = w.rejected;
        fresh = w.fresh;
        least = w.least;
      }
      ends-later b none k h w = absurd (h refl)

      abbrev Whole : ℕ → WalkState Mat → Type 0
      Whole b st = Tidy O C (kept st) × Ours (kept st) × After b st

      through-one : (b : ℕ) (st : WalkState Mat) → Whole b st → Whole (suc b) (through O C (suc b) st)
      unfolding through
      through-one b (going k n) (d, o, i) =
          let y = tidy O C Z (layer O (suc b) k) (going k n) d in
          let w = after-layer b k d o i (foldl (consider O C) (going k n) (layer O (suc b) k)) y (pass O C Z (layer O (suc b) k) k n) in
          (y, w.0, w.1)
      through-one b (ended e k n) (d, o, i) = rw stays (d, o, (ends-later b e k i.1 i.0, i.1))

      after-whole : (b : ℕ) → Whole b (after O C b)
      unfolding after
      after-whole zero = (
        (omega arith, tt),
        (tt, λ c m. absurd (Memᴰ.not-nil m)),
        record { sizes = λ c m. absurd (Memᴰ.not-nil m); complete = λ t f h. (let p = size-pos t in absurd (omega arith)) },
      )
      after-whole (suc b) = through-one b (after O C b) (after-whole b)

      abbrev pub Says : ℕ → WalkState Mat → Type 0
      Says b (going k n) = ⊥
      Says b (ended e k n) = Tidy O C k × Ours k × EndsWell b e k

      says : (b : ℕ) (st : WalkState Mat) → Whole b st → Says b (finish st)
      unfolding finish
      says b (going k n) (d, o, i) = (d, o, inv-needs b k o i)
      says b (ended e k n) (d, o, i) = (d, o, i.0)

      -- THE THEOREM over matrices
      pub walk-says : (b : ℕ) → Says b (walk O C b)
      unfolding walk
      walk-says b = says b (after O C b) (after-whole b)
