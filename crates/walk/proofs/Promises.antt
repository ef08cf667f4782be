-- The promises: the theorem over matrices (Smallest) read by the step from words to the reading (Reading).
-- Assumes nothing.
use mathlib.Core.Path.{◌≡◌, refl, sym, ap, ◌∙◌, subst}
use mathlib.Core.Logic.{◌⊎◌, ⊎_elim}
use mathlib.Core.Bool.{true≢false}
use mathlib.Core.List.Memᴰ
use mathlib.Core.List.{List, [], ◌∷◌, ◌++◌}
use Prim.Native.Nat.{ℕ, suc, ◌+◌, ◌≤◌, ◌<◌}
use native.Mathlib.Omega.{arith}
use lib.ListN.{length}
use Rattle.words.specs.Word.{Means}
use Rattle.formula.specs.Formula.{Formula, size, Holds, Separates, Offered}
use Rattle.rules.specs.Lists.{◌∈◌}
use Rattle.formula.specs.Recorded.{marked_trace, marked_traces}
use Rattle.session.specs.Recording.{length_of}
use Rattle.formula.proofs.Trees.{spells-size}
use Rattle.formula.specs.Nodes.{Node, codes}
use Rattle.walk.specs.Walk.{Candidate, Ending, found, full, none, Tally, WalkState, going, ended, finish, after, walk}
use Rattle.walk.specs.Input.{Input, Passes, language, row, separating, offer, search}
use Rattle.walk.specs.Kept.{Table, table_nodes}
use Rattle.walk.specs.Promises.{NoneBelow, Alike, Apart, FoundAs, KeepsNext, Full, Keeps, KeepsAll, Kept, FoundSmallest, NoneMeansNone, FullNeedsRoom, KeptDistinct, WalkEnds}
use Rattle.walk.proofs.Trees.{Is, is-size, Ordered}
use Rattle.walk.proofs.Pass.{Rejected, Distinct, Tidy}
use Rattle.walk.proofs.Smallest.{Needs, Ours, Smallest, Spills, EndsWell, Says, walk-says}
use Rattle.walk.proofs.Reading.{lawful, from-offered, offered-from, row-means, agrees-separates, length-matrix, alike-matrix}
use Rattle.walk.proofs.Steady.{keeps-next}

module _ (i : Input) (ok : Passes i) where
  needs-below : (s : ℕ) → Needs (offer i) s → NoneBelow i s
  needs-below s n t o l p = let h = n t (from-offered i ok t o) ((agrees-separates i ok t o).1 p) in omega arith

  -- what the walk says of its answer, whatever it is
  said : (e : Ending) (k : Table) (n : Tally) → search i ≡ ended e k n → Tidy (offer i) i.room k × Ours (offer i) k × EndsWell (offer i) i.room i.bound e k
  said e k n q = subst (Says (offer i) i.room (lawful i) i.bound) q (walk-says (offer i) i.room (lawful i) i.bound)

  found-one : (root : Node) (k : Table) → Smallest (offer i) i.bound root k → FoundAs i root k
  found-one root k w =
      let o = offered-from i ok w.formula w.from in
      record {
        formula = w.formula;
        spelled = w.spelled;
        offered = o;
        sized = spells-size codes (table_nodes k) root w.formula w.spelled;
        within = w.within;
        separates = (agrees-separates i ok w.formula o).0 w.agreed;
        smallest = needs-below (size w.formula) w.least;
      }

  -- a candidate that was rejected does not separate
  failed : (k : Table) (c : Candidate (List ℕ)) (t : Formula) → Is (offer i) k c t → Rejected (offer i) c → Separates (marked_traces i.recording) t → ⊥
  failed k c t w r p =
      true≢false (sym ((agrees-separates i ok t (offered-from i ok t w.from)).1 p) ∙ ap (separating i) (sym w.rows) ∙ r)

  -- ---- the formulas of a kept list

  -- the formulas of the candidates cs, one by one, where x stands before them
  pub record Spelled (x cs : Table) : Type 0 where
    pub formulas : List Formula
    pub as_many : length formulas ≡ length cs
    pub keeps : KeepsAll i x cs formulas
    pub each-one : (t : Formula) → t ∈ formulas → (c : Candidate (List ℕ)) × (c ∈ cs) × ((y : Table) × Is (offer i) y c t)

  keeps-one : (x : Table) (c : Candidate (List ℕ)) (t : Formula) → Is (offer i) x c t → Rejected (offer i) c → Keeps i x c t
  keeps-one x c t w r =
      let o = offered-from i ok t w.from in
      record {
        spelled = w.spelled;
        offered = o;
        long = ap length w.rows ∙ length-matrix i ok t;
        means = λ j l. subst (λ (m : List ℕ). Means (length_of i.recording j) (row m j) (Holds (marked_trace i.recording j).trace t)) (sym w.rows) (row-means i ok t o j l);
        failed = failed x c t w r;
      }

  spelled : (x cs : Table) → Ordered (offer i) x cs → ((c : Candidate (List ℕ)) → c ∈ cs → Rejected (offer i) c) → Spelled x cs
  spelled x [] o f = record { formulas = []; as_many = refl; keeps = tt; each-one = λ t m. absurd (Memᴰ.not-nil m) }
  spelled x (c ∷ cs) (w, o) f =
      let rest = spelled (x ++ (c ∷ [])) cs o (λ d m. f d (Memᴰ.tail m)) in
      record {
        formulas = w.0 ∷ rest.formulas;
        as_many = ap suc rest.as_many;
        keeps = (keeps-one x c w.0 w.1 (f c (Memᴰ.head refl)), rest.keeps);
        each-one = λ t m. ⊎_elim
            (λ e. (c, Memᴰ.head refl, (x, subst (Is (offer i) x c) (sym e) w.1)))
            (λ h. let (d, hd, z) = rest.each-one t h in (d, Memᴰ.tail hd, z)) (Memᴰ.cases_cons m);
      }

  -- two candidates with different matrices are not alike
  unlike : (x y : Table) (c d : Candidate (List ℕ)) (t u : Formula) → Is (offer i) x c t → Is (offer i) y d u → (d.matrix ≡ c.matrix → ⊥) → Alike i t u → ⊥
  unlike x y c d t u w v h a =
      h (v.rows ∙ sym (alike-matrix i ok t u (offered-from i ok t w.from) (offered-from i ok u v.from) a) ∙ sym w.rows)

  apart : (x cs : Table) (o : Ordered (offer i) x cs) (f : (c : Candidate (List ℕ)) → c ∈ cs → Rejected (offer i) c)
      → Distinct (offer i) cs → Apart i (spelled x cs o f).formulas
  unfolding spelled
  apart x [] o f d = tt
  apart x (c ∷ cs) (w, o) f d =
      let rest = spelled (x ++ (c ∷ [])) cs o (λ e m. f e (Memᴰ.tail m)) in (
        λ u m. let (e, he, z) = rest.each-one u m in unlike x z.0 c e w.0 u w.1 z.1 (d.0 e he),
        apart (x ++ (c ∷ [])) cs o (λ e m. f e (Memᴰ.tail m)) d.1,
      )

  kept-list : (k : Table) → Tidy (offer i) i.room k → Ours (offer i) k → Kept i k
  kept-list k d (o, f) = record {
    room = d.0;
    formulas = (spelled [] k o f).formulas;
    kept = (spelled [] k o f).keeps;
    apart = apart [] k o f d.1;
  }

  -- the kept formulas and the one more
  full-one : (s : ℕ) (k : Table) → Tidy (offer i) i.room k → Ours (offer i) k → Spills (offer i) i.room i.bound s k
      → ((c : ℕ) → i.room < c → KeepsNext i s k c) → Full i s k
  full-one s k d (o, f) w next =
      let extra = w.formula.0 in
      let rest = spelled [] k o f in
      record {
        all-kept = w.as_many;
        needs = next;
        formulas = extra ∷ rest.formulas;
        beyond = omega (arith, rest.as_many, w.as_many);
        ours = λ t m. ⊎_elim
            (λ e. subst (λ (u : Formula). Offered (language i) u × (size u ≤ s) × (Separates (marked_traces i.recording) u → ⊥)) (sym e) (
              offered-from i ok extra w.formula.1.from,
              omega (arith, is-size (offer i) w.formula.1, w.sized),
              failed k w.extra extra w.formula.1 w.rejected,
            ))
            (λ h. let (c, hc, (y, z)) = rest.each-one t h in
            (offered-from i ok t z.from, omega (arith, is-size (offer i) z, w.small c hc), failed y c t z (f c hc)))
            (Memᴰ.cases_cons m);
        apart = (
          λ u m. (let (c, hc, (y, z)) = rest.each-one u m in unlike k y w.extra c extra u w.formula.1 z (w.fresh c hc)),
          apart [] k o f d.1,
        );
        within = w.within;
        smaller = needs-below s w.least;
      }

-- (1)
pub found-smallest : FoundSmallest
found-smallest i ok root k n q = found-one i ok root k (said i ok (found root) k n q).2

-- (2)
pub none-means-none : NoneMeansNone
none-means-none i ok k n q = needs-below i ok (i.bound + 1) (λ t f a. let h = (said i ok none k n q).2 t f a in omega arith)

-- (3)
pub full-needs-room : FullNeedsRoom
full-needs-room i ok s k n q = let w = said i ok (full s) k n q in full-one i ok s k w.0 w.1 w.2 (keeps-next i s k n q)

-- (5)
pub kept-distinct : KeptDistinct
kept-distinct i ok e k n q = let w = said i ok e k n q in kept-list i ok k w.0 w.1

pub walk_ends : WalkEnds
unfolding walk finish
walk_ends i = go (after (offer i) i.room i.bound)
  where
    go : (st : WalkState (List ℕ)) → (e : Ending) × (k : Table) × (n : Tally) × (finish st ≡ ended e k n)
    go (going k n) = (none, k, n, refl)
    go (ended e k n) = (e, k, n, refl)
