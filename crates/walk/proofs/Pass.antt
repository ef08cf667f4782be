-- What the candidates of one list come to, one after another: what is kept grows at its end, by candidates that do not agree with the marks,
-- no two with one matrix and no more than there is room for.
-- Assumes nothing.
use mathlib.Core.Path.{◌≡◌, refl, sym, ap, ◌∙◌, subst}
use mathlib.Core.Logic.{◌⊎◌, inl, inr, ⊎_elim}
use mathlib.Core.Bool.{Bool, true, false, ◌||◌, true≢false}
use mathlib.Core.List.Memᴰ
use mathlib.Core.List.{List, [], ◌∷◌, ◌++◌, foldl, append-nil, append_assoc}
use Prim.Native.Nat.{ℕ, suc, ◌+◌, ◌≤◌}
use native.Mathlib.Omega.{arith}
use lib.ListN.{length, length-append}
use lib.Dec.{leb}
use borrow.Author.Tests.{leb-true, leb-false}
use Rattle.rules.specs.Lists.{◌∈◌}
use Rattle.formula.specs.Nodes.{Node}
use Rattle.walk.specs.Walk.{Offer, Candidate, Ending, found, full, none, Tally, one_tried, WalkState, going, ended, kept, walk_tally, finish, known, judge, consider}
use Rattle.walk.proofs.Trees.{Lawful}

-- the end keeps what was kept
pub kept-finish : {Mat : Type 0} (st : WalkState Mat) → kept (finish st) ≡ kept st
unfolding finish
kept-finish (going k n) = refl
kept-finish (ended e k n) = refl

module _ {L U B Mat : Type 0} (O : Offer L U B Mat) where
  -- the candidate does not agree with the marks
  abbrev pub Rejected : Candidate Mat → Type 0
  Rejected c = O.agrees c.matrix ≡ false

  module _ (Z : Lawful O) where
    pub known-true : (x : Mat) (k : List (Candidate Mat)) → known O x k ≡ true → (c : Candidate Mat) × (c ∈ k) × (c.matrix ≡ x)
    unfolding known
    known-true x [] e = absurd (true≢false (sym e))
    known-true x (d ∷ k) e = go (O.same x d.matrix) refl e (λ h. known-true x k h)
      where
        go : (b : Bool) → O.same x d.matrix ≡ b → (b || known O x k) ≡ true
            → (known O x k ≡ true → (c : Candidate Mat) × (c ∈ k) × (c.matrix ≡ x)) → (c : Candidate Mat) × (c ∈ (d ∷ k)) × (c.matrix ≡ x)
        go true w h r = (d, Memᴰ.head refl, sym (Z.same_true x d.matrix w))
        go false w h r = let v = r h in (v.0, Memᴰ.tail v.1, v.2)

    pub known-false : (x : Mat) (k : List (Candidate Mat)) → known O x k ≡ false → (c : Candidate Mat) → c ∈ k → c.matrix ≡ x → ⊥
    unfolding known
    known-false x [] e c m q = Memᴰ.not-nil m
    known-false x (d ∷ k) e c m q = go (O.same x d.matrix) refl e (λ h m'. known-false x k h c m' q) (Memᴰ.cases_cons m)
      where
        go : (b : Bool) → O.same x d.matrix ≡ b → (b || known O x k) ≡ false → (known O x k ≡ false → c ∈ k → ⊥) → (c ≡ d) ⊎ (c ∈ k) → ⊥
        go true w h r y = true≢false h
        go false w h r (inl y) = Z.same_false x d.matrix w (sym q ∙ ap (λ (a : Candidate Mat). a.matrix) y)
        go false w h r (inr y) = r h y

  -- ---- a list of candidates, from a state that goes on

  -- what is kept grows at its end, by candidates that were rejected
  pub record Grows (k cs k' : List (Candidate Mat)) : Type 0 where
    pub new : List (Candidate Mat)
    pub longer : k' ≡ k ++ new
    pub comes : (u : Candidate Mat) → u ∈ new → (u ∈ cs) × Rejected u

  pub grows-keeps : {k cs k' : List (Candidate Mat)} → Grows k cs k' → (u : Candidate Mat) → u ∈ k → u ∈ k'
  grows-keeps g u m = subst (λ (l : List (Candidate Mat)). u ∈ l) (sym g.longer) (Memᴰ.append_left _ m)

  pub grows_from : {k cs k' : List (Candidate Mat)} → Grows k cs k' → (u : Candidate Mat) → u ∈ k' → (u ∈ k) ⊎ ((u ∈ cs) × Rejected u)
  grows_from {k} g u m = ⊎_elim inl (λ h. inr (g.comes u h)) (Memᴰ.append_cases k (subst (λ (l : List (Candidate Mat)). u ∈ l) g.longer m))

  -- all were passed: each candidate's matrix is that of a kept formula
  abbrev pub Covers : List (Candidate Mat) → List (Candidate Mat) → Type 0
  Covers cs k = (c : Candidate Mat) → c ∈ cs → (u : Candidate Mat) × (u ∈ k) × (u.matrix ≡ c.matrix)

  -- the one that was found
  pub record Hit (root : Node) (cs : List (Candidate Mat)) : Type 0 where
    pub hit : Candidate Mat
    pub among : hit ∈ cs
    pub named : hit.node ≡ root
    pub agreed : O.agrees hit.matrix ≡ true

  -- the one for which there was no room
  pub record Stuck (C s : ℕ) (cs k : List (Candidate Mat)) : Type 0 where
    pub extra : Candidate Mat
    pub among : extra ∈ cs
    pub sized : extra.node.size ≡ s
    pub rejected : Rejected extra
    pub fresh : (u : Candidate Mat) → u ∈ k → u.matrix ≡ extra.matrix → ⊥
    pub no_room : C ≤ length k

  -- no two of the list have one matrix
  abbrev pub Distinct : List (Candidate Mat) → Type 0
  Distinct [] = Unit {0}
  Distinct (c ∷ k) = ((u : Candidate Mat) → u ∈ k → u.matrix ≡ c.matrix → ⊥) × Distinct k

  pub distinct-one : (k : List (Candidate Mat)) (c : Candidate Mat) → Distinct k → ((u : Candidate Mat) → u ∈ k → u.matrix ≡ c.matrix → ⊥)
      → Distinct (k ++ (c ∷ []))
  distinct-one [] c d f = (λ u m. absurd (Memᴰ.not-nil m), tt)
  distinct-one (t ∷ k) c d f = (
    λ u m e. ⊎_elim (λ h. d.0 u h e)
        (λ h. f t (Memᴰ.head refl) (sym e ∙ ap (λ (a : Candidate Mat). a.matrix) (Memᴰ.eq_of_singleton h))) (Memᴰ.append_cases k m),
    distinct-one k c d.1 (λ u m. f u (Memᴰ.tail m)),
  )

  module _ (C : ℕ) where
    abbrev Ends : Ending → List (Candidate Mat) → List (Candidate Mat) → Type 0
    Ends (found root) cs k = Hit root cs
    Ends (full s) cs k = Stuck C s cs k
    Ends none cs k = ⊥

    abbrev pub Pass : List (Candidate Mat) → List (Candidate Mat) → WalkState Mat → Type 0
    Pass k cs (going k' n) = Grows k cs k' × Covers cs k'
    Pass k cs (ended e k' n) = Grows k cs k' × Ends e cs k'

    -- after the end nothing changes
    pub stays : (e : Ending) (k : List (Candidate Mat)) (n : Tally) (cs : List (Candidate Mat)) → foldl (consider O C) (ended e k n) cs ≡ ended e k n
    unfolding consider
    stays e k n [] = refl
    stays e k n (c ∷ cs) = stays e k n cs

    -- a candidate is passed, and the rest goes on from the list that it leaves
    grows-on : (c : Candidate Mat) (cs k k₁ k' : List (Candidate Mat)) → Grows k (c ∷ []) k₁ → Grows k₁ cs k' → Grows k (c ∷ cs) k'
    grows-on c cs k k₁ k' g h = record {
      new = g.new ++ h.new;
      longer = h.longer ∙ ap (λ (l : List (Candidate Mat)). l ++ h.new) g.longer ∙ append_assoc k g.new h.new;
      comes = λ u m. ⊎_elim
          (λ m₁. let w = g.comes u m₁ in (Memᴰ.head (Memᴰ.eq_of_singleton w.0), w.1))
          (λ m₂. let w = h.comes u m₂ in (Memᴰ.tail w.0, w.1)) (Memᴰ.append_cases g.new m);
    }

    ends_on : (c : Candidate Mat) (cs k : List (Candidate Mat)) (e : Ending) → Ends e cs k → Ends e (c ∷ cs) k
    ends_on c cs k (found root) z = record { hit = z.hit; among = Memᴰ.tail z.among; named = z.named; agreed = z.agreed }
    ends_on c cs k (full s) z = record {
      extra = z.extra;
      among = Memᴰ.tail z.among;
      sized = z.sized;
      rejected = z.rejected;
      fresh = z.fresh;
      no_room = z.no_room;
    }
    ends_on c cs k none z = z

    pass_on : (c : Candidate Mat) (cs k k₁ : List (Candidate Mat)) → Grows k (c ∷ []) k₁ → ((u : Candidate Mat) × (u ∈ k₁) × (u.matrix ≡ c.matrix))
        → (st : WalkState Mat) → Pass k₁ cs st → Pass k (c ∷ cs) st
    pass_on c cs k k₁ g w (going k' n) p = (
      grows-on c cs k k₁ k' g p.0,
      λ d m. ⊎_elim
          (λ e. (w.0, grows-keeps p.0 w.0 w.1, w.2 ∙ ap (λ (a : Candidate Mat). a.matrix) (sym e)))
          (λ h. p.1 d h) (Memᴰ.cases_cons m),
    )
    pass_on c cs k k₁ g w (ended e k' n) p = (grows-on c cs k k₁ k' g p.0, ends_on c cs k' e p.1)

    grows_same : (k cs : List (Candidate Mat)) → Grows k cs k
    grows_same k cs = record { new = []; longer = sym (append-nil k); comes = λ u m. absurd (Memᴰ.not-nil m) }

    grows_one : (c : Candidate Mat) (k : List (Candidate Mat)) → Rejected c → Grows k (c ∷ []) (k ++ (c ∷ []))
    grows_one c k r = record {
      new = c ∷ [];
      longer = refl;
      comes = λ u m. (m, ap (λ (d : Candidate Mat). O.agrees d.matrix) (Memᴰ.eq_of_singleton m) ∙ r);
    }

    module _ (Z : Lawful O) where
      pass_step : (c : Candidate Mat) (cs k : List (Candidate Mat)) (n : Tally)
          → ((k₁ : List (Candidate Mat)) (m : Tally) → Pass k₁ cs (foldl (consider O C) (going k₁ m) cs))
          → (a : Bool) → O.agrees c.matrix ≡ a → (b : Bool) → known O c.matrix k ≡ b → (r : Bool) → leb C (length k) ≡ r
          → Pass k (c ∷ cs) (foldl (consider O C) (judge O a b r c k n) cs)
      unfolding judge
      pass_step c cs k n go true ea b eb r er =
          rw stays (grows_same k (c ∷ cs), record { hit = c; among = Memᴰ.head refl; named = refl; agreed = ea })
      pass_step c cs k n go false ea true eb r er =
          pass_on c cs k k (grows_same k (c ∷ [])) (known-true Z c.matrix k eb)
          (foldl (consider O C) (judge O false true r c k n) cs) (go k (walk_tally (judge O false true r c k n)))
      pass_step c cs k n go false ea false eb true er =
          rw stays (
            grows_same k (c ∷ cs),
            record {
              extra = c;
              among = Memᴰ.head refl;
              sized = refl;
              rejected = ea;
              fresh = known-false Z c.matrix k eb;
              no_room = leb-true C (length k) er;
            },
          )
      pass_step c cs k n go false ea false eb false er =
          pass_on c cs k (k ++ (c ∷ [])) (grows_one c k ea) (c, Memᴰ.append_right k (Memᴰ.head refl), refl)
          (foldl (consider O C) (judge O false false false c k n) cs) (go (k ++ (c ∷ [])) (walk_tally (judge O false false false c k n)))

      pub pass : (cs k : List (Candidate Mat)) (n : Tally) → Pass k cs (foldl (consider O C) (going k n) cs)
      unfolding consider
      pass [] k n = (grows_same k [], λ c m. absurd (Memᴰ.not-nil m))
      pass (c ∷ cs) k n =
          pass_step c cs k (one_tried n) (λ k₁ m. pass cs k₁ m) _ refl _ refl _ refl

      -- from any state
      pub grown : (cs : List (Candidate Mat)) (st : WalkState Mat) → Grows (kept st) cs (kept (foldl (consider O C) st cs))
      grown cs (going k n) = go (foldl (consider O C) (going k n) cs) (pass cs k n)
        where
          go : (st : WalkState Mat) → Pass k cs st → Grows k cs (kept st)
          go (going k' n') p = p.0
          go (ended e k' n') p = p.0
      grown cs (ended e k n) =
          subst (λ (st : WalkState Mat). Grows k cs (kept st)) (sym (stays e k n cs))
          (grows_same k cs)

    -- ---- what each candidate preserves: there is room for those kept, and no two have one matrix

    abbrev pub Tidy : List (Candidate Mat) → Type 0
    Tidy k = (length k ≤ C) × Distinct k

    module _ (Z : Lawful O) where
      tidy-judge : (c : Candidate Mat) (k : List (Candidate Mat)) (n : Tally) → Tidy k
          → (a : Bool) → (b : Bool) → known O c.matrix k ≡ b → (r : Bool) → leb C (length k) ≡ r
          → Tidy (kept (judge O a b r c k n))
      unfolding judge
      tidy-judge c k n i true b eb r er = i
      tidy-judge c k n i false true eb r er = i
      tidy-judge c k n i false false eb true er = i
      tidy-judge c k n i false false eb false er =
          let lt = leb-false C (length k) er in
          (simp length-append (omega arith), distinct-one k c i.1 (known-false Z c.matrix k eb))

      tidy-consider : (st : WalkState Mat) (c : Candidate Mat) → Tidy (kept st) → Tidy (kept (consider O C st c))
      unfolding consider
      tidy-consider (going k n) c i = tidy-judge c k (one_tried n) i (O.agrees c.matrix) (known O c.matrix k) refl (leb C (length k)) refl
      tidy-consider (ended e k n) c i = i

      pub tidy : (cs : List (Candidate Mat)) (st : WalkState Mat) → Tidy (kept st) → Tidy (kept (foldl (consider O C) st cs))
      tidy [] st i = i
      tidy (c ∷ cs) st i = tidy cs (consider O C st c) (tidy-consider st c i)
