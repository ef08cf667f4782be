-- Formulas over an offer: the matrix of one, which of them use only what was offered, and how a candidate stands for one.
-- Assumes nothing.
use mathlib.Core.Path.{◌≡◌, refl, sym, subst}
use mathlib.Core.Logic.{◌⊎◌, inl, inr}
use mathlib.Core.Bool.{true, false}
use mathlib.Core.List.Memᴰ
use mathlib.Core.List.{List, [], ◌∷◌, ◌++◌, map, map-append, append-nil, append_assoc}
use Prim.Native.Nat.{ℕ, ◌+◌, ◌≤◌, ◌<◌}
use native.Mathlib.Omega.{arith}
use lib.ListN.{length, length-append, get_or-append}
use Rattle.formula.specs.Formula.{Tree, leaf, unary, binary, size}
use Rattle.rules.specs.Lists.{◌∈◌}
use Rattle.formula.specs.Nodes.{Spells}
use Rattle.formula.proofs.Trees.{spells-size, spells-longer}
use Rattle.walk.specs.Walk.{Offer, Candidate, matrix}

module _ {L U B Mat : Type 0} (O : Offer L U B Mat) where
  -- it uses only what was offered
  abbrev pub From : Tree L U B → Type 0
  From (leaf c) = c ∈ O.leaves
  From (unary op t) = (op ∈ O.unaries) × From t
  From (binary op l r) = (op ∈ O.binaries) × From l × From r

  -- what the comparison and the commuting marks must mean
  pub record Lawful : Type 0 where
    pub same_true : (x y : Mat) → O.same x y ≡ true → x ≡ y
    pub same_false : (x y : Mat) → O.same x y ≡ false → x ≡ y → ⊥
    pub commute : (op : B) → O.commutes op ≡ true → (x y : Mat) → O.binary_matrix op x y ≡ O.binary_matrix op y x

  -- over the list k the candidate is the formula t
  pub record Is (k : List (Candidate Mat)) (c : Candidate Mat) (t : Tree L U B) : Type 0 where
    pub spelled : Spells O.codes (map (λ d. d.node) k) c.node t
    pub from : From t
    pub rows : c.matrix ≡ matrix O t

  pub is-size : {k : List (Candidate Mat)} {c : Candidate Mat} {t : Tree L U B} → Is k c t → c.node.size ≡ size t
  is-size {k} {c} {t} i = spells-size O.codes (map (λ d. d.node) k) c.node t i.spelled

  pub is-longer : {k : List (Candidate Mat)} (x : List (Candidate Mat)) {c : Candidate Mat} {t : Tree L U B} → Is k c t → Is (k ++ x) c t
  is-longer {k} x {c} {t} i = record {
    spelled =
        rw (map-append) (spells-longer O.codes (map (λ d. d.node) k) (map (λ d. d.node) x) c.node t i.spelled);
    from = i.from;
    rows = i.rows;
  }

  -- each of the list is a formula over what was offered
  abbrev pub Sound : List (Candidate Mat) → Type 0
  Sound k = (c : Candidate Mat) → c ∈ k → (t : Tree L U B) × Is k c t

  -- and over those before it alone: x stands before the list
  abbrev pub Ordered : List (Candidate Mat) → List (Candidate Mat) → Type 0
  Ordered x [] = Unit {0}
  Ordered x (c ∷ k) = ((t : Tree L U B) × Is x c t) × Ordered (x ++ (c ∷ [])) k

  sound-from : (x k : List (Candidate Mat)) → Ordered x k → (c : Candidate Mat) → c ∈ k → (t : Tree L U B) × Is (x ++ k) c t
  sound-from x [] o c m = absurd (Memᴰ.not-nil m)
  sound-from x (d ∷ k) o c m = go (Memᴰ.cases_cons m) (λ h. sound-from (x ++ (d ∷ [])) k o.1 c h)
    where
      go : (c ≡ d) ⊎ (c ∈ k) → (c ∈ k → (t : Tree L U B) × Is ((x ++ (d ∷ [])) ++ k) c t) → (t : Tree L U B) × Is (x ++ (d ∷ k)) c t
      go (inl e) r = (o.0.0, subst (λ (a : Candidate Mat). Is (x ++ (d ∷ k)) a o.0.0) (sym e) (is-longer (d ∷ k) o.0.1))
      go (inr h) r = let w = r h in (w.0, subst (λ (l : List (Candidate Mat)). Is l c w.0) (append_assoc x (d ∷ []) k) w.1)

  pub ordered-sound : (k : List (Candidate Mat)) → Ordered [] k → Sound k
  ordered-sound k o = sound-from [] k o

  -- a list goes on with formulas over it
  ordered-new : (x new : List (Candidate Mat)) → ((c : Candidate Mat) → c ∈ new → (t : Tree L U B) × Is x c t) → Ordered x new
  ordered-new x [] h = tt
  ordered-new x (c ∷ new) h = (
    h c (Memᴰ.head refl),
    ordered-new (x ++ (c ∷ [])) new (λ d m. let w = h d (Memᴰ.tail m) in (w.0, is-longer (c ∷ []) w.1)),
  )

  pub ordered-append : (x k new : List (Candidate Mat)) → Ordered x k → ((c : Candidate Mat) → c ∈ new → (t : Tree L U B) × Is (x ++ k) c t)
      → Ordered x (k ++ new)
  ordered-append x [] new o h =
      ordered-new x new (λ c m. let w = h c m in (w.0, subst (λ (l : List (Candidate Mat)). Is l c w.0) (append-nil x) w.1))
  ordered-append x (c ∷ k) new o h = (
    o.0,
    ordered-append (x ++ (c ∷ [])) k new o.1
        (λ d m. let w = h d m in (w.0, subst (λ (l : List (Candidate Mat)). Is l d w.0) (sym (append_assoc x (c ∷ []) k)) w.1)),
  )
