-- What stands in the lists that the walk goes through, and at which places.
-- Assumes nothing.
use mathlib.Core.Path.{◌≡◌, refl, sym, ap, ◌∙◌, subst}
use mathlib.Core.Logic.{◌⊎◌, inl, inr, ⊎_elim}
use mathlib.Core.Bool.{Bool, true, false}
use mathlib.Core.List.Memᴰ
use mathlib.Core.List.{List, [], ◌∷◌, map}
use Prim.Native.Nat.{ℕ, zero, suc, ◌+◌, ◌-◌, ◌≤◌, ◌<◌}
use native.Mathlib.Omega.{arith}
use native.Mathlib.Nat.{eq-or-lt_of_le}
use lib.ListN.{length}
use lib.Dec.{eqb}
use borrow.Author.Tests.{eqb-true, eq-eqb}
use Rattle.formula.specs.Nodes.{node_at}
use Rattle.walk.specs.Walk.{Candidate, Placed, of_size, keep_if, left_sizes}
use Rattle.rules.specs.Lists.{each, count, ◌∈◌}
use Rattle.walk.specs.Promises.{LeftSizes}

module _ {A B : Type 0} where
  pub in-each : (f : A → List B) {x : A} {y : B} {xs : List A} → x ∈ xs → y ∈ f x → y ∈ each xs f
  unfolding each
  in-each f {y} (Memᴰ.head e) h = Memᴰ.append_left _ (subst (λ (z : A). y ∈ f z) e h)
  in-each f (Memᴰ.tail {x} {xs} m) h = Memᴰ.append_right (f x) (in-each f m h)

  pub from_each : (f : A → List B) {y : B} (xs : List A) → y ∈ each xs f → (x : A) × (x ∈ xs) × (y ∈ f x)
  unfolding each
  from_each f [] m = absurd (Memᴰ.not-nil m)
  from_each f {y} (x ∷ xs) m = go (Memᴰ.append_cases (f x) m) (λ h. from_each f xs h)
    where
      go : (y ∈ f x) ⊎ (y ∈ each xs f) → (y ∈ each xs f → (x' : A) × (x' ∈ xs) × (y ∈ f x')) → (x' : A) × (x' ∈ (x ∷ xs)) × (y ∈ f x')
      go (inl h) r = (x, Memᴰ.head refl, h)
      go (inr h) r = let w = r h in (w.0, Memᴰ.tail w.1, w.2)

pub in_count : (a n i : ℕ) → a ≤ i → i < a + n → i ∈ count a n
unfolding count
in_count a zero i h g = absurd (omega arith)
in_count a (suc n) i h g = ⊎_elim (λ e. Memᴰ.head (sym e)) (λ l. Memᴰ.tail (in_count (suc a) n i l (omega arith))) (eq-or-lt_of_le h)

pub from-count : (a n i : ℕ) → i ∈ count a n → (a ≤ i) × (i < a + n)
unfolding count
from-count a zero i m = absurd (Memᴰ.not-nil m)
from-count a (suc n) i m = go (Memᴰ.cases_cons m) (λ h. from-count (suc a) n i h)
  where
    go : (i ≡ a) ⊎ (i ∈ count (suc a) n) → (i ∈ count (suc a) n → (suc a ≤ i) × (i < suc a + n)) → (a ≤ i) × (i < a + suc n)
    go (inl e) r = (omega arith, omega arith)
    go (inr h) r = let w = r h in (omega arith, omega arith)

-- the sizes to the left of a pair are those that are no larger than the sizes to its right
pub left-sizes : LeftSizes
unfolding left_sizes
left-sizes s i j e = (
  λ m. let w = from-count 1 _ i m in (omega arith, omega arith),
  λ h. in_count 1 _ i (omega arith) (omega arith),
)

pub left_below : (m i : ℕ) → i ∈ left_sizes (suc (suc m)) → i ≤ suc m
unfolding left_sizes
left_below m i h = let w = from-count 1 _ i h in omega arith

-- ---- those of a size, with their places

in-keep_if : {A : Type 0} (b : Bool) (x : A) {y : A} {ys : List A} → y ∈ ys → y ∈ keep_if b x ys
in-keep_if true x m = Memᴰ.tail m
in-keep_if false x m = m

module _ {Mat : Type 0} where
  -- f stands at its place of the list
  pub record Stood (k : List (Candidate Mat)) (f : Placed Mat) : Type 0 where
    pub there : f.place < length k
    pub same : node_at (map (λ c. c.node) k) f.place ≡ f.kept.node
    pub member : f.kept ∈ k

  pub in-of_size : {c : Candidate Mat} (s p : ℕ) {k : List (Candidate Mat)} → c ∈ k → c.node.size ≡ s
      → (f : Placed Mat) × (f ∈ of_size s p k) × (f.kept ≡ c)
  unfolding of_size
  in-of_size {c} s p (Memᴰ.head {x} {xs} e) h =
      (record { place = p; kept = x }, go (eqb x.node.size s) (eq-eqb x.node.size s (ap (λ (d : Candidate Mat). d.node.size) (sym e) ∙ h)), sym e)
    where
      go : (b : Bool) → b ≡ true → (record { place = p; kept = x }) ∈ keep_if b (record { place = p; kept = x }) (of_size s (suc p) xs)
      go true w = Memᴰ.head refl
      go false w = let z : ◌≡◌ {A = ℕ} 0 1 = cc in absurd (omega arith)
  in-of_size {c} s p (Memᴰ.tail {x} {xs} m) h =
      let w = in-of_size {c = c} s (suc p) m h in
      (w.0, in-keep_if (eqb x.node.size s) (record { place = p; kept = x }) w.1, w.2)

  abbrev Sits : ℕ → ℕ → List (Candidate Mat) → Placed Mat → Type 0
  Sits s p k f =
      (q : ℕ) × (f.place ≡ p + q) × (q < length k) × (node_at (map (λ c. c.node) k) q ≡ f.kept.node) × (f.kept ∈ k) × (f.kept.node.size ≡ s)

  sits : (s p : ℕ) {f : Placed Mat} (k : List (Candidate Mat)) → f ∈ of_size s p k → Sits s p k f
  unfolding of_size
  sits s p [] m = absurd (Memᴰ.not-nil m)
  sits s p {f} (x ∷ xs) m = go (eqb x.node.size s) refl m (λ h. sits s (suc p) xs h)
    where
      later : Sits s (suc p) xs f → Sits s p (x ∷ xs) f
      later w = (suc w.0, omega arith, omega arith, w.3, Memᴰ.tail w.4, w.5)

      go : (b : Bool) → eqb x.node.size s ≡ b → f ∈ keep_if b (record { place = p; kept = x }) (of_size s (suc p) xs)
          → (f ∈ of_size s (suc p) xs → Sits s (suc p) xs f) → Sits s p (x ∷ xs) f
      go true w h r =
          ⊎_elim
          (λ e. (
            0,
            ap (λ (g : Placed Mat). g.place) e ∙ (let z : p ≡ p + 0 = omega arith in z),
            omega arith,
            ap (λ (g : Placed Mat). g.kept.node) (sym e),
            Memᴰ.head (ap (λ (g : Placed Mat). g.kept) e),
            ap (λ (g : Placed Mat). g.kept.node.size) e ∙ eqb-true x.node.size s w,
          ))
          (λ h'. later (r h')) (Memᴰ.cases_cons h)
      go false w h r = later (r h)

  pub from-of_size : (s : ℕ) {f : Placed Mat} (k : List (Candidate Mat)) → f ∈ of_size s 0 k → Stood k f × (f.kept.node.size ≡ s)
  from-of_size s {f} k m =
      let w = sits s 0 k m in
      let e : f.place ≡ w.0 = omega arith in
      (record { there = omega arith; same = ap (node_at (map (λ c. c.node) k)) e ∙ w.3; member = w.4 }, w.5)
