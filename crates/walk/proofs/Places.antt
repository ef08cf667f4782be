-- The kept formulas of a size stand side by side, so a size's candidates are what loops over ranges of places go through.
-- Crate `search` uses it, whose loops are such.
-- Assumes nothing.
use mathlib.Core.Path.{◌≡◌, refl, sym, ap, ap₂, ◌∙◌, fun_ext}
use mathlib.Core.Logic.{◌≢◌}
use mathlib.Core.List.{List, [], ◌∷◌, ◌++◌, map}
use Prim.Native.Nat.{ℕ, zero, suc, ◌+◌, ◌-◌, ◌≤◌, ◌<◌, suc-le-suc}
use native.Mathlib.Omega.{arith}
use native.Mathlib.Decide.{dec_le}
use lib.ListN.{length, get_or, length-append, get_or-append}
use lib.Seq.{get_or-append_seam}
use lib.Dec.{eqb}
use borrow.Author.Tests.{eq-eqb, ne_eqb}
use Rattle.walk.specs.Walk.{Offer, Candidate, Placed, of_size, keep_if, orders, unary_on, unary_candidates, pairs}
use Rattle.rules.specs.Lists.{each, count}

-- d stands for a formula beyond the list, which is never looked at
module _ {Mat : Type 0} (d : Candidate Mat) where
  abbrev pub size_at : List (Candidate Mat) → ℕ → ℕ
  size_at k p = (get_or k p d).node.size

  -- the formula at place p
  abbrev pub placed : List (Candidate Mat) → ℕ → Placed Mat
  placed k p = record { place = p; kept = get_or k p d }

  -- the places before a hold formulas smaller than s, and those from a on formulas of size s or more
  pub record Split (k : List (Candidate Mat)) (s a : ℕ) : Type 0 where
    pub inside : a ≤ length k
    pub below : (p : ℕ) → p < a → size_at k p < s
    pub above : (p : ℕ) → a ≤ p → p < length k → s ≤ size_at k p

  -- a formula of size s or more is kept
  pub split-push : (k : List (Candidate Mat)) (s a : ℕ) (c : Candidate Mat) → Split k s a → s ≤ c.node.size → Split (k ++ (c ∷ [])) s a
  split-push k s a c z h = record {
    inside = simp length-append (omega (arith, z.inside));
    below = λ p q. (let w : p < length k = omega (arith, z.inside) in omega (arith, old p w, z.below p q));
    above = λ p q r. elim (dec_le (suc p) (length k)) [
      | yes w ↦ omega (arith, old p w, z.above p q w)
      | no w ↦ (
          let g = length-append k (c ∷ []) in
          let e : p ≡ length k = omega arith in
          omega (arith, ap (size_at (k ++ (c ∷ []))) e, ap (λ (x : Candidate Mat). x.node.size) (get_or-append_seam k c [] d)))
    ];
  }
    where
      old : (p : ℕ) → p < length k → size_at (k ++ (c ∷ [])) p ≡ size_at k p
      old p w = ap (λ (x : Candidate Mat). x.node.size) (get_or-append k (c ∷ []) d p w)

  -- ---- those of size s, by places

  -- as `of_size` counts them: from place p on
  abbrev run : ℕ → List (Candidate Mat) → ℕ → Placed Mat
  run p k q = record { place = p + q; kept = get_or k q d }

  shift : (p : ℕ) (c : Candidate Mat) (k : List (Candidate Mat)) (a m : ℕ) → map (run p (c ∷ k)) (count (suc a) m) ≡ map (run (suc p) k) (count a m)
  unfolding count
  shift p c k a zero = refl
  shift p c k a (suc m) =
      ap₂ (λ (x : Placed Mat) (r : List (Placed Mat)). x ∷ r)
      (ap (λ (n : ℕ). record { place = n; kept = get_or k a d }) (let e : p + suc a ≡ suc p + a = omega arith in e)) (shift p c k (suc a) m)

  keep-in : {A : Type 0} (m n : ℕ) (x : A) (r : List A) → m ≡ n → keep_if (eqb m n) x r ≡ x ∷ r
  keep-in m n x r e = rw (eq-eqb m n e)

  keep_out : {A : Type 0} (m n : ℕ) (x : A) (r : List A) → m ≢ n → keep_if (eqb m n) x r ≡ r
  keep_out m n x r h = rw (ne_eqb m n h)

  -- by how many stand before, and how many follow
  of_size-run : (s p a m : ℕ) (k : List (Candidate Mat)) → a + m ≤ length k
      → ((q : ℕ) → q < a → size_at k q ≢ s)
      → ((q : ℕ) → a ≤ q → q < a + m → size_at k q ≡ s)
      → ((q : ℕ) → a + m ≤ q → q < length k → size_at k q ≢ s)
      → of_size s p k ≡ map (run p k) (count a m)
  unfolding of_size count
  of_size-run s p a zero [] h x y z = refl
  of_size-run s p a (suc m) [] h x y z = absurd (omega arith)
  of_size-run s p zero zero (c ∷ k) h x y z =
      keep_out c.node.size s (record { place = p; kept = c }) (of_size s (suc p) k) (z 0 (omega arith) (omega arith))
      ∙ of_size-run s (suc p) 0 0 k (omega arith) (λ q l. absurd (omega arith)) (λ q l r. absurd (omega arith)) (λ q l r. z (suc q) (omega arith) (suc-le-suc r))
  of_size-run s p zero (suc m) (c ∷ k) h x y z =
      keep-in c.node.size s (record { place = p; kept = c }) (of_size s (suc p) k) (y 0 (omega arith) (omega arith))
      ∙ ap₂ (λ (x : Placed Mat) (r : List (Placed Mat)). x ∷ r)
      (ap (λ (n : ℕ). record { place = n; kept = c }) (let e : p ≡ p + 0 = omega arith in e))
      (of_size-run s (suc p) 0 m k (omega arith) (λ q l. absurd (omega arith)) (λ q l r. y (suc q) (omega arith) (omega arith))
      (λ q l r. z (suc q) (omega arith) (suc-le-suc r))
      ∙ sym (shift p c k 0 m))
  of_size-run s p (suc a) m (c ∷ k) h x y z =
      keep_out c.node.size s (record { place = p; kept = c }) (of_size s (suc p) k) (x 0 (omega arith))
      ∙ of_size-run s (suc p) a m k (omega arith) (λ q l. x (suc q) (suc-le-suc l)) (λ q l r. y (suc q) (suc-le-suc l) (omega arith))
      (λ q l r. z (suc q) (omega arith) (suc-le-suc r))
      ∙ sym (shift p c k a m)

  split-order : (k : List (Candidate Mat)) (s a b : ℕ) → Split k s a → Split k (suc s) b → a ≤ b
  split-order k s a b y z = elim (dec_le a b) [
    | yes w ↦ w
    | no w ↦ (
        let lt : b < a = omega arith in
        let u = y.below b lt in
        let v = z.above b (omega arith) (omega (arith, y.inside)) in
        absurd (omega arith))
  ]

  pub of_size-places : (k : List (Candidate Mat)) (s a b : ℕ) → Split k s a → Split k (suc s) b → of_size s 0 k ≡ map (placed k) (count a (b - a))
  of_size-places k s a b y z =
      let o = split-order k s a b y z in
      of_size-run s 0 a (b - a) k (omega (arith, z.inside))
      (λ p q e. (let w = y.below p q in omega arith))
      (λ p q h. (let w = y.above p q (omega (arith, z.inside)) in let v = z.below p (omega arith) in omega arith))
      (λ p q h e. (let w = z.above p (omega arith) h in omega arith))
      ∙ ap (λ (f : ℕ → Placed Mat). map f (count a (b - a)))
      (fun_ext λ q. ap (λ (n : ℕ). record { place = n; kept = get_or k q d }) (let e : 0 + q ≡ q = omega arith in e))

each_map : {A B D : Type 0} (f : A → B) (g : B → List D) (xs : List A) → each (map f xs) g ≡ each xs (λ x. g (f x))
unfolding each
each_map f g [] = refl
each_map f g (x ∷ xs) = ap (λ r. g (f x) ++ r) (each_map f g xs)

module _ {L U B Mat : Type 0} (O : Offer L U B Mat) (d : Candidate Mat) where
  -- the unary candidates over the formulas of size s, which stand from place a to below b
  pub unary-places : (k : List (Candidate Mat)) (s a b : ℕ) → Split d k s a → Split d k (suc s) b
      → unary_candidates O s k ≡ each (count a (b - a)) λ p. map (λ op. unary_on O op (placed d k p)) O.unaries
  unfolding unary_candidates
  unary-places k s a b y z =
      ap (λ (x : List (Placed Mat)). each x λ f. map (λ op. unary_on O op f) O.unaries) (of_size-places d k s a b y z)
      ∙ each_map (placed d k) (λ f. map (λ op. unary_on O op f) O.unaries) (count a (b - a))

  -- the pairs of a split, from the places from a to below b and those from p to below q
  pub pair-places : (k : List (Candidate Mat)) (i j a b p q : ℕ) → Split d k i a → Split d k (suc i) b → Split d k j p → Split d k (suc j) q
      → pairs O i j k
      ≡ each (count a (b - a)) λ l. each (count p (q - p)) λ r. each O.binaries λ op. orders O (O.commutes op) op (placed d k l) (placed d k r)
  unfolding pairs
  pair-places k i j a b p q sa sb sp sq =
      ap₂ (λ (x y : List (Placed Mat)). each x λ l. each y λ r. each O.binaries λ op. orders O (O.commutes op) op l r)
      (of_size-places d k i a b sa sb) (of_size-places d k j p q sp sq)
      ∙ each_map (placed d k) (λ l. each (map (placed d k) (count p (q - p))) λ r. each O.binaries λ op. orders O (O.commutes op) op l r) (count a (b - a))
      ∙ ap (each (count a (b - a)))
      (fun_ext λ l. each_map (placed d k) (λ r. each O.binaries λ op. orders O (O.commutes op) op (placed d k l) r) (count p (q - p)))
