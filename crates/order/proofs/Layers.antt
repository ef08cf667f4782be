-- The candidates of a size by places are the walk's, in its order: over a kept list whose sizes begin where `starts` says, whatever makes a formula
-- of a candidate's code and fields, so long as it makes what the walk offers.
-- Assumes nothing.
use mathlib.Core.Path.{◌≡◌, refl, sym, ap, ap₂, ◌∙◌, subst}
use mathlib.Core.Bool.{Bool, true, false, cond}
use mathlib.Core.List.{List, [], ◌∷◌, ◌++◌, map}
use Prim.Native.Nat.{ℕ, zero, suc, ◌+◌, ◌-◌, ◌/◌, ◌≤◌, ◌<◌}
use native.Mathlib.Omega.{arith}
use native.Mathlib.Numerals.{add-one}
use native.Mathlib.Decide.{dec_le}
use lib.ListN.{length, get_or, take}
use borrow.Author.Tests.{lt-ltb, le-ltb}
use Rattle.rules.specs.Limits.{most_size}
use Rattle.walk.specs.Walk.{Offer, Candidate, left_sizes, seed, unary_on, binary_on, layer}
use Rattle.rules.specs.Lists.{each}
use Rattle.walk.specs.Walk as walk
use Rattle.walk.proofs.Places.{size_at, placed, Split, unary-places, pair-places}
use Rattle.split.specs.Split.{Cand, cand, range, commuting}
use Rattle.order.specs.Size.{Layer, leaf_cands, order_cands, first_place, places_of_size, unary_cands, pair_cands, cands_of_size, candidates}
use Rattle.order.specs.Ahead.{rest, first}
use Rattle.starts.specs.Starts.{below, starts_of}
use Rattle.starts.proofs.Counting.{starts-at}
use Rattle.order.proofs.Rest.{rest-first}
use Rattle.order.proofs.Lists.{map-append, map_each, map-map, each_map, each-range, each_codes, map-codes}

module _ {L U B Mat : Type 0} (O : Offer L U B Mat) (d : Candidate Mat) (k : List (Candidate Mat)) (g : Layer) where
  -- `make` makes of a candidate's code and fields the formula that the walk offers
  pub record Makes (make : Cand → Candidate Mat) : Type 0 where
    pub unary_of : ℕ → U
    pub binary_of : ℕ → B
    pub leaves-are : g.size ≡ 1 → map make (leaf_cands g.propositions g.constants) ≡ map (seed O) O.leaves
    pub unaries-are : O.unaries ≡ map unary_of g.unary
    pub binaries-are : O.binaries ≡ map binary_of g.binary
    pub marks-are : (o : ℕ) → o < length g.binary → O.commutes (binary_of (get_or g.binary o 0)) ≡ commuting (get_or g.binary o 0)
    pub unary-is : (o p : ℕ) → o < length g.unary → 1 + size_at d k p ≡ g.size
        → make (cand (get_or g.unary o 0) p 0) ≡ unary_on O (unary_of (get_or g.unary o 0)) (placed d k p)
    pub binary-is : (o l q : ℕ) → o < length g.binary → 1 + size_at d k l + size_at d k q ≡ g.size
        → make (cand (get_or g.binary o 0) l q) ≡ binary_on O (binary_of (get_or g.binary o 0)) (placed d k l) (placed d k q)

  -- the sizes up to this one begin where `starts` says
  abbrev pub Begins : Type 0
  Begins = (t : ℕ) → 1 ≤ t → t ≤ g.size → Split d k t (first_place g.starts t)

  split-as : {t t' a : ℕ} → t ≡ t' → Split d k t a → Split d k t' a
  split-as {a = a} e w = subst (λ (x : ℕ). Split d k x a) e w

  size_of : (t a b p : ℕ) → Split d k t a → Split d k (t + 1) b → a ≤ p → p < b → size_at d k p ≡ t
  size_of t a b p y z h l =
      let u = y.above p h (omega (arith, z.inside)) in
      let v = z.below p l in
      omega arith

  module _ {make : Cand → Candidate Mat} (w : Makes make) (begins : Begins) where
    unary-list : (p : ℕ) → 1 + size_at d k p ≡ g.size → map make (unary_cands g p) ≡ map (λ op. unary_on O op (placed d k p)) O.unaries
    unary-list p e =
        map-map (λ c. cand c p 0) make g.unary
        ∙ map-codes g.unary _ _ (λ o h. w.unary-is o p h e)
        ∙ sym (ap (map (λ op. unary_on O op (placed d k p))) w.unaries-are ∙ map-map w.unary_of (λ op. unary_on O op (placed d k p)) g.unary)

    one-pair : (o l q : ℕ) → o < length g.binary → 1 + size_at d k l + size_at d k q ≡ g.size
        → map make (order_cands l q (get_or g.binary o 0))
        ≡ walk.orders O (O.commutes (w.binary_of (get_or g.binary o 0))) (w.binary_of (get_or g.binary o 0)) (placed d k l) (placed d k q)
    unfolding order_cands walk.orders
    one-pair o l q h e = rw (w.marks-are o h) (go (commuting (get_or g.binary o 0)))
      where
        go : (b : Bool) → map make (cond b (cand (get_or g.binary o 0) l q ∷ []) (cand (get_or g.binary o 0) l q ∷ (cand (get_or g.binary o 0) q l ∷ [])))
            ≡ walk.orders O b (w.binary_of (get_or g.binary o 0)) (placed d k l) (placed d k q)
        go true = ap (λ (x : Candidate Mat). x ∷ []) (w.binary-is o l q h e)
        go false = ap₂ (λ (x y : Candidate Mat). x ∷ (y ∷ [])) (w.binary-is o l q h e) (w.binary-is o q l h (omega arith))

    pair-list : (l q : ℕ) → 1 + size_at d k l + size_at d k q ≡ g.size
        → map make (each g.binary (order_cands l q)) ≡ each O.binaries λ op. walk.orders O (O.commutes op) op (placed d k l) (placed d k q)
    pair-list l q e =
        map_each make (order_cands l q) g.binary
        ∙ each_codes g.binary _ _ (λ o h. one-pair o l q h e)
        ∙ sym (ap (λ (ops : List B). each ops λ op. walk.orders O (O.commutes op) op (placed d k l) (placed d k q)) w.binaries-are
        ∙ each_map w.binary_of (λ op. walk.orders O (O.commutes op) op (placed d k l) (placed d k q)) g.binary)

    split-list : (i : ℕ) → 1 ≤ i → i < (g.size + 1) / 2 → map make (pair_cands g i) ≡ walk.pairs O i (g.size - 1 - i) k
    unfolding pair_cands range
    split-list i h l =
        let s = g.size in
        let j = s - 1 - i in
        let u = begins i h (omega arith) in
        let u' = begins (i + 1) (omega arith) (omega arith) in
        let v = begins j (omega arith) (omega arith) in
        let v' = begins (j + 1) (omega arith) (omega arith) in
        map_each make _ _
        ∙ each-range (first_place g.starts i) (first_place g.starts (i + 1)) _ _ (λ x a b.
        let m = size_of i _ _ x u u' a b in
        map_each make _ _
        ∙ each-range (first_place g.starts j) (first_place g.starts (j + 1)) _ _ (λ y c e.
        let n = size_of j _ _ y v v' c e in
        pair-list x y (omega arith)))
        ∙ sym (pair-places O d k i j _ _ _ _ u (split-as (add-one i) u') v (split-as (add-one j) v'))

    unary-layer : (m : ℕ) → g.size ≡ suc (suc m) → map make (each (places_of_size g (suc m)) (unary_cands g)) ≡ walk.unary_candidates O (suc m) k
    unfolding range
    unary-layer m e =
        let u = begins (suc m) (omega arith) (omega arith) in
        let v = begins (suc m + 1) (omega arith) (omega arith) in
        map_each make (unary_cands g) (places_of_size g (suc m))
        ∙ each-range (first_place g.starts (suc m)) (first_place g.starts (suc m + 1)) _ _ (λ p a b.
        let n = size_of (suc m) _ _ p u v a b in
        unary-list p (omega arith))
        ∙ sym (unary-places O d k (suc m) _ _ u (split-as (add-one (suc m)) v))

    pairs-layer : (m : ℕ) → g.size ≡ suc (suc m) → map make (each (left_sizes (suc (suc m))) (pair_cands g)) ≡ each (left_sizes (suc (suc m))) λ i. walk.pairs O i (suc m - i) k
    unfolding left_sizes range
    pairs-layer m e =
        map_each make (pair_cands g) (left_sizes (suc (suc m)))
        ∙ each-range 1 ((suc (suc m) + 1) / 2) _ _ (λ i h l.
        split-list i h (rw e l) ∙ ap (λ (j : ℕ). walk.pairs O i j k) (let z : g.size - 1 - i ≡ suc m - i = omega arith in z))

    sized : (s : ℕ) → g.size ≡ s → 1 ≤ s → map make (cands_of_size g s) ≡ layer O s k
    unfolding layer
    sized zero e h = absurd (omega arith)
    sized (suc zero) e h = w.leaves-are e
    sized (suc (suc m)) e h =
        map-append make (each (places_of_size g (suc m)) (unary_cands g)) (each (left_sizes (suc (suc m))) (pair_cands g))
        ∙ ap₂ (λ (x y : List (Candidate Mat)). x ++ y) (unary-layer m e) (pairs-layer m e)

    -- THE CANDIDATES OF A SIZE ARE THE WALK'S, in its order
    pub candidates-layer : 1 ≤ g.size → g.size < length g.starts → map make (candidates g) ≡ layer O g.size k
    unfolding candidates
    candidates-layer h l = rw (lt-ltb g.size (length g.starts) l) (sized g.size refl h)

    -- and so are those left at the first cursor
    pub first-layer : 1 ≤ g.size → g.size < length g.starts → map make (rest g (first g.starts g.size)) ≡ layer O g.size k
    first-layer h l = ap (map make) (rest-first g) ∙ candidates-layer h l

-- ---- where the sizes of a kept list begin

module _ {Mat : Type 0} (d : Candidate Mat) where
  -- none is smaller than one before it
  abbrev pub Rising : List (Candidate Mat) → Type 0
  Rising k = (p q : ℕ) → p ≤ q → q < length k → size_at d k p ≤ size_at d k q

  abbrev pub sizes_of : List (Candidate Mat) → List ℕ
  sizes_of k = map (λ c. c.node.size) k

  none_below : (t : ℕ) (k : List (Candidate Mat)) → ((p : ℕ) → p < length k → t ≤ size_at d k p) → below t (sizes_of k) ≡ 0
  unfolding below
  none_below t [] h = refl
  none_below t (c ∷ k) h = rw (le-ltb c.node.size t (h 0 (omega arith))) (none_below t k (λ p l. h (suc p) (omega arith)))

  pub split_below : (t : ℕ) (k : List (Candidate Mat)) → Rising k → Split d k t (below t (sizes_of k))
  unfolding below
  split_below t [] r = record { inside = omega arith; below = λ p h. absurd (omega arith); above = λ p h l. absurd (omega arith) }
  split_below t (c ∷ k) r = elim (dec_le t c.node.size) [
    | yes h ↦ (
        let e = none_below t k (λ p l. omega (arith, r 0 (suc p) (omega arith) (omega arith))) in
        rw (le-ltb c.node.size t h, e)
        record { inside = omega arith; below = λ p l. absurd (omega arith); above = λ p l m. omega (arith, r 0 p (omega arith) m) })
    | no h ↦ (
        let w = split_below t k (λ p q a b. r (suc p) (suc q) (omega arith) (omega arith)) in
        rw (lt-ltb c.node.size t (omega arith)) (longer w (omega arith)))
  ]
    where
      longer : {a : ℕ} → Split d k t a → c.node.size < t → Split d (c ∷ k) t (suc a)
      longer {a} w h = record { inside = omega (arith, w.inside); below = lows; above = highs }
        where
          lows : (p : ℕ) → p < suc a → size_at d (c ∷ k) p < t
          lows zero l = h
          lows (suc p) l = w.below p (omega arith)

          highs : (p : ℕ) → suc a ≤ p → p < length (c ∷ k) → t ≤ size_at d (c ∷ k) p
          highs zero l m = absurd (omega arith)
          highs (suc p) l m = w.above p (omega arith) (omega arith)

  -- from the column of sizes
  pub column-begins : (k : List (Candidate Mat)) (sizes : List ℕ) (kept : ℕ) → Rising k → take kept sizes ≡ sizes_of k
      → (t : ℕ) → t ≤ most_size + 1 → Split d k t (first_place (starts_of sizes kept) t)
  column-begins k sizes kept r e t h = rw (starts-at sizes kept t h, e) (split_below t k r)
