-- The candidates of a size: each is a formula over what was offered and of that size, and each formula of that size has its matrix among
-- them or among those kept. Where the kept formulas that stand for the children are smaller than the children, completeness below serves.
-- Assumes nothing.
use mathlib.Core.Path.{◌≡◌, refl, sym, ap, ap₂, ◌∙◌, subst}
use mathlib.Core.Logic.{◌⊎◌, inl, inr, ⊎_elim}
use mathlib.Core.Bool.{Bool, true, false}
use mathlib.Core.List.Memᴰ
use mathlib.Core.List.{List, map}
use Prim.Native.Nat.{ℕ, zero, suc, ◌+◌, ◌-◌, ◌≤◌, ◌<◌}
use native.Mathlib.Omega.{arith}
use native.Mathlib.Nat.{eq-or-lt_of_le}
use native.Mathlib.Decide.{dec_le}
use lib.ListN.{length, length-map}
use Rattle.formula.specs.Formula.{Tree, leaf, unary, binary, size}
use Rattle.formula.proofs.Trees.{size-pos}
use Rattle.formula.specs.Nodes.{Node, node_at, Spells}
use Rattle.walk.specs.Walk.{Offer, Candidate, Placed, of_size, left_sizes, seed, unary_on, binary_on, orders, unary_candidates, pairs, layer, matrix}
use Rattle.rules.specs.Lists.{each, ◌∈◌}
use Rattle.walk.proofs.Members.{in-each, from_each, left-sizes, left_below, in-of_size, from-of_size, Stood}
use Rattle.walk.proofs.Trees.{From, Lawful, Is, is-size, Sound}

le-or-le : (m n : ℕ) → (m ≤ n) ⊎ (n ≤ m)
le-or-le m n = elim (dec_le m n) [ yes h ↦ inl h | no h ↦ inr (omega arith) ]

module _ {L U B Mat : Type 0} (O : Offer L U B Mat) where
  -- ---- the two orders of a pair

  orders-first : (b : Bool) (op : B) (l q : Placed Mat) → binary_on O op l q ∈ orders O b op l q
  unfolding orders
  orders-first true op l q = Memᴰ.head refl
  orders-first false op l q = Memᴰ.head refl

  orders-second : (b : Bool) (op : B) (l q : Placed Mat) → (b ≡ true) ⊎ (binary_on O op q l ∈ orders O b op l q)
  unfolding orders
  orders-second true op l q = inl refl
  orders-second false op l q = inr (Memᴰ.tail (Memᴰ.head refl))

  from-orders : (b : Bool) (op : B) (l q : Placed Mat) {c : Candidate Mat} → c ∈ orders O b op l q → (c ≡ binary_on O op l q) ⊎ (c ≡ binary_on O op q l)
  unfolding orders
  from-orders true op l q m = ⊎_elim (λ e. inl e) (λ h. absurd (Memᴰ.not-nil h)) (Memᴰ.cases_cons m)
  from-orders false op l q m =
      ⊎_elim (λ e. inl e) (λ h. ⊎_elim (λ e. inr e) (λ h'. absurd (Memᴰ.not-nil h')) (Memᴰ.cases_cons h)) (Memᴰ.cases_cons m)

  -- ---- each candidate is a formula over what was offered, and of the layer's size

  abbrev pub Fits : ℕ → List (Candidate Mat) → Candidate Mat → Type 0
  Fits s k c = (Sound O k → (t : Tree L U B) × Is O k c t) × (c.node.size ≡ s)

  is-seed : (k : List (Candidate Mat)) (c : L) → c ∈ O.leaves → Is O k (seed O c) (leaf c)
  is-seed k c m = record { spelled = (refl, refl, refl, refl); from = m; rows = refl }

  -- a kept operand's formula, at its place
  operand : (k : List (Candidate Mat)) (f : Placed Mat) (t : Tree L U B) → Stood k f → Is O k f.kept t
      → (f.place < length (map (λ d. d.node) k)) × Spells O.codes (map (λ d. d.node) k) (node_at (map (λ d. d.node) k) f.place) t
  operand k f t p i = (
    rw length-map p.there,
    subst (λ (n : Node). Spells O.codes (map (λ d. d.node) k) n t) (sym p.same) i.spelled,
  )

  is-unary : (k : List (Candidate Mat)) (op : U) (f : Placed Mat) (t : Tree L U B) → op ∈ O.unaries → Stood k f → Is O k f.kept t
      → Is O k (unary_on O op f) (unary op t)
  is-unary k op f t o p i =
      let z = operand k f t p i in
      record {
        spelled = (refl, refl, omega (arith, is-size O i), z.0, z.1);
        from = (o, i.from);
        rows = ap (O.unary_matrix op) i.rows;
      }

  is-binary : (k : List (Candidate Mat)) (op : B) (f g : Placed Mat) (t u : Tree L U B) → op ∈ O.binaries
      → Stood k f → Is O k f.kept t → Stood k g → Is O k g.kept u → Is O k (binary_on O op f g) (binary op t u)
  is-binary k op f g t u o p i q j =
      let y = operand k f t p i in
      let z = operand k g u q j in
      record {
        spelled = (refl, omega (arith, is-size O i, is-size O j), y.0, y.1, z.0, z.1);
        from = (o, i.from, j.from);
        rows = ap₂ (O.binary_matrix op) i.rows j.rows;
      }

  fits-unary : (m : ℕ) (k : List (Candidate Mat)) (c : Candidate Mat) → c ∈ unary_candidates O m k → Fits (suc m) k c
  unfolding unary_candidates
  fits-unary m k c h =
      let w = from_each (λ f. map (λ op. unary_on O op f) O.unaries) _ h in
      let v = Memᴰ.of_map (λ op. unary_on O op w.0) O.unaries w.2 in
      let z = from-of_size m k w.1 in
      subst (Fits (suc m) k) v.2 (
        λ o. (let y = o w.0.kept z.0.member in (unary v.0 y.0, is-unary k v.0 w.0 y.0 v.1 z.0 y.1)),
        omega (arith, z.1),
      )

  fits-pair : (m : ℕ) (k : List (Candidate Mat)) (op : B) (f g : Placed Mat) → op ∈ O.binaries → Stood k f → Stood k g
      → f.kept.node.size + g.kept.node.size ≡ m → (c : Candidate Mat) → c ≡ binary_on O op f g → Fits (suc m) k c
  fits-pair m k op f g o p q h c e =
      subst (Fits (suc m) k) (sym e) (
        λ s. (let a = s f.kept p.member in
            let b = s g.kept q.member in
            (binary op a.0 b.0, is-binary k op f g a.0 b.0 o p a.1 q b.1)),
        omega arith,
      )

  fits-pairs : (m i : ℕ) (k : List (Candidate Mat)) → i ≤ m → (c : Candidate Mat) → c ∈ pairs O i (m - i) k → Fits (suc m) k c
  unfolding pairs
  fits-pairs m i k le c h =
      let (l, hl, h₁) = from_each (λ l. each (of_size (m - i) 0 k) λ q. each O.binaries λ op. orders O (O.commutes op) op l q) (of_size i 0 k) h in
      let (q, hq, h₂) = from_each (λ q. each O.binaries λ op. orders O (O.commutes op) op l q) (of_size (m - i) 0 k) h₁ in
      let (op, ho, h₃) = from_each (λ op. orders O (O.commutes op) op l q) O.binaries h₂ in
      let (pl, sl) = from-of_size i k hl in
      let (pq, sq) = from-of_size (m - i) k hq in
      ⊎_elim {A = c ≡ binary_on O op l q} {B = c ≡ binary_on O op q l}
      (fits-pair m k op l q ho pl pq (omega arith) c) (fits-pair m k op q l ho pq pl (omega arith) c)
      (from-orders (O.commutes op) op l q h₃)

  pub layer_fits : (s : ℕ) (k : List (Candidate Mat)) (c : Candidate Mat) → c ∈ layer O s k → Fits s k c
  unfolding layer
  layer_fits zero k c h = absurd (Memᴰ.not-nil h)
  layer_fits (suc zero) k c h =
      let v = Memᴰ.of_map (seed O) O.leaves h in
      subst (Fits 1 k) v.2 (λ o. (leaf v.0, is-seed k v.0 v.1), refl)
  layer_fits (suc (suc m)) k c h =
      ⊎_elim
      (λ g. fits-unary (suc m) k c g)
      (λ g. let w = from_each (λ i. pairs O i (suc m - i) k) (left_sizes (suc (suc m))) g in
      fits-pairs (suc m) w.0 k (left_below m w.0 w.1) c w.2)
      (Memᴰ.append_cases (unary_candidates O (suc m) k) h)

  -- ---- each formula of the layer's size has its matrix among the candidates, or among those kept

  -- k holds a formula no larger than t, with t's matrix
  abbrev pub Stands : List (Candidate Mat) → Tree L U B → Type 0
  Stands k t = (c : Candidate Mat) × (c ∈ k) × (c.node.size ≤ size t) × (c.matrix ≡ matrix O t)

  -- after the sizes up to b: each formula of a size up to b has one that stands for it
  abbrev pub Complete : ℕ → List (Candidate Mat) → Type 0
  Complete b k = (t : Tree L U B) → From O t → size t ≤ b → Stands k t

  abbrev pub Tried : List (Candidate Mat) → Tree L U B → Type 0
  Tried cs t = (c : Candidate Mat) × (c ∈ cs) × (c.matrix ≡ matrix O t)

  in-unary : (m : ℕ) (k : List (Candidate Mat)) (op : U) (c : Candidate Mat) → c ∈ k → c.node.size ≡ m → op ∈ O.unaries
      → (d : Candidate Mat) × (d ∈ unary_candidates O m k) × (d.matrix ≡ O.unary_matrix op c.matrix)
  unfolding unary_candidates
  in-unary m k op c h e o =
      let (f, hf, ef) = in-of_size m 0 h e in (
        unary_on O op f,
        in-each (λ f. map (λ op. unary_on O op f) O.unaries) hf (Memᴰ.map (λ op. unary_on O op f) o),
        ap (λ (a : Candidate Mat). O.unary_matrix op a.matrix) ef,
      )

  -- the pairs of two kept formulas, the first no larger than the second, stand in the layer
  in-layer : (m : ℕ) (k : List (Candidate Mat)) (op : B) (a b : Candidate Mat) → a ∈ k → b ∈ k → 1 ≤ a.node.size → a.node.size ≤ b.node.size
      → a.node.size + b.node.size ≡ suc m → op ∈ O.binaries
      → (l : Placed Mat) × (q : Placed Mat) × (l.kept ≡ a) × (q.kept ≡ b)
      × ((x : Candidate Mat) → x ∈ orders O (O.commutes op) op l q → x ∈ layer O (suc (suc m)) k)
  unfolding layer pairs
  in-layer m k op a b ha hb pos le e o =
      let (l, hl, el) = in-of_size a.node.size 0 ha refl in
      let (q, hq, eq) = in-of_size (suc m - a.node.size) 0 hb (let z : b.node.size ≡ suc m - a.node.size = omega arith in z) in (
        l,
        q,
        el,
        eq,
        λ x h.
            Memᴰ.append_right (unary_candidates O (suc m) k)
            (in-each (λ i. pairs O i (suc m - i) k) ((left-sizes (suc (suc m)) a.node.size b.node.size (omega arith)).1 (pos, le))
            (in-each (λ l. each (of_size (suc m - a.node.size) 0 k) λ q. each O.binaries λ op. orders O (O.commutes op) op l q) hl
            (in-each (λ q. each O.binaries λ op. orders O (O.commutes op) op l q) hq
            (in-each (λ op. orders O (O.commutes op) op l q) o h)))),
      )

  module _ (Z : Lawful O) where
    has-unary : (m : ℕ) (k : List (Candidate Mat)) → Sound O k → Complete (suc m) k → (op : U) (t : Tree L U B) → From O (unary op t)
        → size (unary op t) ≡ suc (suc m) → Tried (layer O (suc (suc m)) k) (unary op t) ⊎ Stands k (unary op t)
    unfolding layer
    has-unary m k o all op t h e =
        let (c, hc, lc, ec) = all t h.1 (omega arith) in
        let (u, iu) = o c hc in
        ⊎_elim
        (λ w. let (d, hd, ed) = in-unary (suc m) k op c hc w h.0 in inl (d, Memᴰ.append_left _ hd, ed ∙ ap (O.unary_matrix op) ec))
        (λ w. let (d, hd, ld, ed) = all (unary op u) (h.0, iu.from) (omega (arith, is-size O iu)) in
        inr (d, hd, omega (arith, is-size O iu), ed ∙ ap (O.unary_matrix op) (sym iu.rows ∙ ec)))
        (eq-or-lt_of_le {n = c.node.size} {m = suc m} (omega arith))

    -- two kept formulas whose sizes add up are a pair of the layer, in one order or the other
    pair-tried : (m : ℕ) (k : List (Candidate Mat)) (op : B) (a b : Candidate Mat) → a ∈ k → b ∈ k → 1 ≤ a.node.size → 1 ≤ b.node.size
        → op ∈ O.binaries → a.node.size + b.node.size ≡ suc m
        → (d : Candidate Mat) × (d ∈ layer O (suc (suc m)) k) × (d.matrix ≡ O.binary_matrix op a.matrix b.matrix)
    pair-tried m k op a b ha hb pa pb ho e =
        ⊎_elim
        (λ le. let (l, q, el, eq, w) = in-layer m k op a b ha hb pa le e ho in (
          binary_on O op l q,
          w (binary_on O op l q) (orders-first (O.commutes op) op l q),
          ap₂ (λ (x y : Candidate Mat). O.binary_matrix op x.matrix y.matrix) el eq,
        ))
        (λ ge. let (l, q, el, eq, w) = in-layer m k op b a hb ha pb ge (omega arith) ho in
        ⊎_elim {A = O.commutes op ≡ true} {B = binary_on O op q l ∈ orders O (O.commutes op) op l q}
        (λ y. (
          binary_on O op l q,
          w (binary_on O op l q) (orders-first (O.commutes op) op l q),
          ap₂ (λ (x y : Candidate Mat). O.binary_matrix op x.matrix y.matrix) el eq ∙ Z.commute op y b.matrix a.matrix,
        ))
        (λ y. (
          binary_on O op q l,
          w (binary_on O op q l) y,
          ap₂ (λ (x y : Candidate Mat). O.binary_matrix op x.matrix y.matrix) eq el,
        ))
        (orders-second (O.commutes op) op l q))
        (le-or-le a.node.size b.node.size)

    has-binary : (m : ℕ) (k : List (Candidate Mat)) → Sound O k → Complete (suc m) k → (op : B) (l r : Tree L U B) → op ∈ O.binaries
        → size (binary op l r) ≡ suc (suc m) → Stands k l → Stands k r → Tried (layer O (suc (suc m)) k) (binary op l r) ⊎ Stands k (binary op l r)
    has-binary m k o all op l r ho e (a, ha, la, ea) (b, hb, lb, eb) =
        let (t, it) = o a ha in
        let (u, iu) = o b hb in
        let pt = size-pos t in
        let pu = size-pos u in
        let st = is-size O it in
        let su = is-size O iu in
        ⊎_elim
        (λ w. let (d, hd, ed) = pair-tried m k op a b ha hb (omega arith) (omega arith) ho w in
        inl (d, hd, ed ∙ ap₂ (O.binary_matrix op) ea eb))
        (λ w. let (d, hd, ld, ed) = all (binary op t u) (ho, it.from, iu.from) (omega arith) in
        inr (d, hd, omega arith, ed ∙ ap₂ (O.binary_matrix op) (sym it.rows ∙ ea) (sym iu.rows ∙ eb)))
        (eq-or-lt_of_le {n = a.node.size + b.node.size} {m = suc m} (omega arith))

    pub layer-has : (b : ℕ) (k : List (Candidate Mat)) → Sound O k → Complete b k → (t : Tree L U B) → From O t → size t ≡ suc b
        → Tried (layer O (suc b) k) t ⊎ Stands k t
    unfolding layer
    layer-has zero k o all (leaf c) h e = inl (seed O c, Memᴰ.map (seed O) h, refl)
    layer-has zero k o all (unary op t) h e = let p = size-pos t in absurd (omega arith)
    layer-has zero k o all (binary op l r) h e = let p = size-pos l in let q = size-pos r in absurd (omega arith)
    layer-has (suc m) k o all (leaf c) h e = absurd (omega arith)
    layer-has (suc m) k o all (unary op t) h e = has-unary m k o all op t h e
    layer-has (suc m) k o all (binary op l r) h e =
        let p = size-pos l in
        let q = size-pos r in
        has-binary m k o all op l r h.0 e (all l h.1 (omega arith)) (all r h.2 (omega arith))
