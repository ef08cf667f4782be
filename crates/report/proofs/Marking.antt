-- Marks on the places under the root. From the last place down, a mark is there exactly for the children of the root and of the places under it that have
-- been passed; a child stands below its node, so a place's own mark is final when it is looked at.
-- Assumes nothing.
use mathlib.Core.Path.{◌≡◌, refl, sym, ◌∙◌, subst}
use mathlib.Core.Logic.{◌↔◌, ◌⊎◌, inl, inr, ⊎_elim}
use mathlib.Core.List.{List}
use Prim.Native.Nat.{ℕ, zero, suc, ◌≤◌, ◌<◌}
use native.Mathlib.Nat.{lt_of_not-le, eq-or-lt_of_le}
use native.Mathlib.Decide.{ℕ_discrete}
use native.Mathlib.Omega.{arith}
use lib.ListN.{length, get_or, set, length-set, replicate, get_or-replicate, length-replicate}
use lib.Seq.{get_or-set_same, get_or-set_other}
use Rattle.formula.specs.Nodes.{Node, node_at}
use Rattle.formula.specs.Rule.{IsUnary, IsBinary}
use Rattle.formula.specs.Rule.Fault.{unary_place, left_place, right_place}
use Rattle.formula.specs.Rule.Broken.{too_many, listed, rooted}
use Rattle.formula.proofs.Faults.{not-both}
use Rattle.rules.specs.Limits.{most_room}
use Rattle.report.specs.Under.{Child, Down}
use Rattle.report.specs.Inner.{PlaceMarked, MarksChildren, MarksBelow, WholeList, MarksUnder}

-- ---- what has been passed

-- the children of the top, and of the places from q on that are reached from it
abbrev Reached : List Node → (ℕ → Type 0) → ℕ → ℕ → Type 0
Reached k top q p = top p ⊎ ((a : ℕ) × (q ≤ a) × (a < length k) × ((d : ℕ) × Down k top d a) × Child (node_at k a) p)

abbrev pub Passed : List Node → (ℕ → Type 0) → ℕ → List ℕ → Type 0
Passed k top q marks = (p : ℕ) → p < length k → PlaceMarked marks p ↔ Reached k top q p

-- the top is what was marked at the start
abbrev pub Top : List Node → List ℕ → ℕ → Type 0
Top k start p = (p < length k) × PlaceMarked start p

-- ---- one mark more

marked-set : (l : List ℕ) (p q : ℕ) → q < length l → PlaceMarked (set l p 1) q ↔ (PlaceMarked l q ⊎ (p ≡ q))
marked-set l p q h =
    elim (ℕ_discrete q p) [
      | yes e ↦ (λ a. inr (sym e), λ a. subst (λ (x : ℕ). get_or (set l p 1) x 0 ≡ 1) (sym e) (get_or-set_same l p 1 0 (omega arith)))
      | no n ↦
          let same = get_or-set_other l p q 1 0 n in
          (λ a. inl (sym same ∙ a), λ a. ⊎_elim (λ b. same ∙ b) (λ e. absurd (n (sym e))) a)
    ]

module _ (l : List ℕ) (n : Node) where
  pub marks-left : {new : List ℕ} → IsUnary n.code → new ≡ set l n.left 1 → MarksChildren l n new
  marks-left u e =
      subst (MarksChildren l n) (sym e)
      (record {
        same = length-set l n.left 1;
        marked = λ p h. let s = marked-set l n.left p h in (
          λ a. ⊎_elim (λ b. inl b) (λ b. inr (inl (u, b))) (s.0 a),
          λ a. s.1 (⊎_elim (λ b. inl b) (λ b. inr (⊎_elim (λ c. c.1) (λ c. absurd (not-both n.code u c.0)) b)) a),
        );
      })

  pub marks-both : {mid new : List ℕ} → IsBinary n.code → mid ≡ set l n.left 1 → new ≡ set mid n.right 1 → MarksChildren l n new
  marks-both {mid} {new} u d e =
      let two = set (set l n.left 1) n.right 1 in
      let f : new ≡ two = subst (λ (x : List ℕ). new ≡ set x n.right 1) d e in
      subst (MarksChildren l n) (sym f)
      (record {
        same = length-set (set l n.left 1) n.right 1 ∙ length-set l n.left 1;
        marked = λ p h. (
            let s = marked-set l n.left p h in
            let t = marked-set (set l n.left 1) n.right p (omega (arith, length-set l n.left 1)) in (
              λ a. ⊎_elim (λ b. ⊎_elim (λ c. inl c) (λ c. inr (inr (u, inl c))) (s.0 b)) (λ b. inr (inr (u, inr b))) (t.0 a),
              λ a. t.1 (⊎_elim
                  (λ b. inl (s.1 (inl b)))
                  (λ b. ⊎_elim (λ c. absurd (not-both n.code c.0 u)) (λ c. ⊎_elim (λ x. inl (s.1 (inr x))) (λ x. inr x) c.1) b)
                  a),
            )
            );
      })

  pub marks-none : (IsUnary n.code → ⊥) → (IsBinary n.code → ⊥) → MarksChildren l n l
  marks-none u v =
      record {
        same = refl;
        marked = λ p h. (λ a. inl a, λ a. ⊎_elim (λ b. b) (λ b. ⊎_elim (λ c. absurd (u c.0)) (λ c. absurd (v c.0)) b) a);
      }

  pub below-unmarked : (q : ℕ) → (PlaceMarked l q → ⊥) → MarksBelow l q n l
  below-unmarked q u = record { same = refl; marked = λ p h. (λ a. inl a, λ a. ⊎_elim (λ b. b) (λ b. absurd (u b.0)) a) }

  pub below-marked : (q : ℕ) {new : List ℕ} → PlaceMarked l q → MarksChildren l n new → MarksBelow l q n new
  below-marked q a c =
      record {
        same = c.same;
        marked = λ p h. (
          λ b. ⊎_elim (λ x. inl x) (λ x. inr (a, x)) ((c.marked p h).0 b),
          λ b. (c.marked p h).1 (⊎_elim (λ x. inl x) (λ x. inr x.1) b),
        );
      }

-- ---- a child stands below its node

module _ (k : List Node) (root : Node) (w : WholeList k root) where
  child-below : (a p : ℕ) → a < length k → Child (node_at k a) p → p < a
  child-below a p h c =
      ⊎_elim
      (λ u. let e = u.1 in lt_of_not-le λ g. w.1 (listed a h (unary_place u.0 (omega arith))))
      (λ u. ⊎_elim
      (λ e. lt_of_not-le λ g. w.1 (listed a h (left_place u.0 (omega arith))))
      (λ e. lt_of_not-le λ g. w.1 (listed a h (right_place u.0 (omega arith))))
      u.1)
      c

  root_below : (p : ℕ) → Child root p → p < length k
  root_below p c =
      ⊎_elim
      (λ u. let e = u.1 in lt_of_not-le λ g. w.1 (rooted (unary_place u.0 (omega arith))))
      (λ u. ⊎_elim
      (λ e. lt_of_not-le λ g. w.1 (rooted (left_place u.0 (omega arith))))
      (λ e. lt_of_not-le λ g. w.1 (rooted (right_place u.0 (omega arith))))
      u.1)
      c

  pub few-places : length k ≤ most_room
  few-places = let x : most_room < length k → ⊥ = λ h. w.1 (too_many h) in omega arith

-- ---- from the last place down to q, over a list whose nodes stand above their children

module _ (k : List Node) (above : (a p : ℕ) → a < length k → Child (node_at k a) p → p < a) (top : ℕ → Type 0) (inside : (p : ℕ) → top p → p < length k) where
  down-below : (d p : ℕ) → Down k top d p → p < length k
  down-below zero p c = inside p c
  down-below (suc d) p (a, r, c) = let h = down-below d a r in let g = above a p h c in omega arith

  reached-down : (q p : ℕ) → Reached k top q p → (d : ℕ) × Down k top d p
  reached-down q p (inl c) = (zero, c)
  reached-down q p (inr (a, l, h, (d, r), c)) = (suc d, (a, r, c))

  -- a parent stands above: so from the next place on is enough
  down-reached : (p d : ℕ) → Down k top d p → Reached k top (suc p) p
  down-reached p zero c = inl c
  down-reached p (suc d) (a, r, c) = let h = down-below d a r in let g = above a p h c in inr (a, omega arith, h, (d, r), c)

  none_passed : (marks : List ℕ) → ((p : ℕ) → p < length k → PlaceMarked marks p ↔ top p) → Passed k top (length k) marks
  none_passed marks same p l = (λ a. inl ((same p l).0 a), λ a. ⊎_elim (λ b. (same p l).1 b) (λ b. absurd (omega (arith, b.1, b.2))) a)

  one-passed : {old new : List ℕ} (q : ℕ) → q < length k → length k ≤ length old → Passed k top (suc q) old → MarksBelow old q (node_at k q) new → Passed k top q new
  one-passed {old} {new} q h room before step p l =
      let s = step.marked p (omega arith) in (
        λ a. ⊎_elim
            (λ b. ⊎_elim (λ c. inl c) (λ c. inr (c.0, (let x = c.1 in omega arith), c.2, c.3, c.4)) ((before p l).0 b))
            (λ b. inr (q, omega arith, h, reached-down (suc q) q ((before q h).0 b.0), b.1))
            (s.0 a),
        λ a. s.1 (⊎_elim (λ c. inl ((before p l).1 (inl c))) (λ c. further c) a),
      )
    where
      further : (a : ℕ) × (q ≤ a) × (a < length k) × ((d : ℕ) × Down k top d a) × Child (node_at k a) p → PlaceMarked old p ⊎ (PlaceMarked old q × Child (node_at k q) p)
      further (a, g, i, u, c) =
          ⊎_elim
          (λ e. inr (
            (before q h).1 (subst (λ (x : ℕ). Reached k top (suc x) x) (sym e) (down-reached a u.0 u.1)),
            subst (λ (x : ℕ). Child (node_at k x) p) (sym e) c,
          ))
          (λ e. inl ((before p l).1 (inr (a, e, i, u, c))))
          (eq-or-lt_of_le {n = q} {m = a} g)

  all-passed : (marks : List ℕ) → Passed k top 0 marks → (p : ℕ) → p < length k → PlaceMarked marks p ↔ ((d : ℕ) × Down k top d p)
  all-passed marks b p l = (
    λ a. reached-down 0 p ((b p l).0 a),
    λ u. (b p l).1 (⊎_elim (λ c. inl c) (λ c. inr (c.0, omega arith, c.2, c.3, c.4)) (down-reached p u.0 u.1)),
  )

down-same : (k : List Node) {top more : ℕ → Type 0} → ((p : ℕ) → top p → more p) → (d p : ℕ) → Down k top d p → Down k more d p
down-same k f zero p c = f p c
down-same k f (suc d) p (a, r, c) = (a, down-same k f d a r, c)

-- ---- the marks at the start are those of the root's children

module _ (k : List Node) (root : Node) (w : WholeList k root) (room : ℕ) (start : List ℕ) (wide : length k ≤ room) (c : MarksChildren (replicate room 0) root start) where
  first_marks : (p : ℕ) → p < length k → PlaceMarked start p ↔ Child root p
  first_marks p l =
      let z : ◌≡◌ {A = ℕ} (get_or (replicate room 0) p 0) 0 = get_or-replicate room p 0 0 (omega arith) in
      let s = c.marked p (omega (arith, length-replicate {A = ℕ} room 0)) in
      (λ a. ⊎_elim (λ b. absurd (omega arith)) (λ b. b) (s.0 a), λ a. s.1 (inr a))

  pub starts : {q : ℕ} → q ≡ length k → Passed k (Top k start) q start
  starts e = subst (λ (q : ℕ). Passed k (Top k start) q start) (sym e) (none_passed k (child-below k root w) (Top k start) (λ p t. t.0) start (λ p l. (λ a. (l, a), λ t. t.1)))

  pub start-room : length start ≡ room
  start-room = c.same ∙ length-replicate {A = ℕ} room 0

  pub goes_on : {old new : List ℕ} (before q : ℕ) → before ≡ suc q → before ≤ length k → length old ≡ room → Passed k (Top k start) before old
      → MarksBelow old q (node_at k q) new → Passed k (Top k start) q new
  goes_on {old} before q f h e b =
      one-passed k (child-below k root w) (Top k start) (λ p t. t.0) q (omega arith) (omega arith) (subst (λ (x : ℕ). Passed k (Top k start) x old) f b)

  pub ends : {marks : List ℕ} {q : ℕ} → q ≡ 0 → length marks ≡ room → Passed k (Top k start) q marks → MarksUnder k root marks
  ends {marks} f e g =
      let b = subst (λ (x : ℕ). Passed k (Top k start) x marks) f g in
      record {
        room = omega arith;
        exactly = λ p l. (
            let s = all-passed k (child-below k root w) (Top k start) (λ q t. t.0) marks b p l in (
              λ a. let u = s.0 a in (u.0, down-same k (λ q t. (first_marks q t.0).0 t.1) u.0 p u.1),
              λ u. s.1 (u.0, down-same k (λ q t. (root_below k root w q t, (first_marks q (root_below k root w q t)).1 t)) u.0 p u.1),
            )
            );
      }
