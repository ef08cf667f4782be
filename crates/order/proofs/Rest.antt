-- What is left from the first cursor of a size is the size of document 01; and what a step says of what is left.
-- Assumes nothing.
use mathlib.Core.Path.{◌≡◌, refl, sym, ap, ap₂, ◌∙◌, fun_ext}
use mathlib.Core.Bool.{Bool, true, false, cond, not}
use mathlib.Core.List.{List, [], ◌∷◌, ◌++◌, map, append-nil}
use Prim.Native.Nat.{ℕ, zero, suc, ◌+◌, ◌-◌, ◌/◌, ◌≤◌, ◌<◌}
use native.Mathlib.Omega.{arith}
use Rattle.std.specs.Prelude.{Option, None, Some}
use Rattle.std.proofs.lemmas.Option.{none-some, same_Some}
use native.Mathlib.Decide.{dec_le}
use lib.ListN.{length, get_or}
use borrow.Author.Tests.{lt-ltb, le-ltb}
use Rattle.walk.specs.Walk.{left_sizes}
use Rattle.rules.specs.Lists.{each, count}
use Rattle.split.specs.declared.Cursor.{Cursor}
use Rattle.split.specs.declared.Candidate.{Candidate}
use Rattle.split.specs.Split.{Cand, cand, range, commuting, cursor, candidate_of, told, both, one_row, column, cand_in}
use Rattle.order.specs.Size.{Layer, layer_of, leaf_cands, order_cands, first_place, unary_cands, pair_cands, cands_of_size, candidates}
use Rattle.order.specs.Ahead.{leaf_cursor, leaves_ahead, leaf_at, codes_in, split_cursors, part_ahead, parts_ahead, ahead, candidate_at, next_cursor, rest, first}
use Rattle.order.specs.Steps.{Rises, Safe, CursorWithin, Steps}
use Rattle.split.proofs.Loops.{range_cons, resume-fresh}
use Rattle.split.proofs.Splits.{part-fresh}
use Rattle.order.proofs.Sizes.{parts_out, ahead-leaves, ahead-parts, ahead-beyond, leaf-candidate, part-candidate}
use Rattle.order.proofs.Lists.{map-append, map_each, map-map, each-range, each-single, positions, map-positions, each-positions}

-- ---- a step

told-is : {c : Candidate} {x : Cand} {next : Cursor} → Some c ≡ told x next → c ≡ candidate_of x next
told-is e = same_Some _ _ e

-- THE STEP TELLS THE FIRST OF WHAT IS LEFT, and the rest is left at the cursor after it
module _ {g : Layer} {at : Cursor} {c : Candidate} where
  pub step_left : Steps g at (Some c) → rest g at ≡ cand c.code c.left.0 c.right.0 ∷ rest g c.next
  unfolding rest
  step_left (Steps.ends e d) = absurd (none-some c (sym d))
  step_left (Steps.takes here e d s w) = let q = told-is d in rw (q, e)

  -- no index is out of range with it
  pub step-safe : Steps g at (Some c) → Rises g → Safe g (cand c.code c.left.0 c.right.0)
  step-safe (Steps.ends e d) r = absurd (none-some c (sym d))
  step-safe (Steps.takes here e d s w) r = rw (told-is d) (s r)

  -- and it is the one at the first of the cursors ahead, the next one being the cursor after it
  pub step-ahead : Steps g at (Some c) → (here : Cursor) × (ahead g at ≡ here ∷ ahead g c.next) × (c.next ≡ next_cursor g here)
  step-ahead (Steps.ends e d) = absurd (none-some c (sym d))
  step-ahead (Steps.takes here e d s w) =
      let n = ap (λ (x : Candidate). x.next) (told-is d) in
      (here, e ∙ ap (λ (x : Cursor). here ∷ ahead g x) (sym n), n)

  pub step-within : Steps g at (Some c) → Rises g → CursorWithin g c.next
  step-within (Steps.ends e d) r = absurd (none-some c (sym d))
  step-within (Steps.takes here e d s w) r = rw (told-is d) (w r)

module _ {g : Layer} {at : Cursor} where
  pub end-left : Steps g at None → rest g at ≡ []
  unfolding rest
  end-left (Steps.ends e d) = rw e
  end-left (Steps.takes here e d s w) = absurd (none-some _ d)

-- any two steps that the contract allows are one
pub steps-unique : {g : Layer} {at : Cursor} {x y : Option Candidate} → Steps g at x → Steps g at y → x ≡ y
steps-unique (Steps.ends e d) (Steps.ends e' d') = cc
steps-unique (Steps.ends e d) (Steps.takes h e' d' s w) = let z : ◌≡◌ {A = ℕ} 0 1 = cc in absurd (omega arith)
steps-unique (Steps.takes h e d s w) (Steps.ends e' d') = let z : ◌≡◌ {A = ℕ} 0 1 = cc in absurd (omega arith)
steps-unique {g} (Steps.takes h e d s w) (Steps.takes h' e' d' s' w') =
    let q : h ≡ h' = cc in
    d ∙ ap (λ (x : Cursor). told (candidate_at g x) (next_cursor g x)) q ∙ sym d'

-- ---- a whole size

-- the candidate at a cursor of a split
abbrev in_part : Layer → Cursor → Cand
in_part g at = cand_in (codes_in g at.split) at

module _ (g : Layer) where
  one_right : (l : ℕ) → column g.unary 0 0 1 l ≡ one_row g.unary 0 l 0
  unfolding range count each
  one_right l = append-nil (one_row g.unary 0 l 0)

  unary-row : (l : ℕ) → map (in_part g) (column g.unary 0 0 1 l) ≡ unary_cands g l
  unfolding both
  unary-row l =
      ap (map (in_part g)) (one_right l)
      ∙ map_each (in_part g) (both g.unary 0 l 0) (range 0 (length g.unary))
      ∙ each-single (λ o. cand (get_or g.unary o 0) l 0) (range 0 (length g.unary))
      ∙ map-positions (λ c. cand c l 0) g.unary 0

  unary-part : map (in_part g) (split_cursors g 0) ≡ each (range (first_place g.starts (g.size - 1)) (first_place g.starts (g.size - 1 + 1))) (unary_cands g)
  unary-part = map_each (in_part g) (column g.unary 0 0 1) _ ∙ each-range _ _ _ _ (λ l h k. unary-row l)

  pair-orders : (i l q o : ℕ) → map (in_part g) (both g.binary (suc i) l q o) ≡ order_cands l q (get_or g.binary o 0)
  unfolding both order_cands
  pair-orders i l q o = go (commuting (get_or g.binary o 0))
    where
      go : (b : Bool) → map (in_part g) (cond (not b) (cursor (suc i) l q o false ∷ (cursor (suc i) l q o true ∷ [])) (cursor (suc i) l q o false ∷ []))
          ≡ cond b (cand (get_or g.binary o 0) l q ∷ []) (cand (get_or g.binary o 0) l q ∷ (cand (get_or g.binary o 0) q l ∷ []))
      go true = refl
      go false = refl

  pair_row : (i l q : ℕ) → map (in_part g) (one_row g.binary (suc i) l q) ≡ each g.binary (order_cands l q)
  pair_row i l q =
      map_each (in_part g) (both g.binary (suc i) l q) (range 0 (length g.binary))
      ∙ each-range 0 (length g.binary) _ _ (λ o h k. pair-orders i l q o)
      ∙ each-positions (order_cands l q) g.binary 0

  pair-part : (i : ℕ) → map (in_part g) (split_cursors g (suc i)) ≡ pair_cands g (suc i)
  unfolding pair_cands
  pair-part i =
      map_each (in_part g) _ _
      ∙ each-range _ _ _ _ (λ l h k. map_each (in_part g) _ _ ∙ each-range _ _ _ _ (λ q m n. pair_row i l q))

-- all splits, from the first cursor on
module _ (m : ℕ) (starts : List ℕ) (p c : ℕ) (unary binary : List ℕ) where
  abbrev g : Layer
  g = layer_of (suc (suc m)) starts p c unary binary

  parts_first : parts_ahead g (first starts (suc (suc m))) ≡ each (range 0 ((suc (suc m) + 1) / 2)) (split_cursors g)
  unfolding parts_ahead
  parts_first =
      rw (lt-ltb 1 (suc (suc m)) (omega arith))
      (resume-fresh (part_ahead g (cursor 0 (first_place starts (suc (suc m) - 1)) 0 0 false)) (split_cursors g) 0 ((suc (suc m) + 1) / 2)
      (part-fresh unary 0 (first_place starts (suc (suc m) - 1)) (first_place starts (suc (suc m) - 1 + 1)) 0 1))

  later-parts : map (in_part g) (each (range 1 ((suc (suc m) + 1) / 2)) (split_cursors g)) ≡ each (left_sizes (suc (suc m))) (pair_cands g)
  unfolding left_sizes range
  later-parts = map_each (in_part g) (split_cursors g) (range 1 ((suc (suc m) + 1) / 2)) ∙ each-range 1 ((suc (suc m) + 1) / 2) _ _ later
    where
      later : (i : ℕ) → 1 ≤ i → i < (suc (suc m) + 1) / 2 → map (in_part g) (split_cursors g i) ≡ pair_cands g i
      later zero h k = absurd (omega arith)
      later (suc i) h k = pair-part g i

  rest-parts : suc (suc m) < length starts → rest g (first starts (suc (suc m))) ≡ cands_of_size g (suc (suc m))
  unfolding rest each
  rest-parts h =
      let e : suc (suc m) - 1 ≡ suc m = omega arith in
      ap (map (candidate_at g)) (ahead-parts g h (λ z. omega arith) (first starts (suc (suc m))) ∙ parts_first)
      ∙ ap (λ (f : Cursor → Cand). map f (each (range 0 ((suc (suc m) + 1) / 2)) (split_cursors g))) (fun_ext (part-candidate g (λ z. omega arith)))
      ∙ rw (range_cons 0 ((suc (suc m) + 1) / 2) (omega arith))
      (map-append (in_part g) (split_cursors g 0) (each (range 1 ((suc (suc m) + 1) / 2)) (split_cursors g))
      ∙ ap₂ (λ (x y : List Cand). x ++ y)
      (unary-part g ∙ ap (λ (t : ℕ). each (range (first_place starts t) (first_place starts (t + 1))) (unary_cands g)) e) later-parts)

rest-leaves : (starts : List ℕ) (p c : ℕ) (unary binary : List ℕ) → 1 < length starts
    → rest (layer_of 1 starts p c unary binary) (first starts 1) ≡ leaf_cands p c
unfolding rest leaves_ahead
rest-leaves starts p c unary binary h =
    let g = layer_of 1 starts p c unary binary in
    ap (map (candidate_at g)) (ahead-leaves g h refl (first starts 1))
    ∙ ap (λ (f : Cursor → Cand). map f (map leaf_cursor (range 0 (length (leaf_cands p c))))) (fun_ext (leaf-candidate g refl))
    ∙ map-map leaf_cursor (leaf_at p c) (range 0 (length (leaf_cands p c)))
    ∙ positions (leaf_cands p c) (cand 0 0 0)

-- THE WHOLE SIZE is left at its first cursor
pub rest-first : (g : Layer) → rest g (first g.starts g.size) ≡ candidates g
unfolding rest candidates
rest-first g = elim (dec_le (length g.starts) g.size) [
  | yes h ↦ rw (ahead-beyond g h (first g.starts g.size), le-ltb g.size (length g.starts) h)
  | no h ↦ rw (lt-ltb g.size (length g.starts) (omega arith)) (go g.size (omega arith))
]
  where
    go : (s : ℕ) → s < length g.starts
        → rest (layer_of s g.starts g.propositions g.constants g.unary g.binary) (first g.starts s)
        ≡ cands_of_size (layer_of s g.starts g.propositions g.constants g.unary g.binary) s
    go zero h =
        let g₀ = layer_of 0 g.starts g.propositions g.constants g.unary g.binary in
        rw (ahead-parts g₀ h (λ z. omega arith) (first g.starts 0), parts_out g₀ (first g.starts 0) (omega arith))
    go (suc zero) h = rest-leaves g.starts g.propositions g.constants g.unary g.binary h
    go (suc (suc m)) h = rest-parts m g.starts g.propositions g.constants g.unary g.binary h
