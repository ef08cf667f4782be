-- How many candidates can be left, whatever the cursor: so a count of them fits.
-- Assumes nothing.
use mathlib.Core.Path.{◌≡◌}
use mathlib.Core.Bool.{Bool, true, false, cond}
use mathlib.Core.List.{List, [], ◌∷◌}
use Prim.Native.Nat.{ℕ, zero, suc, ◌+◌, ◌-◌, ◌*◌, ◌/◌, ◌≤◌}
use native.Mathlib.Omega.{arith}
use native.Mathlib.Decide.{dec_le}
use native.Mathlib.Nat.{suc-mul, mul-le-mul, add-mul, one-mul}
use lib.ListN.{length, length-append, length-map}
use lib.Dec.{eqb, ltb}
use borrow.Author.Tests.{lt-ltb, le-ltb}
use Rattle.rules.specs.Lists.{each}
use Rattle.split.specs.declared.Cursor.{Cursor}
use Rattle.order.specs.Size.{Layer, leaf_cands, first_place}
use Rattle.split.specs.Split.{range, cursor, resume, twice, code_at, both, one_row, column, both_from, row_from, column_from, part_from}
use Rattle.order.specs.Ahead.{right_end, leaves_ahead, codes_in, split_cursors, part_ahead, parts_ahead, ahead, rest}
use Rattle.starts.proofs.Numbers.{length-count}
use Rattle.order.proofs.Leaves.{leaves-few}

-- ---- loops

length-range : (a b : ℕ) → length (range a b) ≡ b - a
unfolding range
length-range a b = length-count a (b - a)

module _ {A : Type 0} where
  few-each : (f : ℕ → List A) (n : ℕ) (xs : List ℕ) → ((x : ℕ) → length (f x) ≤ n) → length (each xs f) ≤ length xs * n
  unfolding each
  few-each f n [] w = omega arith
  few-each f n (x ∷ xs) w = omega (arith, length-append (f x) (each xs f), w x, few-each f n xs w, suc-mul (length xs) n)

  few-range : (f : ℕ → List A) (n m a b : ℕ) → ((x : ℕ) → length (f x) ≤ n) → b ≤ m → length (each (range a b) f) ≤ m * n
  few-range f n m a b w h =
      let e : length (range a b) * n ≤ m * n = mul-le-mul (omega (arith, length-range a b)) (omega arith) in
      omega (arith, few-each f n (range a b) w)

  few-resume : (g f : ℕ → List A) (n m a b : ℕ) → ((x : ℕ) → length (g x) ≤ n) → ((x : ℕ) → length (f x) ≤ n) → b ≤ m → length (resume g f a b) ≤ m * n
  unfolding resume
  few-resume g f n m a b v w h = elim (dec_le b a) [
    | yes k ↦ rw (le-ltb a b k) (omega arith)
    | no k ↦
        let e : (1 + length (range (a + 1) b)) * n ≤ m * n = mul-le-mul (omega (arith, length-range (a + 1) b)) (omega arith) in
        rw (lt-ltb a b (omega arith))
        (omega (arith, length-append (g a) (each (range (a + 1) b) f), v a, few-each f n (range (a + 1) b) w, add-mul 1 (length (range (a + 1) b)) n, one-mul n))
  ]

-- ---- a split: at most `room` places to each side, and at most `codes` operators

few-both : (codes : List ℕ) (i l q o : ℕ) → length (both codes i l q o) ≤ 2
unfolding both
few-both codes i l q o = go (twice i (code_at codes o))
  where
    go : (b : Bool) → length (cond b (cursor i l q o false ∷ (cursor i l q o true ∷ [])) (cursor i l q o false ∷ [])) ≤ 2
    go true = omega arith
    go false = omega arith

few-both-from : (codes : List ℕ) (at : Cursor) (l q o : ℕ) → length (both_from codes at l q o) ≤ 2
unfolding both_from
few-both-from codes at l q o = go (twice at.split (code_at codes o)) at.second
  where
    go : (b c : Bool) → length (cond b (cond c (cursor at.split l q o true ∷ []) (both codes at.split l q o)) (cursor at.split l q o false ∷ [])) ≤ 2
    go true true = omega arith
    go true false = few-both codes at.split l q o
    go false c = omega arith

module _ (codes : List ℕ) (room most : ℕ) (h : length codes ≤ most) where
  few-row : (i l q : ℕ) → length (one_row codes i l q) ≤ most * 2
  few-row i l q = few-range (both codes i l q) 2 most 0 (length codes) (few-both codes i l q) h

  few-column : (i from to l : ℕ) → to ≤ room → length (column codes i from to l) ≤ room * (most * 2)
  few-column i from to l k = few-range (one_row codes i l) (most * 2) room from to (few-row i l) k

  few-part : (i start end from to : ℕ) → end ≤ room → to ≤ room → length (each (range start end) (column codes i from to)) ≤ room * (room * (most * 2))
  few-part i start end from to k m = few-range (column codes i from to) (room * (most * 2)) room start end (λ l. few-column i from to l m) k

  few-part-from : (end from to : ℕ) (at : Cursor) → end ≤ room → to ≤ room → length (part_from codes end from to at) ≤ room * (room * (most * 2))
  unfolding part_from
  few-part-from end from to at k m =
      few-resume (column_from codes to at) (column codes at.split from to) (room * (most * 2)) room at.left end
      (λ l. few-resume (row_from codes at l) (one_row codes at.split l) (most * 2) room at.right to
      (λ q. few-resume (both_from codes at l q) (both codes at.split l q) 2 most at.operator (length codes) (few-both-from codes at l q) (few-both codes at.split l q) h)
      (few-row at.split l) m)
      (λ l. few-column at.split from to l m) k

-- ---- a size

module _ (g : Layer) (room most : ℕ) (some : 1 ≤ room) (kept : (t : ℕ) → first_place g.starts t ≤ room)
    (unary : length g.unary ≤ most) (binary : length g.binary ≤ most) where
  few-codes : (i : ℕ) → length (codes_in g i) ≤ most
  few-codes zero = unary
  few-codes (suc i) = binary

  few-right : (i : ℕ) → right_end g.size g.starts i ≤ room
  few-right zero = some
  few-right (suc i) = kept (g.size - 1 - suc i + 1)

  few-parts : (at : Cursor) → length (parts_ahead g at) ≤ (g.size + 1) / 2 * (room * (room * (most * 2)))
  unfolding parts_ahead
  few-parts at =
      few-resume (part_ahead g at) (split_cursors g) (room * (room * (most * 2))) ((g.size + 1) / 2) at.split ((g.size + 1) / 2)
      (λ i. few-part-from (codes_in g i) room most (few-codes i) _ _ _ at (kept _) (few-right i))
      (λ i. few-part (codes_in g i) room most (few-codes i) i _ _ _ _ (kept _) (few-right i)) (omega arith)

  few-leaves : (at : Cursor) → length (leaves_ahead g.propositions g.constants at) ≤ g.propositions + 2
  unfolding leaves_ahead
  few-leaves at = simp length-map (omega (arith, length-range at.operator (length (leaf_cands g.propositions g.constants)), leaves-few g.propositions g.constants))

  -- FEW ARE LEFT, whatever the cursor
  pub rest-few : (at : Cursor) → length (rest g at) ≤ (g.propositions + 2) + (g.size + 1) / 2 * (room * (room * (most * 2)))
  unfolding rest ahead
  rest-few at = simp length-map (go (ltb g.size (length g.starts)) (eqb g.size 1))
    where
      go : (b c : Bool) → length (cond b (cond c (leaves_ahead g.propositions g.constants at) (parts_ahead g at)) [])
          ≤ (g.propositions + 2) + (g.size + 1) / 2 * (room * (room * (most * 2)))
      go true true = omega (arith, few-leaves at)
      go true false = omega (arith, few-parts at)
      go false c = omega arith
