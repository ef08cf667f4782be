-- A split from a cursor on: where the cursor stands on a candidate, and how it carries from the operators to the places.
-- Assumes nothing.
use mathlib.Core.Path.{◌≡◌, refl, sym, ap, ◌∙◌}
use mathlib.Core.Bool.{Bool, true, false, cond}
use mathlib.Core.List.{List, [], ◌∷◌, ◌++◌, append_assoc}
use Prim.Native.Nat.{ℕ, ◌+◌, ◌≤◌, ◌<◌}
use native.Mathlib.Omega.{arith}
use lib.ListN.{length}
use Rattle.rules.specs.Lists.{each}
use Rattle.split.specs.declared.Cursor.{Cursor}
use Rattle.split.specs.Split.{range, cursor, twice, code_at, both, one_row, column, both_from, row_from, column_from, part_from, after_in}
use Rattle.split.specs.Inner.{stand}
use Rattle.split.proofs.Loops.{each-empty, each_none, resume-empty, resume-in, resume-out, resume-as, resume-done, resume-fresh}

-- ---- an operator over a pair

module _ (codes : List ℕ) where
  -- nothing of it is done
  both-fresh : (i l q l' q' o o' : ℕ) → both_from codes (cursor i l' q' o' false) l q o ≡ both codes i l q o
  unfolding both_from both
  both-fresh i l q l' q' o o' = go (twice i (code_at codes o))
    where
      go : (b : Bool) → cond b (cond b (cursor i l q o false ∷ (cursor i l q o true ∷ [])) (cursor i l q o false ∷ [])) (cursor i l q o false ∷ [])
          ≡ cond b (cursor i l q o false ∷ (cursor i l q o true ∷ [])) (cursor i l q o false ∷ [])
      go true = refl
      go false = refl

  row_fresh : (i l q l' q' : ℕ) → row_from codes (cursor i l' q' 0 false) l q ≡ one_row codes i l q
  row_fresh i l q l' q' = resume-fresh (both_from codes (cursor i l' q' 0 false) l q) (both codes i l q) 0 (length codes) (both-fresh i l q l' q' 0 0)

  column-fresh : (i l l' from to : ℕ) → column_from codes to (cursor i l' from 0 false) l ≡ column codes i from to l
  column-fresh i l l' from to =
      resume-fresh (row_from codes (cursor i l' from 0 false) l) (one_row codes i l) from to (row_fresh i l from l' from)

  pub part-fresh : (i l end from to : ℕ) → part_from codes end from to (cursor i l from 0 false) ≡ each (range l end) (column codes i from to)
  unfolding part_from
  part-fresh i l end from to =
      resume-fresh (column_from codes to (cursor i l from 0 false)) (column codes i from to) l end (column-fresh i l l from to)

-- ---- where a cursor stands

module _ (codes : List ℕ) (end from to : ℕ) (at : Cursor) where
  abbrev onward : Cursor
  onward = cursor at.split at.left at.right (at.operator + 1) false

  -- its numbers are in range
  part_in : at.left < end → at.right < to → at.operator < length codes
      → part_from codes end from to at ≡ both_from codes at at.left at.right at.operator ++ part_from codes end from to onward
  unfolding part_from
  part_in h k m =
      let i = at.split in
      let l = at.left in
      let q = at.right in
      let o = at.operator in
      rw (
        resume-in (column_from codes to at) (column codes i from to) l end h,
        resume-in (row_from codes at l) (one_row codes i l) q to k,
        resume-in (both_from codes at l q) (both codes i l q) o (length codes) m,
        resume-in (column_from codes to onward) (column codes i from to) l end h,
        resume-in (row_from codes onward l) (one_row codes i l) q to k,
        resume-fresh (both_from codes onward l q) (both codes i l q) (o + 1) (length codes) (both-fresh codes i l q l q (o + 1) (o + 1)),
      )
      (simp append_assoc)

  -- the operators over its pair are done
  pub carry-operator : length codes ≤ at.operator → part_from codes end from to at ≡ part_from codes end from to (cursor at.split at.left (at.right + 1) 0 false)
  unfolding part_from
  carry-operator h =
      let i = at.split in
      let l = at.left in
      let q = at.right in
      let next = cursor i l (q + 1) 0 false in
      resume-as (column_from codes to at) (column_from codes to next) (column codes i from to) l end
      (resume-done (row_from codes at l) (one_row codes i l) q to (resume-out (both_from codes at l q) (both codes i l q) at.operator (length codes) h)
      ∙ sym (resume-fresh (row_from codes next l) (one_row codes i l) (q + 1) to (row_fresh codes i l (q + 1) l (q + 1))))

  -- the pairs under its left place are done
  pub carry-right : column_from codes to at at.left ≡ [] → part_from codes end from to at ≡ part_from codes end from to (cursor at.split (at.left + 1) from 0 false)
  unfolding part_from
  carry-right e =
      resume-done (column_from codes to at) (column codes at.split from to) at.left end e
      ∙ sym (part-fresh codes at.split (at.left + 1) end from to)

  pub part_out : end ≤ at.left → part_from codes end from to at ≡ []
  unfolding part_from
  part_out h = resume-out (column_from codes to at) (column codes at.split from to) at.left end h

  -- no right place at all
  pub no-right : to ≤ from → to ≤ at.right → part_from codes end from to at ≡ []
  unfolding part_from
  no-right h k =
      resume-empty (column_from codes to at) (column codes at.split from to) at.left end
      (λ l. resume-out (row_from codes at l) (one_row codes at.split l) at.right to k)
      (λ l. each_none (one_row codes at.split l) from to h)

  -- no operator at all
  pub no-codes : length codes ≡ 0 → part_from codes end from to at ≡ []
  unfolding part_from
  no-codes e =
      resume-empty (column_from codes to at) (column codes at.split from to) at.left end
      (λ l. resume-empty (row_from codes at l) (one_row codes at.split l) at.right to
      (λ q. resume-out (both_from codes at l q) (both codes at.split l q) at.operator (length codes) (omega arith)) (none l))
      (λ l. each-empty (one_row codes at.split l) (range from to) (none l))
    where
      none : (l q : ℕ) → one_row codes at.split l q ≡ []
      none l q = each_none (both codes at.split l q) 0 (length codes) (omega arith)

-- nothing is left under the cursor's left place
module _ (codes : List ℕ) (to : ℕ) (at : Cursor) where
  pub past-right : to ≤ at.right → column_from codes to at at.left ≡ []
  past-right h = resume-out (row_from codes at at.left) (one_row codes at.split at.left) at.right to h

  pub past-operator : length codes ≤ at.operator → to ≤ at.right + 1 → column_from codes to at at.left ≡ []
  past-operator h k =
      let i = at.split in
      let l = at.left in
      let q = at.right in
      resume-done (row_from codes at l) (one_row codes i l) q to (resume-out (both_from codes at l q) (both codes i l q) at.operator (length codes) h)
      ∙ each_none (one_row codes i l) (q + 1) to k

-- the next one is where it stands
pub part-stands : (codes : List ℕ) (end from to : ℕ) (at : Cursor) → at.left < end → at.right < to → at.operator < length codes
    → part_from codes end from to at ≡ stand codes at ∷ part_from codes end from to (after_in codes (stand codes at))
unfolding both_from both after_in
part-stands codes end from to at h k m = go (twice at.split (code_at codes at.operator)) at.second refl refl
  where
    go : (b second : Bool) → twice at.split (code_at codes at.operator) ≡ b → at.second ≡ second
        → part_from codes end from to at ≡ stand codes at ∷ part_from codes end from to (after_in codes (stand codes at))
    go false second d e = rw d (rw d at (part_in codes end from to at h k m))
    go true true d e = rw (d, e) (rw (d, e) at (part_in codes end from to at h k m))
    go true false d e =
        let half = cursor at.split at.left at.right at.operator true in
        rw (d, e) (rw (d, e) at (part_in codes end from to at h k m)
        ∙ ap (λ (cs : List Cursor). cursor at.split at.left at.right at.operator false ∷ cs) (sym (rw d at (part_in codes end from to half h k m))))
