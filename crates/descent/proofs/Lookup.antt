-- The leaf that a word is: a constant, or a name with its number among the names.
-- Assumes nothing.
use mathlib.Core.Path.{◌≡◌, refl, sym, ap, subst, ◌∙◌}
use mathlib.Core.Bool.{Bool, true, false}
use mathlib.Core.List.{List, [], Memᴰ}
use Prim.Native.Nat.{ℕ, ◌+◌, ◌-◌, ◌<◌}
use native.Mathlib.Omega.{arith}
use lib.ListN.{length, get_or, take, drop}
use Rattle.reading.proofs.Lists.{true-false}
use Rattle.names.specs.Names.{same_bytes, names_in, GoodNames}
use Rattle.names.specs.Lookup.{find_from, found_in}
use Rattle.std.proofs.Common.{Option, Some, None}
use Rattle.spelling.proofs.Same.{same-eq, same_refl}
use Rattle.names.proofs.Starts.{few-names, found-among-names}
use Rattle.names.proofs.Finding.{FoundIs, found-is}
use Rattle.grammar.specs.Token.{Atom, name, constant}
use Rattle.grammar.specs.Name.{constant_text}
use Rattle.grammar.specs.Scan.{leafy, classify}
use Rattle.grammar.proofs.Words.{ClassIs, class-is}
use Rattle.descent.specs.Packed.{name_number, atom_code, atom_field, most_field}
use Rattle.descent.specs.Inner.{WordFields, LeafFields}

constant-class : (b : Bool) → classify (constant_text b) ≡ leafy (constant b)
unfolding classify
constant-class true = refl
constant-class false = refl

module _ (file w : List ℕ) where
  pub leaf-constant : (b : Bool) → same_bytes w (constant_text b) ≡ true → WordFields file w (atom_code (constant b)) 0
  leaf-constant b e l c =
      let v : w ≡ constant_text b = same-eq w (constant_text b) e in
      let k : leafy l ≡ leafy (constant b) = sym c ∙ ap classify v ∙ constant-class b in
      let m : l ≡ constant b = cc in
      rw m (refl, refl)

  pub leaf-name : GoodNames file → same_bytes w (constant_text true) ≡ false → same_bytes w (constant_text false) ≡ false
      → {f : Option ℕ} → f ≡ found_in file w → WordFields file w 16 (name_number f)
  leaf-name n t f {f = g} q l c = by-leaf l (subst (ClassIs w) c (class-is w))
    where
      differs : (b : Bool) → same_bytes w (constant_text b) ≡ false → constant_text b ≡ w → ⊥
      differs b x e = true-false (rw e (same_refl w)) x

      is : g ≡ find_from 0 w (names_in file)
      is = q ∙ found-among-names file n w

      by-leaf : (l : Atom) → ClassIs w (leafy l) → (16 ≡ atom_code l) × (name_number g ≡ atom_field (names_in file) l)
      by-leaf (name v) h = (refl, ap name_number is ∙ ap (λ (x : List ℕ). name_number (find_from 0 x (names_in file))) (sym h.0))
      by-leaf (constant true) h = absurd (differs true t h.0)
      by-leaf (constant false) h = absurd (differs false f h.0)

-- a part of the text, by its end
pub leaf-cut : (file text : List ℕ) (start n : ℕ) {code left : ℕ} → WordFields file (take (start + n - start) (drop start text)) code left → LeafFields file text start n code left
leaf-cut file text start n f = let k : start + n - start ≡ n = omega arith in rw k at f

-- a name that is one of the names has its place there
pub number_at : (w : List ℕ) (names : List (List ℕ)) → Memᴰ w names → (name_number (find_from 0 w names) < length names) × (get_or names (name_number (find_from 0 w names)) [] ≡ w)
number_at w names m = by-found (find_from 0 w names) (found-is w names 0)
  where
    by-found : (f : Option ℕ) → FoundIs w names 0 f → (name_number f < length names) × (get_or names (name_number f) [] ≡ w)
    by-found (Some k) h = let z : k - 0 ≡ k = omega arith in (omega (arith, h.1), rw z at h.2)
    by-found None h = absurd (h m)

pub field-small : (file : List ℕ) → GoodNames file → (l : Atom) → atom_field (names_in file) l < most_field
field-small file g (name w) = by-found (find_from 0 w (names_in file)) (found-is w (names_in file) 0)
  where
    by-found : (f : Option ℕ) → FoundIs w (names_in file) 0 f → name_number f < most_field
    by-found (Some k) h = let n = few-names file g in omega (arith, h.1)
    by-found None h = omega arith
field-small file g (constant b) = omega arith
