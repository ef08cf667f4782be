-- Any two results that a contract of this crate allows for the same input are equal.
-- Assumes nothing.
use mathlib.Core.Path.{◌≡◌, refl, sym, ap, ◌∙◌, subst}
use mathlib.Core.Bool.{Bool, true, false}
use mathlib.Core.List.{List}
use Prim.Native.Nat.{ℕ, ◌≤◌}
use native.Mathlib.Omega.{arith}
use native.Mathlib.Decide.{ℕ_discrete, dec_lt}
use lib.ListN.{length, get_or}
use lib.Seq.{ext_get_or}
use Rattle.words.proofs.At.{means-unique}
use Rattle.sequence.specs.Operators.{Unary, Binary}
use Rattle.sequence.proofs.Unique.{unary-one, binary-one}
use Rattle.loops.specs.Loops.{Filled, Done, Told, UnaryAt, BinaryAt, UnaryRow, BinaryRow, UnaryOver, BinaryOver}

pub filled-unique : {r : ℕ} {old new new' : List ℕ} {P : ℕ → ℕ → Type 0} → ((j w w' : ℕ) → P j w → P j w' → w ≡ w') → Filled r old P new → Filled r old P new' → new ≡ new'
filled-unique {r} {old} {new} {new'} one f g = ext_get_or 0 new new' (f.long ∙ sym g.long) (λ j l. elim (dec_lt j r) [
  | yes h ↦ one j _ _ (f.words j h) (g.words j h)
  | no h ↦ (let b : r ≤ j = omega arith in f.rest j b ∙ sym (g.rest j b))
])

-- two lists of which it can't be that they differ are equal
same_lists : (x y : List ℕ) → ((x ≡ y → ⊥) → ⊥) → x ≡ y
same_lists x y h =
    ext_get_or 0 x y (elim (ℕ_discrete (length x) (length y)) [ yes e ↦ e | no n ↦ absurd (h (λ e. n (ap length e))) ])
    (λ j l. elim (ℕ_discrete (get_or x j 0) (get_or y j 0)) [ yes e ↦ e | no n ↦ absurd (h (λ e. n (ap (λ (z : List ℕ). get_or z j 0) e))) ])

pub done-unique : {A : Type 0} {D : List ℕ → Type 0} {old : List ℕ} → ((x y : List ℕ) → D x → D y → x ≡ y) → (x y : List ℕ) → Done A (D x) (x ≡ old) → Done A (D y) (y ≡ old) → x ≡ y
done-unique {A} one x y p q = same_lists x y (λ n. let none : A → ⊥ = λ a. n (one x y (p.did a) (q.did a)) in n (p.stays none ∙ sym (q.stays none)))

-- an answer of true or false, with the list that it leaves
pub told-unique : (A : Type 0) {L : Type 0} (did : L → Type 0) (old : L) → ((x y : L) → did x → did y → x ≡ y) → (b b' : Bool) (x y : L)
    → Told A (did x) (x ≡ old) b → Told A (did y) (y ≡ old) b' → (b ≡ b') × (x ≡ y)
told-unique A did old one true true x y p q = (refl, one x y p.1 q.1)
told-unique A did old one true false x y p q = absurd (q.0 p.0)
told-unique A did old one false true x y p q = absurd (p.0 q.0)
told-unique A did old one false false x y p q = (refl, p.1 ∙ sym q.1)

unary-row : (code : ℕ) (masks x : List ℕ) (j w w' : ℕ) → UnaryRow code masks x j w → UnaryRow code masks x j w' → w ≡ w'
unary-row code masks x j w w' (o, e, p) (o', e', q) = means-unique p (subst (λ (op : Unary). UnaryAt op masks x j w') (unary-one o' o (e' ∙ sym e)) q)

binary-row : (code : ℕ) (masks x y : List ℕ) (j w w' : ℕ) → BinaryRow code masks x y j w → BinaryRow code masks x y j w' → w ≡ w'
binary-row code masks x y j w w' (o, e, p) (o', e', q) = means-unique p (subst (λ (op : Binary). BinaryAt op masks x y j w') (binary-one o' o (e' ∙ sym e)) q)

pub unary-over-unique : (r : ℕ) (masks x : List ℕ) (code : ℕ) (old new new' : List ℕ) → UnaryOver r masks x code old new → UnaryOver r masks x code old new' → new ≡ new'
unary-over-unique r masks x code old new new' p q = done-unique (λ a b f g. filled-unique (unary-row code masks x) f g) new new' p q

pub binary-over-unique : (r : ℕ) (masks x y : List ℕ) (code : ℕ) (old new new' : List ℕ) → BinaryOver r masks x y code old new → BinaryOver r masks x y code old new' → new ≡ new'
binary-over-unique r masks x y code old new new' p q = done-unique (λ a b f g. filled-unique (binary-row code masks x y) f g) new new' p q
