-- Brackets counted byte by byte.
-- Assumes nothing.
use mathlib.Core.Path.{◌≡◌, refl, sym, ap, ◌∙◌}
use mathlib.Core.Bool.{Bool, true, false, cond}
use mathlib.Core.List.{List, [], ◌∷◌, ◌++◌}
use Prim.Native.Nat.{ℕ, ◌+◌, ◌≤◌, ◌<◌}
use native.Mathlib.Omega.{arith}
use native.Mathlib.Decide.{dec_le}
use native.Mathlib.Numerals.{add-one}
use mir.Val.{bool_byte}
use lib.Dec.{eqb}
use lib.ListN.{length, take, get_or}
use lib.Seq.{take-suc, take_all}
use Rattle.typed.specs.Words.{how_many, most_brackets, DeepAt, Deep}
use Rattle.typed.specs.Inner.{One}

-- a test as a number
pub one_of : (b this r : ℕ) → r ≡ bool_byte (eqb b this) → One b this r
one_of b this r e = go (eqb b this) refl
  where
    go : (t : Bool) → eqb b this ≡ t → One b this r
    go true q = let z : r ≡ 1 = e ∙ ap bool_byte q in record { is = z ∙ sym (ap (λ (t : Bool). cond t 1 0) q); most = omega arith }
    go false q = let z : r ≡ 0 = e ∙ ap bool_byte q in record { is = z ∙ sym (ap (λ (t : Bool). cond t 1 0) q); most = omega arith }

many_more : (b : ℕ) (xs : List ℕ) (x : ℕ) → how_many b (xs ++ (x ∷ [])) ≡ how_many b xs + cond (eqb x b) 1 0
unfolding how_many
many_more b [] x = omega arith
many_more b (y ∷ xs) x = omega (arith, many_more b xs x)

-- the first i bytes are counted, and nowhere in them are too many brackets open
pub record Counted (text : List ℕ) (opened closed i : ℕ) : Type 0 where
  pub upto : i ≤ length text
  pub opens : opened ≡ how_many 40 (take i text)
  pub closes : closed ≡ how_many 41 (take i text)
  pub opened-most : opened ≤ i
  pub closed-most : closed ≤ i
  pub calm : (j : ℕ) → j ≤ i → DeepAt text j → ⊥

module _ (text : List ℕ) where
  pub counted_start : Counted text 0 0 0
  unfolding how_many
  counted_start = record { upto = omega arith; opens = refl; closes = refl; opened-most = omega arith; closed-most = omega arith; calm = λ j h d. nothing j h d }
    where
      nothing : (j : ℕ) → j ≤ 0 → DeepAt text j → ⊥
      nothing j h d = let z : j ≡ 0 = omega arith in let e : how_many 40 (take j text) ≡ 0 = ap (λ (k : ℕ). how_many 40 (take k text)) z in omega arith

  module _ {opened closed i : ℕ} (c : Counted text opened closed i) (h : i < length text) where
    next : (b : ℕ) → how_many b (take (i + 1) text) ≡ how_many b (take i text) + cond (eqb (get_or text i 0) b) 1 0
    next b = ap (how_many b) (ap (λ (n : ℕ). take n text) (add-one i) ∙ take-suc text i 0 h) ∙ many_more b (take i text) (get_or text i 0)

    pub counted_next : (b : ℕ) {n x : ℕ} → n ≡ how_many b (take i text) → x ≡ cond (eqb (get_or text i 0) b) 1 0 → n + x ≡ how_many b (take (i + 1) text)
    counted_next b e q = omega (arith, next b)

    module _ {opens closes : ℕ} (p : opens ≡ how_many 40 (take (i + 1) text)) (q : closes ≡ how_many 41 (take (i + 1) text)) where
      pub counted-deep : most_brackets + closes < opens → Deep text
      counted-deep d = (i + 1, omega (arith, p, q))

      pub counted-on : opens ≤ i + 1 → closes ≤ i + 1 → opens ≤ most_brackets + closes → Counted text opens closes (i + 1)
      counted-on om cm d = record { upto = omega arith; opens = p; closes = q; opened-most = om; closed-most = cm; calm = λ j g e. elim (dec_le j i) [ yes l ↦ c.calm j l e | no l ↦ here j g l e ] }
        where
          here : (j : ℕ) → j ≤ i + 1 → (j ≤ i → ⊥) → DeepAt text j → ⊥
          here j g l e =
              let z : j ≡ i + 1 = omega arith in
              let a : how_many 40 (take j text) ≡ how_many 40 (take (i + 1) text) = ap (λ (k : ℕ). how_many 40 (take k text)) z in
              let b : how_many 41 (take j text) ≡ how_many 41 (take (i + 1) text) = ap (λ (k : ℕ). how_many 41 (take k text)) z in
              omega (arith, p, q, a, b)

  pub counted-end : {opened closed i : ℕ} → Counted text opened closed i → length text ≤ i → Deep text → ⊥
  counted-end {i = i} c h (j, d) = elim (dec_le j i) [ yes l ↦ c.calm j l d | no l ↦ past l ]
    where
      past : (j ≤ i → ⊥) → ⊥
      past l =
          let m : take j text ≡ take i text = take_all j text (omega arith) ∙ sym (take_all i text h) in
          c.calm i (omega arith) (let a = ap (how_many 40) m in let b = ap (how_many 41) m in omega (arith, d))
