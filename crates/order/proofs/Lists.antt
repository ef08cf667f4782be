-- Lists of lists: mapped, made of numbers, and read back position by position.
-- Assumes nothing.
use mathlib.Core.Path.{◌≡◌, refl, sym, ap, ap₂, ◌∙◌}
use mathlib.Core.List.{List, [], ◌∷◌, ◌++◌, map}
use Prim.Native.Nat.{ℕ, zero, suc, ◌+◌, ◌-◌, ◌≤◌, ◌<◌}
use native.Mathlib.Omega.{arith}
use lib.ListN.{length, get_or, length-map}
use lib.Seq.{ext_get_or}
use Rattle.rules.specs.Lists.{each, count}
use Rattle.split.specs.Split.{range}
use Rattle.starts.proofs.Numbers.{length-count, get_d-map-count}

pub map-append : {A B : Type 0} (f : A → B) (xs ys : List A) → map f (xs ++ ys) ≡ map f xs ++ map f ys
map-append f [] ys = refl
map-append f (x ∷ xs) ys = ap (λ r. f x ∷ r) (map-append f xs ys)

pub map-map : {A B C : Type 0} (f : A → B) (g : B → C) (xs : List A) → map g (map f xs) ≡ map (λ x. g (f x)) xs
map-map f g [] = refl
map-map f g (x ∷ xs) = ap (λ r. g (f x) ∷ r) (map-map f g xs)

pub map_each : {A B C : Type 0} (f : B → C) (h : A → List B) (xs : List A) → map f (each xs h) ≡ each xs (λ x. map f (h x))
unfolding each
map_each f h [] = refl
map_each f h (x ∷ xs) = map-append f (h x) (each xs h) ∙ ap (λ r. map f (h x) ++ r) (map_each f h xs)

pub each_map : {A B C : Type 0} (f : A → B) (g : B → List C) (xs : List A) → each (map f xs) g ≡ each xs (λ x. g (f x))
unfolding each
each_map f g [] = refl
each_map f g (x ∷ xs) = ap (λ r. g (f x) ++ r) (each_map f g xs)

pub each-single : {A B : Type 0} (f : A → B) (xs : List A) → each xs (λ x. f x ∷ []) ≡ map f xs
unfolding each
each-single f [] = refl
each-single f (x ∷ xs) = ap (λ r. f x ∷ r) (each-single f xs)

-- the same of each number of a range
each-count : {A : Type 0} (a n : ℕ) (f g : ℕ → List A) → ((p : ℕ) → a ≤ p → p < a + n → f p ≡ g p) → each (count a n) f ≡ each (count a n) g
unfolding each count
each-count a zero f g e = refl
each-count a (suc n) f g e = ap₂ (λ x y. x ++ y) (e a (omega arith) (omega arith)) (each-count (suc a) n f g (λ p l h. e p (omega arith) (omega arith)))

pub each-range : {A : Type 0} (a b : ℕ) (f g : ℕ → List A) → ((p : ℕ) → a ≤ p → p < b → f p ≡ g p) → each (range a b) f ≡ each (range a b) g
unfolding range
each-range a b f g e = each-count a (b - a) f g (λ p l h. e p l (omega arith))

-- the same of each code of a list
pub map-codes : {A : Type 0} (l : List ℕ) (f g : ℕ → A) → ((o : ℕ) → o < length l → f (get_or l o 0) ≡ g (get_or l o 0)) → map f l ≡ map g l
map-codes [] f g e = refl
map-codes (c ∷ l) f g e = ap₂ (λ x y. x ∷ y) (e 0 (omega arith)) (map-codes l f g (λ o h. e (suc o) (omega arith)))

pub each_codes : {A : Type 0} (l : List ℕ) (f g : ℕ → List A) → ((o : ℕ) → o < length l → f (get_or l o 0) ≡ g (get_or l o 0)) → each l f ≡ each l g
unfolding each
each_codes [] f g e = refl
each_codes (c ∷ l) f g e = ap₂ (λ x y. x ++ y) (e 0 (omega arith)) (each_codes l f g (λ o h. e (suc o) (omega arith)))

-- a list by its positions
pub positions : {A : Type 0} (l : List A) (d : A) → map (λ o. get_or l o d) (range 0 (length l)) ≡ l
unfolding range
positions l d = ap (λ (n : ℕ). map (λ o. get_or l o d) (count 0 n)) (let e : length l - 0 ≡ length l = omega arith in e) ∙
    ext_get_or d (map (λ o. get_or l o d) (count 0 (length l))) l (simp length-map (length-count 0 (length l)))
    (λ i h. let k = simp length-map at h in
    get_d-map-count (λ o. get_or l o d) 0 (length l) i d (omega (arith, length-count 0 (length l)))
    ∙ ap (λ (o : ℕ). get_or l o d) (let e : 0 + i ≡ i = omega arith in e))

pub map-positions : {A B : Type 0} (f : A → B) (l : List A) (d : A) → map (λ o. f (get_or l o d)) (range 0 (length l)) ≡ map f l
map-positions f l d = sym (map-map (λ o. get_or l o d) f (range 0 (length l))) ∙ ap (map f) (positions l d)

pub each-positions : {A B : Type 0} (f : A → List B) (l : List A) (d : A) → each (range 0 (length l)) (λ o. f (get_or l o d)) ≡ each l f
each-positions f l d = sym (each_map (λ o. get_or l o d) f (range 0 (length l))) ∙ ap (λ x. each x f) (positions l d)
