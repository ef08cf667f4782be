-- Codes: which are in a group, what the rule reads is new, its byte stands there, and a new one is read.
-- Assumes nothing.
use mathlib.Core.Path.{◌≡◌, refl, sym, ap, ◌∙◌, subst}
use mathlib.Core.Bool.{Bool, true, false, ◌&&◌, ◌||◌}
use mathlib.Core.Bool as bool
use mathlib.Core.List.{List, [], ◌∷◌, Memᴰ}
use Prim.Native.Nat.{ℕ, zero, suc}
use borrow.Author.Tests.{eq-eqb, ne_eqb, eqb-true, not-true}
use lib.Dec.{eqb}
use Rattle.std.specs.List.{list_any}
use Rattle.sequence.specs.Operators.{Unary, Binary, unary_code, binary_code, Coded, unary, binary, neither, decode}
use Rattle.sequence.proofs.Decoding.{decode-unary, decode-binary}
use Rattle.operators.specs.Table.{GroupIs}
use Rattle.rules.specs.Answers.{Tested}
use Rattle.reading.specs.Reading.{one, is_in}
use Rattle.sections.specs.Sections.{unary_group, binary_group, is_unary, is_binary, group_of, code}
use Rattle.reading.proofs.Lists.{and_first, and_second, and_both, not_in, in-not, true-false}
use Rattle.reading.proofs.Readers.{byte-sound, byte-complete, Sound, Complete}

-- ---- the groups

-- a code is its operator's
abbrev IsOf : ℕ → Coded → Type 0
IsOf c (unary op) = unary_code op ≡ c
IsOf c (binary op) = binary_code op ≡ c
IsOf c neither = Unit {0}

coded : (c : ℕ) → IsOf c (decode c)
unfolding decode
coded zero = refl
coded (suc zero) = refl
coded (suc (suc zero)) = refl
coded (suc (suc (suc zero))) = refl
coded (suc (suc (suc (suc zero)))) = refl
coded (suc (suc (suc (suc (suc zero))))) = refl
coded (suc (suc (suc (suc (suc (suc zero)))))) = refl
coded (suc (suc (suc (suc (suc (suc (suc zero))))))) = refl
coded (suc (suc (suc (suc (suc (suc (suc (suc zero)))))))) = refl
coded (suc (suc (suc (suc (suc (suc (suc (suc (suc zero))))))))) = refl
coded (suc (suc (suc (suc (suc (suc (suc (suc (suc (suc zero)))))))))) = refl
coded (suc (suc (suc (suc (suc (suc (suc (suc (suc (suc (suc c))))))))))) = tt

pub unary-in : (op : Unary) → is_unary (unary_code op) ≡ true
unary-in op = ap unary_group (decode-unary op)

pub binary-in : (op : Binary) → is_binary (binary_code op) ≡ true
binary-in op = ap binary_group (decode-binary op)

module _ (c : ℕ) where
  pub unary-at : is_unary c ≡ true → (op : Unary) × (unary_code op ≡ c)
  unary-at t = go (decode c) (coded c) t
    where
      go : (k : Coded) → IsOf c k → unary_group k ≡ true → (op : Unary) × (unary_code op ≡ c)
      go (unary op) e t = (op, e)
      go (binary op) e t = absurd (true-false t refl)
      go neither e t = absurd (true-false t refl)

  pub binary-at : is_binary c ≡ true → (op : Binary) × (binary_code op ≡ c)
  binary-at t = go (decode c) (coded c) t
    where
      go : (k : Coded) → IsOf c k → binary_group k ≡ true → (op : Binary) × (binary_code op ≡ c)
      go (unary op) e t = absurd (true-false t refl)
      go (binary op) e t = (op, e)
      go neither e t = absurd (true-false t refl)

  -- what the test of a group says is what the rule of a section asks
  pub tested-group : (u b : Bool) → Tested (GroupIs u c) b → b ≡ group_of u c
  tested-group true true (op, e) = sym (subst (λ (x : ℕ). is_unary x ≡ true) e (unary-in op))
  tested-group false true (op, e) = sym (subst (λ (x : ℕ). is_binary x ≡ true) e (binary-in op))
  tested-group true false n = go (is_unary c) refl
    where
      go : (b : Bool) → is_unary c ≡ b → false ≡ is_unary c
      go true e = absurd (n (unary-at e))
      go false e = sym e
  tested-group false false n = go (is_binary c) refl
    where
      go : (b : Bool) → is_binary c ≡ b → false ≡ is_binary c
      go true e = absurd (n (binary-at e))
      go false e = sym e

-- ---- codes

eqb_turned : (a b : ℕ) → eqb a b ≡ eqb b a
eqb_turned a b = go (eqb b a) refl
  where
    go : (t : Bool) → eqb b a ≡ t → eqb a b ≡ eqb b a
    go true e = eq-eqb a b (sym (eqb-true b a e)) ∙ sym e
    go false e = ne_eqb a b (λ q. true-false (eq-eqb b a (sym q)) e) ∙ sym e

-- the library's search for a code is the rule's
pub any_is_in : (c : ℕ) (l : List ℕ) → list_any (λ y. eqb y c) l ≡ is_in eqb c l
any_is_in c [] = refl
any_is_in c (y ∷ l) = ap (λ (b : Bool). b || list_any (λ y. eqb y c) l) (eqb_turned y c) ∙ ap (λ (b : Bool). eqb c y || b) (any_is_in c l)

-- a code of the group that is none of those before it
abbrev pub New : (ℕ → Bool) → List ℕ → ℕ → Type 0
New group before c = (group c ≡ true) × (Memᴰ c before → ⊥)

module _ (group : ℕ → Bool) (file : List ℕ) where
  pub new-sound : Sound (code group) (New group) one file
  new-sound before at c next e =
      let b = byte-sound (λ c. group c && bool.not (is_in eqb c before)) file at e in
      let t = and_second (group c) (bool.not (is_in eqb c before)) b.0 in
      ((and_first (group c) (bool.not (is_in eqb c before)) b.0, not_in eqb c (λ y p. eq-eqb c y p) before (not-true (is_in eqb c before) t)), b.1)

  pub new-complete : Complete (code group) (New group) one file
  new-complete before at c next f s =
      let n = in-not eqb c (λ y p. eqb-true c y p) before f.1 in
      byte-complete (λ c. group c && bool.not (is_in eqb c before)) file at c (and_both (group c) (bool.not (is_in eqb c before)) f.0 (ap bool.not n)) s
