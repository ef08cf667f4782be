-- Codes that pass the checks are few.
-- Assumes nothing.
use mathlib.Core.Path.{◌≡◌, sym, ◌∙◌, subst}
use mathlib.Core.List.{List, [], ◌∷◌, ◌++◌, Memᴰ}
use Prim.Native.Nat.{ℕ, suc, ◌+◌, ◌≤◌, ◌<◌}
use native.Mathlib.Omega.{arith}
use lib.ListN.{length, get_or, length-append, get_or-append}
use lib.Seq.{get_or-append_seam, append_snoc}
use Rattle.sequence.proofs.Groups.{unary-below, binary-between}
use Rattle.rules.specs.Lists.{Each}
use Rattle.session.proofs.Few.{few}
use Rattle.walk.specs.Input.{Input, Passes}
use Rattle.checks.proofs.Codes.{at_position}
use Rattle.checks.proofs.Passing.{at_in, once-at}
use Rattle.turns.specs.Costs.{operators}

-- no number twice in a range of n: at most n
abbrev fit : ℕ → ℕ → List ℕ → ℕ → Type 0
fit lo n before c = (lo ≤ c) × (c < lo + n) × (Memᴰ c before → ⊥)

each-fit : (lo n : ℕ) (before l : List ℕ) → ((o : ℕ) → o < length l → (lo ≤ get_or l o 0) × (get_or l o 0 < lo + n))
    → ((p q : ℕ) → p < q → q < length (before ++ l) → get_or (before ++ l) p 0 ≡ get_or (before ++ l) q 0 → ⊥) → Each (fit lo n) before l
unfolding Each
each-fit lo n before [] r f = tt
each-fit lo n before (c ∷ l) r f = (
  (
    (r 0 (omega arith)).0,
    (r 0 (omega arith)).1,
    λ m. let (p, lt, e) = at_position before c 0 m in
        f p (length before) lt (omega (arith, length-append before (c ∷ l)))
        (get_or-append before (c ∷ l) 0 p lt ∙ e ∙ sym (get_or-append_seam before c l 0)),
  ),
  each-fit lo n (before ++ (c ∷ [])) l (λ o h. r (suc o) (omega arith))
      (subst (λ (x : List ℕ). (p q : ℕ) → p < q → q < length x → get_or x p 0 ≡ get_or x q 0 → ⊥) (sym (append_snoc before c l)) f),
)

at_most : (lo n : ℕ) (l : List ℕ) → ((o : ℕ) → o < length l → (lo ≤ get_or l o 0) × (get_or l o 0 < lo + n))
    → ((p q : ℕ) → p < q → q < length l → get_or l p 0 ≡ get_or l q 0 → ⊥) → length l ≤ n
at_most lo n l r f = few lo n (fit lo n) (λ b c w. w.0) (λ b c w. w.1) (λ b c w. w.2) l (each-fit lo n [] l r f)

-- so few operators of a group are offered
module _ {i : Input} (ok : Passes i) where
  unary-at : (o : ℕ) → o < length i.unary → (0 ≤ get_or i.unary o 0) × (get_or i.unary o 0 < 5)
  unary-at o h = let g = ok.unary-in _ (at_in i.unary o h) in (omega arith, omega (arith, unary-below g.0, g.1))

  pub unary-few : length i.unary ≤ operators
  unary-few = omega (arith, at_most 0 5 i.unary unary-at (once-at i.unary ok.unary-once))

  binary-at : (o : ℕ) → o < length i.binary → (5 ≤ get_or i.binary o 0) × (get_or i.binary o 0 < 11)
  binary-at o h = let g = ok.binary-in _ (at_in i.binary o h) in (omega (arith, (binary-between g.0).0, g.1), omega (arith, (binary-between g.0).1, g.1))

  pub binary-few : length i.binary ≤ operators
  binary-few = at_most 5 6 i.binary binary-at (once-at i.binary ok.binary-once)
