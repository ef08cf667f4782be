-- The leaves from a position on.
-- Assumes nothing.
use mathlib.Core.Path.{◌≡◌, refl, sym, ap, ◌∙◌}
use mathlib.Core.Bool.{Bool, true, false}
use mathlib.Core.Logic.{inl, inr}
use mathlib.Core.List.{List, [], map}
use Prim.Native.Nat.{ℕ, suc, ◌+◌, ◌≤◌, ◌<◌}
use native.Mathlib.Omega.{arith}
use Rattle.std.specs.Prelude.{Option, None}
use native.Mathlib.Decide.{dec_le}
use lib.ListN.{length, get_or, length-append, length-map, get_or-append}
use lib.Seq.{get_or-append-add}
use lib.Dec.{eqb}
use borrow.Author.Tests.{eq-eqb, ne_eqb, eqb-true, eqb-false}
use Rattle.rules.specs.Lists.{count}
use Rattle.starts.proofs.Numbers.{length-count, get_d-map-count}
use Rattle.split.specs.declared.Cursor.{Cursor}
use Rattle.split.specs.declared.Candidate.{Candidate}
use Rattle.split.specs.Split.{Cand, cand, told, Takes}
use Rattle.order.specs.Size.{Layer, constant_cands, leaf_cands}
use Rattle.order.specs.Ahead.{leaf_cursor, leaves_ahead, leaf_at, after_leaf}
use Rattle.order.specs.Steps.{Safe}
use Rattle.order.specs.Inner.{LeafAhead, InLeaves}
use Rattle.split.proofs.Loops.{range_cons, range-nil}

module _ (m constants : ℕ) where
  abbrev named : List Cand
  named = map (λ p. cand 16 p 0) (count 0 m)

  length-named : length named ≡ m
  length-named = simp length-map (length-count 0 m)

  proposition-at : (o : ℕ) → o < m → get_or (leaf_cands m constants) o (cand 0 0 0) ≡ cand 16 o 0
  unfolding leaf_cands
  proposition-at o h =
      get_or-append named (constant_cands (eqb constants 1)) (cand 0 0 0) o (omega (arith, length-named))
      ∙ get_d-map-count (λ p. cand 16 p 0) 0 m o (cand 0 0 0) h
      ∙ ap (λ (p : ℕ). cand 16 p 0) (let e : 0 + o ≡ o = omega arith in e)

  constant-at : (o n : ℕ) → constants ≡ 1 → o ≡ m + n → get_or (leaf_cands m constants) o (cand 0 0 0) ≡ get_or (constant_cands true) n (cand 0 0 0)
  unfolding leaf_cands
  constant-at o n c e =
      let d : o ≡ length named + n = omega (arith, length-named) in
      rw (eq-eqb constants 1 c, d) (get_or-append-add named (constant_cands true) n (cand 0 0 0))

  -- how many there are
  few-leaves : (constants ≡ 1 → ⊥) → length (leaf_cands m constants) ≡ m
  unfolding leaf_cands
  few-leaves h = length-append named (constant_cands (eqb constants 1)) ∙ rw (ne_eqb constants 1 h) (omega (arith, length-named))

  more-leaves : constants ≡ 1 → length (leaf_cands m constants) ≡ m + 2
  unfolding leaf_cands
  more-leaves h = length-append named (constant_cands (eqb constants 1)) ∙ rw (eq-eqb constants 1 h) (omega (arith, length-named))

  some-leaves : m ≤ length (leaf_cands m constants)
  unfolding leaf_cands
  some-leaves = omega (arith, length-append named (constant_cands (eqb constants 1)), length-named)

  pub leaves-few : length (leaf_cands m constants) ≤ m + 2
  unfolding leaf_cands
  leaves-few = omega (arith, length-append named (constant_cands (eqb constants 1)), length-named, go (eqb constants 1))
    where
      go : (b : Bool) → length (constant_cands b) ≤ 2
      go true = omega arith
      go false = omega arith

  module _ (at : Cursor) where
    out : length (leaf_cands m constants) ≤ at.operator → leaves_ahead m constants at ≡ []
    unfolding leaves_ahead
    out h = rw (range-nil at.operator (length (leaf_cands m constants)) h)

    leaf-takes : {step : Option Candidate} → at.operator < length (leaf_cands m constants) → step ≡ told (leaf_at m constants (leaf_cursor at.operator)) (after_leaf at)
        → InLeaves m constants at step
    unfolding leaves_ahead
    leaf-takes h e = Takes.takes (leaf_cursor at.operator) (rw (range_cons at.operator (length (leaf_cands m constants)) h)) e (record { operator-in = h })

    pub leaf-proposition : {step : Option Candidate} → at.operator < m → step ≡ told (cand 16 at.operator 0) (after_leaf at) → InLeaves m constants at step
    leaf-proposition h e = leaf-takes (omega (arith, some-leaves)) (e ∙ ap (λ (c : Cand). told c (after_leaf at)) (sym (proposition-at at.operator h)))

    pub leaf-none : (constants ≡ 1 → ⊥) → m ≤ at.operator → InLeaves m constants at None
    leaf-none h k = Takes.ends (out (omega (arith, few-leaves h))) refl

    pub leaf-past : constants ≡ 1 → m + 2 ≤ at.operator → InLeaves m constants at None
    leaf-past h k = Takes.ends (out (omega (arith, more-leaves h))) refl

    pub leaf-constant : {step : Option Candidate} (n : ℕ) → constants ≡ 1 → at.operator ≡ m + n → n < 2
        → step ≡ told (get_or (constant_cands true) n (cand 0 0 0)) (after_leaf at) → InLeaves m constants at step
    leaf-constant n h k l e =
        leaf-takes (omega (arith, more-leaves h)) (e ∙ ap (λ (c : Cand). told c (after_leaf at)) (sym (constant-at at.operator n h k)))

-- what holds of every leaf
module _ (g : Layer) where
  safe-leaf : (o : ℕ) → o < length (leaf_cands g.propositions g.constants) → Safe g (get_or (leaf_cands g.propositions g.constants) o (cand 0 0 0))
  safe-leaf o w = elim (dec_le (suc o) g.propositions) [
    | yes h ↦ rw (proposition-at g.propositions g.constants o h) (Safe.proposition refl h refl)
    | no h ↦ go (eqb g.constants 1) refl (omega arith)
  ]
    where
      go : (b : Bool) → eqb g.constants 1 ≡ b → g.propositions ≤ o → Safe g (get_or (leaf_cands g.propositions g.constants) o (cand 0 0 0))
      go false e h = absurd (omega (arith, few-leaves g.propositions g.constants (eqb-false g.constants 1 e)))
      go true e h =
          let c = eqb-true g.constants 1 e in
          let l = more-leaves g.propositions g.constants c in
          elim (dec_le (suc g.propositions) o) [
            | yes k ↦ rw (constant-at g.propositions g.constants o 1 c (omega arith)) (Safe.constant (inr refl) refl refl)
            | no k ↦ rw (constant-at g.propositions g.constants o 0 c (omega arith)) (Safe.constant (inl refl) refl refl)
          ]

  pub leaf-safe : (here : Cursor) → LeafAhead g.propositions g.constants here → Safe g (leaf_at g.propositions g.constants here)
  leaf-safe here p = safe-leaf here.operator p.operator-in
