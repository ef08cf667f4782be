-- The candidates of a size in the order of document 01, "The walk", by places and codes alone: no matrix, no kept formula.
-- Assumes nothing.
use Rattle.std.specs.Prelude.{Bool, true, false, cond, List, [], ◌∷◌, ◌++◌, map, ℕ, zero, suc, ◌+◌, ◌-◌, length, get_or, eqb, ltb}
use Rattle.walk.specs.Walk.{left_sizes}
use Rattle.rules.specs.Lists.{each, count}
use Rattle.split.specs.Split.{Cand, cand, range, commuting}

-- what decides the candidates of a size: the size; the first place of each size, where the places of size t go from starts[t] to before
-- starts[t + 1]; the number of propositions and the constants' mark; the operators' codes in their order
pub record Layer : Type 0 where
  pub size : ℕ
  pub starts : List ℕ
  pub propositions : ℕ
  pub constants : ℕ
  pub unary : List ℕ
  pub binary : List ℕ

abbrev pub layer_of : ℕ → List ℕ → ℕ → ℕ → List ℕ → List ℕ → Layer
layer_of s starts m constants unary binary = record { size = s; starts = starts; propositions = m; constants = constants; unary = unary; binary = binary }

-- "Size 1: propositions in order, then, if constants are asked for, false, then true"
abbrev pub constant_cands : Bool → List Cand
constant_cands true = cand 17 0 0 ∷ (cand 18 0 0 ∷ [])
constant_cands false = []

unfoldable pub leaf_cands : ℕ → ℕ → List Cand
leaf_cands m constants = map (λ p. cand 16 p 0) (count 0 m) ++ constant_cands (eqb constants 1)

-- "op(l, q), and if it doesn't commute, op(q, l)"
unfoldable pub order_cands : ℕ → ℕ → ℕ → List Cand
order_cands l q c = cond (commuting c) (cand c l q ∷ []) (cand c l q ∷ (cand c q l ∷ []))

-- the first place of size t
abbrev pub first_place : List ℕ → ℕ → ℕ
first_place starts t = get_or starts t 0

module _ (g : Layer) where
  -- the places of the kept formulas of size t, "in kept order"
  abbrev pub places_of_size : ℕ → List ℕ
  places_of_size t = range (first_place g.starts t) (first_place g.starts (t + 1))

  -- "the unary operators in the given order"
  abbrev pub unary_cands : ℕ → List Cand
  unary_cands p = map (λ c. cand c p 0) g.unary

  -- "each kept l of size i, for each kept q of size s-1-i, for each binary operator in the given order"
  unfoldable pub pair_cands : ℕ → List Cand
  pair_cands i =
      each (places_of_size i) λ l.
      each (places_of_size (g.size - 1 - i)) λ q.
      each g.binary (order_cands l q)

  -- "Size s from 2 to B: first every kept formula of size s-1 in kept order, and for each the unary operators in the given order. Then i from 1
  -- while i < ceil(s/2): .."
  abbrev pub cands_of_size : ℕ → List Cand
  cands_of_size zero = []
  cands_of_size (suc zero) = leaf_cands g.propositions g.constants
  cands_of_size (suc (suc m)) = each (places_of_size (suc m)) unary_cands ++ each (left_sizes (suc (suc m))) pair_cands

  -- THE CANDIDATES OF THE SIZE, none where `starts` does not reach it
  unfoldable pub candidates : List Cand
  candidates = cond (ltb g.size (length g.starts)) (cands_of_size g.size) []
