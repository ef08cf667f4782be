-- The end of the list that a state goes through is that of order's cursors.
-- Assumes nothing.
use mathlib.Core.Path.{◌≡◌, refl, ◌∙◌}
use mathlib.Core.Bool.{Bool, true, false, cond}
use mathlib.Core.List.{List, [], map, ◌++◌}
use Prim.Native.Nat.{ℕ, zero, suc, ◌+◌}
use native.Mathlib.Omega.{arith}
use lib.ListN.{length, length-append}
use lib.Dec.{eqb}
use borrow.Author.Tests.{ne_eqb}
use Rattle.rules.specs.Lists.{count}
use Rattle.walk.specs.Input.{Input}
use Rattle.split.specs.Split.{cand}
use Rattle.order.specs.Size.{leaf_cands, constant_cands}
use Rattle.order.specs.Ahead.{split_codes}
use Rattle.order.specs.Steps.{list_long}
use Rattle.starts.proofs.Numbers.{length-count}
use Rattle.rows.proofs.Matrices.{length-map}
use Rattle.state.specs.Row.{list_end}
use Rattle.turns.specs.Standing.{layer_at}

leaves-long : (m c : ℕ) → length (leaf_cands m c) ≡ cond (eqb c 1) (m + 2) m
unfolding leaf_cands
leaves-long m c = go (eqb c 1)
  where
    many : length (map (λ p. cand 16 p 0) (count 0 m)) ≡ m
    many = length-map (λ p. cand 16 p 0) (count 0 m) ∙ length-count 0 m

    go : (b : Bool) → length (map (λ p. cand 16 p 0) (count 0 m) ++ constant_cands b) ≡ cond b (m + 2) m
    go true = omega (arith, length-append (map (λ p. cand 16 p 0) (count 0 m)) (constant_cands true), many)
    go false = omega (arith, length-append (map (λ p. cand 16 p 0) (count 0 m)) (constant_cands false), many)

codes-long : (unary binary : List ℕ) (split : ℕ) → length (split_codes unary binary split) ≡ cond (eqb split 0) (length unary) (length binary)
codes-long unary binary zero = refl
codes-long unary binary (suc split) = rw (ne_eqb (suc split) 0 (λ e. omega arith))

pub list-end : (i : Input) (s split : ℕ)
    → list_end i.recording.propositions i.constants (length i.unary) (length i.binary) s split ≡ list_long (layer_at i s []) split
list-end i s split = rw (leaves-long i.recording.propositions i.constants, codes-long i.unary i.binary split)
