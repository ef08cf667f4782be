-- What the tests of nodes, one after the other, say of the list.
-- Assumes nothing.
use mathlib.Core.Path.{◌≡◌, sym, subst}
use mathlib.Core.Logic.{⊎_elim}
use mathlib.Core.Bool.{Bool, true, false, ◌&&◌, true≢false}
use mathlib.Core.List.{List, [], ◌∷◌}
use Prim.Native.Nat.{ℕ, ◌+◌, ◌≤◌, ◌<◌}
use native.Mathlib.Nat.{eq-or-lt_of_le}
use native.Mathlib.Omega.{arith}
use lib.ListN.{length}
use Rattle.rules.specs.Refusals.{Decided}
use Rattle.rules.proofs.Refusals.{decided-given, decided-not}
use Rattle.formula.specs.Nodes.{Node, node_at}
use Rattle.rules.specs.Limits.{most_room}
use Rattle.formula.specs.Rule.{Fault, broken_list}
use Rattle.formula.specs.Rule.Broken.{too_many, listed, rooted}
use Rattle.formula.specs.Faultless.{Fits, AllFit}
use Rattle.formula.specs.Inner.{NodeJudged, AllJudged}
use Rattle.formula.proofs.Faults.{fits_whole}

module _ (m : ℕ) (k : List Node) where
  -- one node more
  pub fit-more : {i : ℕ} {n : Node} {r : Bool} → AllFit m k i → n ≡ node_at k i → NodeJudged m k i n r → r ≡ true → AllFit m k (i + 1)
  fit-more {i} {n} {r} all e j q p h =
      let f : Fits m k i n = subst (NodeJudged m k i n) q j in
      let g : Fits m k i (node_at k i) = subst (Fits m k i) e f in
      ⊎_elim (λ s. subst (λ (x : ℕ). Fits m k x (node_at k x)) (sym s) g) (λ s. all p s) (eq-or-lt_of_le {n = p} {m = i} (omega arith))

  pub fault-at : {i : ℕ} {n : Node} {r : Bool} → n ≡ node_at k i → NodeJudged m k i n r → r ≡ false → Fault m k i (node_at k i)
  fault-at {i} {n} {r} e j q = let f : Fault m k i n = subst (NodeJudged m k i n) q j in subst (Fault m k i) e f

  module _ (root : Node) {n : ℕ} (e : length k ≡ n) where
    pub too-many : most_room < n → Decided (broken_list m k root ∷ []) 9
    too-many h = decided-given (broken_list m k root) (too_many (omega arith))

    pub one-fails : (a b : Bool) → AllJudged m k n a → NodeJudged m k n root b → (a && b) ≡ false → Decided (broken_list m k root ∷ []) 9
    one-fails false b j i q = decided-given (broken_list m k root) (listed j.0 (omega (arith, j.1)) j.2)
    one-fails true false j i q = decided-given (broken_list m k root) (rooted (subst (λ (x : ℕ). Fault m k x root) (sym e) i))
    one-fails true true j i q = absurd (true≢false q)

    pub all_pass : (a b : Bool) → n ≤ most_room → AllJudged m k n a → NodeJudged m k n root b → (a && b) ≡ true → Decided (broken_list m k root ∷ []) 0
    all_pass true true h j i q =
        decided-not (broken_list m k root) (fits_whole m k root (omega arith) (subst (AllFit m k) (sym e) j) (subst (λ (x : ℕ). Fits m k x root) (sym e) i))
    all_pass false b h j i q = absurd (true≢false (sym q))
    all_pass true false h j i q = absurd (true≢false (sym q))
