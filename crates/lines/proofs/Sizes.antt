-- Each formula that the walk keeps is within the bound.
-- Assumes nothing.
use mathlib.Core.Path.{◌≡◌, refl, subst}
use mathlib.Core.Logic.{⊎_elim}
use mathlib.Core.List.Memᴰ
use mathlib.Core.List.{List}
use Prim.Native.Nat.{ℕ, zero, suc, ◌≤◌}
use native.Mathlib.Omega.{arith}
use Rattle.rules.specs.Lists.{◌∈◌}
use Rattle.walk.specs.Walk.{Offer, Candidate, WalkState, going, ended, kept, finish, layer, through, after, walk}
use Rattle.walk.proofs.Layers.{layer_fits}
use Rattle.walk.proofs.Pass.{grows_from, grown}
use Rattle.walk.proofs.Trees.{Lawful}

module _ {L U B Mat : Type 0} (O : Offer L U B Mat) (law : Lawful O) (C : ℕ) where
  after_small : (b : ℕ) (c : Candidate Mat) → c ∈ kept (after O C b) → c.node.size ≤ b
  unfolding after through
  after_small zero c m = absurd (Memᴰ.not-nil m)
  after_small (suc b) c m =
      ⊎_elim (λ h. let s = after_small b c h in omega arith) (λ h. let s = (layer_fits O (suc b) (kept (after O C b)) c h.0).1 in omega arith)
      (grows_from O (grown O C law (layer O (suc b) (kept (after O C b))) (after O C b)) c m)

  finish-same : (st : WalkState Mat) → kept (finish st) ≡ kept st
  unfolding finish
  finish-same (going k n) = refl
  finish-same (ended e k n) = refl

  pub walk-small : (b : ℕ) (c : Candidate Mat) → c ∈ kept (walk O C b) → c.node.size ≤ b
  unfolding walk
  walk-small b c m = after_small b c (subst (λ (k : List (Candidate Mat)). c ∈ k) (finish-same (after O C b)) m)
