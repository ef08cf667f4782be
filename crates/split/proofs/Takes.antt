-- Steps over whatever is ahead: an end, a step taken, and the same from another cursor.
-- Assumes nothing.
use mathlib.Core.Path.{◌≡◌, sym, ap, ◌∙◌}
use mathlib.Core.Bool.{false}
use mathlib.Core.List.{List, []}
use Prim.Native.Nat.{ℕ, ◌<◌}
use native.Mathlib.Omega.{arith}
use lib.ListN.{length}
use Rattle.std.specs.Prelude.{Option}
use Rattle.std.specs.Option.{is_some}
use Rattle.std.proofs.lemmas.Bool.{true≢false}
use Rattle.split.specs.declared.Cursor.{Cursor}
use Rattle.split.specs.declared.Part.{Part}
use Rattle.split.specs.declared.Candidate.{Candidate}
use Rattle.split.specs.Split.{Cand, told, cand_in, after_in, Takes, InPart}
use Rattle.split.specs.Inner.{stand}
use Rattle.split.proofs.Splits.{part-stands}

module _ {F : Cursor → List Cursor} {cand : Cursor → Cand} {after : Cursor → Cursor} {P : Cursor → Type 0} {at : Cursor} where
  -- of what tells none, none is ahead
  pub ended : {step : Option Candidate} → is_some step ≡ false → Takes F cand after P at step → F at ≡ []
  ended e (Takes.ends f d) = f
  ended e (Takes.takes here f d p) = absurd (true≢false (sym (ap is_some d) ∙ e))

  -- as much is ahead of another cursor
  pub carried : {other : Cursor} {step : Option Candidate} → F at ≡ F other → Takes F cand after P other step → Takes F cand after P at step
  carried e (Takes.ends f d) = Takes.ends (e ∙ f) d
  carried e (Takes.takes here f d p) = Takes.takes here (e ∙ f) d p

  -- a step is fixed by what is ahead
  pub takes-unique : {step other : Option Candidate} → Takes F cand after P at step → Takes F cand after P at other → step ≡ other
  takes-unique (Takes.ends e d) (Takes.ends e' d') = cc
  takes-unique (Takes.ends e d) (Takes.takes h e' d' p') = let z : ◌≡◌ {A = ℕ} 0 1 = cc in absurd (omega arith)
  takes-unique (Takes.takes h e d p) (Takes.ends e' d') = let z : ◌≡◌ {A = ℕ} 0 1 = cc in absurd (omega arith)
  takes-unique (Takes.takes h e d p) (Takes.takes h' e' d' p') =
      let q : h ≡ h' = cc in
      d ∙ ap (λ (x : Cursor). told (cand x) (after x)) q ∙ sym d'

-- a cursor whose numbers are in range stands on a candidate
pub part-takes : (codes : List ℕ) (part : Part) (at : Cursor) {step : Option Candidate} → at.left < part.end → at.right < part.to → at.operator < length codes
    → step ≡ told (cand_in codes (stand codes at)) (after_in codes (stand codes at)) → InPart codes part at step
part-takes codes part at h k m e =
    Takes.takes (stand codes at) (part-stands codes part.end part.from part.to at h k m) e
    record { split-is = mathlib.Core.Path.refl; left_in = h; right-in = k; operator-in = m; once = λ d. rw d }
