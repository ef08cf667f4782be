-- Whether a walk goes on is decided by its end.
-- Assumes nothing.
use mathlib.Core.Path.{◌≡◌, refl, sym, ap, ◌∙◌}
use mathlib.Core.Bool.{false}
use Rattle.std.proofs.lemmas.Bool.{false≢true}
use Rattle.state.specs.declared.End.{End}
use Rattle.state.specs.Ends.{more_to_try}

-- an end is none at which there is more to try
pub not_more : (e : End) → (e ≡ End.More → ⊥) → more_to_try e ≡ false
not_more End.More h = absurd (h refl)
not_more End.Found h = refl
not_more End.None h = refl
not_more End.Full h = refl
not_more (End.Other n) h = refl

pub dec_more : (e : End) → Dec (e ≡ End.More)
dec_more End.More = yes refl
dec_more End.Found = no (λ h. false≢true (ap more_to_try h))
dec_more End.None = no (λ h. false≢true (ap more_to_try h))
dec_more End.Full = no (λ h. false≢true (ap more_to_try h))
dec_more (End.Other n) = no (λ h. false≢true (ap more_to_try h))

-- after an end that is none there is no more to try
pub not_on : {e : End} → more_to_try e ≡ false → e ≡ End.More → ⊥
not_on f h = false≢true (sym f ∙ ap more_to_try h)
