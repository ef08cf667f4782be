-- The operators that have to know where a session ends, over the mask m of its snapshots, at all 64 places. On a session's mask
-- and well-formed words these are the readings at its length (proofs/Lengths.antt).
-- Assumes nothing.
use Rattle.std.specs.Prelude.{◌≡◌, ◌⊎◌}
use Rattle.words.specs.Ltlf.{Reading, Not, And, Implies, Equiv, StrongNext, Finally, Globally, Until, Release}
use Rattle.words.specs.Word.{width}

-- the places of a formula's word: those of the mask, and the first, which the empty mask has too. Outside them nothing holds
abbrev pub PlacesOn : Reading → Reading
PlacesOn m i = m i ⊎ (i ≡ 0)

abbrev pub NotOn : Reading → Reading → Reading
NotOn m f = And (PlacesOn m) (Not f)

abbrev pub ImpliesOn : Reading → Reading → Reading → Reading
ImpliesOn m f g = And (PlacesOn m) (Implies f g)

abbrev pub EquivOn : Reading → Reading → Reading → Reading
EquivOn m f g = And (PlacesOn m) (Equiv f g)

-- where the mask goes on at the next place, f holds there
abbrev pub WeakNextOn : Reading → Reading → Reading
WeakNextOn m f = And (PlacesOn m) (Implies (StrongNext width m) (StrongNext width f))

-- `F`, `G`, `U` and `R` look at the snapshots of the mask alone
abbrev pub FinallyOn : Reading → Reading → Reading
FinallyOn m f = Finally width (And m f)

abbrev pub GloballyOn : Reading → Reading → Reading
GloballyOn m f = And (PlacesOn m) (Globally width (Implies m f))

abbrev pub UntilOn : Reading → Reading → Reading → Reading
UntilOn m f g = Until width f (And m g)

abbrev pub ReleaseOn : Reading → Reading → Reading → Reading
ReleaseOn m f g = And (PlacesOn m) (Release width (Implies (PlacesOn m) f) (Implies m g))
