-- The operators over the mask m of a session's snapshots, and what the methods of `CharSeq` answer, for any words. On a session's mask and well-formed
-- words these are the readings at its length (`unary-cut`, `binary-cut` in proofs/Masked.antt).
-- Assumes nothing.
use Rattle.std.specs.Prelude.{◌≡◌, ℕ, ◌<◌}
use Rattle.words.specs.Ltlf.{Reading, Or, And, StrongNext}
use Rattle.words.specs.Masked.{NotOn, ImpliesOn, EquivOn, WeakNextOn, FinallyOn, GloballyOn, UntilOn, ReleaseOn}
use Rattle.words.specs.Word.{width, At, Means}
use Rattle.sequence.specs.declared.CharSeq.{CharSeq}
use Rattle.sequence.specs.Sequence.{seq}
use Rattle.sequence.specs.Operators.{Unary, not, weak_next, strong_next, finally, globally, Binary, or, and, until, release, implies, equiv, unary_code, binary_code}

abbrev pub unary_masked : Unary → Reading → Reading → Reading
unary_masked not m f = NotOn m f
unary_masked weak_next m f = WeakNextOn m f
unary_masked strong_next m f = StrongNext width f
unary_masked finally m f = FinallyOn m f
unary_masked globally m f = GloballyOn m f

abbrev pub binary_masked : Binary → Reading → Reading → Reading → Reading
binary_masked or m f g = Or f g
binary_masked and m f g = And f g
binary_masked until m f g = UntilOn m f g
binary_masked release m f g = ReleaseOn m f g
binary_masked implies m f g = ImpliesOn m f g
binary_masked equiv m f g = EquivOn m f g

-- the snapshots below a length, of any length: those of its mask
abbrev pub Below : ℕ → Reading
Below n i = i < n

-- what the operators' methods answer, of any words: a sequence of the left one's length, whose word is the operator's over the snapshots below it
abbrev pub UnaryOn : Unary → CharSeq → CharSeq → Type 0
UnaryOn op s r = (r.length ≡ s.length) × Means width r.values (unary_masked op (Below s.length) (At s.values))

abbrev pub BinaryOn : Binary → CharSeq → CharSeq → CharSeq → Type 0
BinaryOn op s t r = (r.length ≡ s.length) × Means width r.values (binary_masked op (Below s.length) (At s.values) (At t.values))

-- and by code; a code of no operator of the group has no snapshot
pub data UnaryBy (code : ℕ) (s r : CharSeq) : Type 0 where
  operator : (op : Unary) → unary_code op ≡ code → UnaryOn op s r → UnaryBy code s r
  nothing : ((op : Unary) → unary_code op ≡ code → ⊥) → r ≡ seq s.length 0 → UnaryBy code s r

pub data BinaryBy (code : ℕ) (s t r : CharSeq) : Type 0 where
  operator : (op : Binary) → binary_code op ≡ code → BinaryOn op s t r → BinaryBy code s t r
  nothing : ((op : Binary) → binary_code op ≡ code → ⊥) → r ≡ seq s.length 0 → BinaryBy code s t r
