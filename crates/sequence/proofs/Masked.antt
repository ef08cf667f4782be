-- A session's mask, each operator on a bare word cut to the session's length, and the methods of `CharSeq`: one law over the operator each.
-- Assumes nothing.
use mathlib.Core.Path.{◌≡◌, refl, ◌∙◌}
use mathlib.Core.Logic.{inl, inr, ⊎_elim}
use Prim.Native.Nat.{ℕ, ◌+◌, ◌-◌, ◌*◌, ◌%◌, ◌^◌, ◌≤◌, ◌<◌}
use native.Mathlib.Nat.{lt_of_not-le, lt_of_lt_of_le}
use native.Mathlib.Omega.{arith}
use lib.Pow.{ones_lt, pow_mono, shl_exact}
use Rattle.words.specs.Ltlf.{Reading, Not, Implies, Equiv}
use Rattle.words.specs.Masked.{PlacesOn}
use Rattle.words.specs.Word.{width, At, WfComputed, Means}
use Rattle.words.proofs.Bits.{bit-ones, bit_high}
use Rattle.words.proofs.At.{lt-wf}
use Rattle.words.proofs.Lengths.{Mask, masked-cut, weak-next-cut, globally-cut, release-cut, strong-next-cut, finally-cut, or-cut, and_cut, until-cut}
use Rattle.sequence.specs.Operators.{Unary, not, weak_next, strong_next, finally, globally, Binary, or, and, until, release, implies, equiv, unary_reading, binary_reading}
use Rattle.sequence.specs.declared.CharSeq.{CharSeq}
use Rattle.sequence.specs.Sequence.{seq, WellFormed, Denotes}
use Rattle.sequence.specs.Masked.{unary_masked, binary_masked, UnaryOn, BinaryOn}
use Rattle.sequence.proofs.Agreeing.{Agree, means-agree}

-- `1 << k`, where k is below 64
pub one_shl : (k : ℕ) → k < width → (1 * 2 ^ k) % 2 ^ width ≡ 2 ^ k
one_shl k h = shl_exact 1 k width (omega arith) (omega arith) ∙ omega arith

-- the k low bits are the places below n, where n is k or no place of the word lies between
pub ones-mask : (k n : ℕ) → k ≤ n → k ≤ width → ((i : ℕ) → i < width → i < n → i < k) → Mask n (2 ^ k - 1)
ones-mask k n l s h = record {
  wf = lt-wf (omega arith) (lt_of_lt_of_le (ones_lt k) (pow_mono s));
  holds = λ i w. (λ p. let b : i < k = lt_of_not-le λ g. omega (arith, bit_high k (2 ^ k - 1) i (ones_lt k) g) in omega arith, λ p. bit-ones k i (h i w p));
}

-- the length of a well-formed sequence
in-word : {n x : ℕ} → WfComputed n x → n ≤ width
in-word w = omega (arith, w.short)

pub unary-cut : (op : Unary) {n x m r : ℕ} → Mask n m → WfComputed n x → Means width r (unary_masked op (At m) (At x)) → Means n r (unary_reading op n (At x))
unary-cut not {x = x} k w p = masked-cut (in-word w) k (Not (At x)) p
unary-cut weak_next {x = x} k w p = weak-next-cut (in-word w) k x p
unary-cut strong_next k w p = strong-next-cut w p
unary-cut finally {x = x} k w p = finally-cut (in-word w) k x p
unary-cut globally {x = x} k w p = globally-cut (in-word w) k x p

pub binary-cut : (op : Binary) {n x y m r : ℕ} → Mask n m → WfComputed n x → WfComputed n y → Means width r (binary_masked op (At m) (At x) (At y))
    → Means n r (binary_reading op n (At x) (At y))
binary-cut or k w u p = or-cut w u p
binary-cut and k w u p = and_cut w u p
binary-cut until {x = x} {y = y} k w u p = until-cut (in-word w) k x y p
binary-cut release {x = x} {y = y} k w u p = release-cut (in-word w) k x y p
binary-cut implies {x = x} {y = y} k w u p = masked-cut (in-word w) k (Implies (At x) (At y)) p
binary-cut equiv {x = x} {y = y} k w u p = masked-cut (in-word w) k (Equiv (At x) (At y)) p

-- ---- a mask as a word, and as the snapshots below a length: an operator looks at it only within the word

module _ {m m' : Reading} (a : Agree width m m') where
  placed : (i : ℕ) → i < width → PlacesOn m i → PlacesOn m' i
  placed i h p = ⊎_elim (λ q. inl ((a i h).0 q)) inr p

  unplaced : (i : ℕ) → i < width → PlacesOn m' i → PlacesOn m i
  unplaced i h p = ⊎_elim (λ q. inl ((a i h).1 q)) inr p

  unary-on-other : (op : Unary) (f : Reading) (i : ℕ) → i < width → unary_masked op m f i → unary_masked op m' f i
  unary-on-other not f i h t = (placed i h t.0, t.1)
  unary-on-other weak_next f i h t = (placed i h t.0, λ q. t.1 (q.0, (a (i + 1) q.0).1 q.1))
  unary-on-other strong_next f i h t = t
  unary-on-other finally f i h t = (t.0, t.1, t.2, ((a t.0 t.2).0 t.3.0, t.3.1))
  unary-on-other globally f i h t = (placed i h t.0, λ j l w q. t.1 j l w ((a j w).1 q))

  binary-on-other : (op : Binary) (f g : Reading) (i : ℕ) → i < width → binary_masked op m f g i → binary_masked op m' f g i
  binary-on-other or f g i h t = t
  binary-on-other and f g i h t = t
  binary-on-other until f g i h t = (t.0, t.1, t.2, ((a t.0 t.2).0 t.3.0, t.3.1), t.4)
  binary-on-other release f g i h t =
      (placed i h t.0, λ j l w. ⊎_elim (λ p. inl (λ q. p ((a j w).1 q))) (λ p. inr (p.0, p.1, p.2, λ q. p.3 (unplaced p.0 (omega (arith, p.2)) q))) (t.1 j l w))
  binary-on-other implies f g i h t = (placed i h t.0, t.1)
  binary-on-other equiv f g i h t = (placed i h t.0, t.1)

back : {m m' : Reading} → Agree width m m' → Agree width m' m
back a i h = ((a i h).1, (a i h).0)

unary-same : {m m' : Reading} → Agree width m m' → (op : Unary) (f : Reading) → Agree width (unary_masked op m f) (unary_masked op m' f)
unary-same a op f i h = (unary-on-other a op f i h, unary-on-other (back a) op f i h)

binary-same : {m m' : Reading} → Agree width m m' → (op : Binary) (f g : Reading) → Agree width (binary_masked op m f g) (binary_masked op m' f g)
binary-same a op f g i h = (binary-on-other a op f g i h, binary-on-other (back a) op f g i h)

-- ---- the methods: an operator on the word with the length's mask, and its reading where the sequences are well formed

pub unary-on : (op : Unary) (s : CharSeq) {m r : ℕ} → Mask s.length m → Means width r (unary_masked op (At m) (At s.values)) → UnaryOn op s (seq s.length r)
unary-on op s k p = (refl, means-agree p (unary-same k.holds op (At s.values)))

pub binary-on : (op : Binary) (s t : CharSeq) {m r : ℕ} → Mask s.length m → Means width r (binary_masked op (At m) (At s.values) (At t.values))
    → BinaryOn op s t (seq s.length r)
binary-on op s t k p = (refl, means-agree p (binary-same k.holds op (At s.values) (At t.values)))

pub mask-of : {n x : ℕ} → WfComputed n x → Mask n (2 ^ n - 1)
mask-of {n} w = ones-mask n n (omega arith) (in-word w) (λ i h l. l)

pub unary-reads : (op : Unary) (s r : CharSeq) → WellFormed s → UnaryOn op s r → Denotes s.length (unary_reading op s.length (At s.values)) r
unary-reads op s r w p =
    let k = mask-of w in
    record { length = p.0; means = unary-cut op k w (means-agree p.1 (unary-same (back k.holds) op (At s.values))) }

pub binary-reads : (op : Binary) (s t r : CharSeq) → WellFormed s → WfComputed s.length t.values → BinaryOn op s t r
    → Denotes s.length (binary_reading op s.length (At s.values) (At t.values)) r
binary-reads op s t r w u p =
    let k = mask-of w in
    record { length = p.0; means = binary-cut op k w u (means-agree p.1 (binary-same (back k.holds) op (At s.values) (At t.values))) }
