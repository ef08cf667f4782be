-- Each operator as a computation on numbers, so that examples compute: the word of an operator at a length means its reading there.
-- Assumes nothing.
use Prim.Native.Nat.{ℕ, ◌-◌, ◌/◌, ◌^◌}
use lib.Bits.{bit_and, bit_or, bit_xor}
use Rattle.words.specs.Word.{width, At, Wf, WfComputed, Means}
use Rattle.words.proofs.At.{wf-word}
use Rattle.words.proofs.Operators.{inverse, finally_word, until_word, places-means, or-means, and-means, not-means, implies-means, equiv-means, strong-next-means, weak-next-means}
use Rattle.words.proofs.Operators.{finally-means, until-means, globally-means, release-means, wide}
use Rattle.sequence.specs.Operators.{Unary, Binary, not, weak_next, strong_next, finally, globally, or, and, until, release, implies, equiv, unary_reading, binary_reading}
use Rattle.sequence.specs.Masked.{unary_masked, binary_masked}
use Rattle.sequence.proofs.Masked.{mask-of, unary-cut, binary-cut}

-- `!` on the places over a mask
abbrev not_word : ℕ → ℕ → ℕ
not_word m x = bit_and (inverse x) (bit_or m 1)

abbrev unary_word : Unary → ℕ → ℕ → ℕ
unary_word not m x = not_word m x
unary_word weak_next m x = bit_and (bit_or (inverse (m / 2 ^ 1)) (x / 2 ^ 1)) (bit_or m 1)
unary_word strong_next m x = x / 2 ^ 1
unary_word finally m x = finally_word (bit_and x m)
unary_word globally m x = not_word m (finally_word (bit_and (not_word m x) m))

abbrev binary_word : Binary → ℕ → ℕ → ℕ → ℕ
binary_word or m x y = bit_or x y
binary_word and m x y = bit_and x y
binary_word until m x y = until_word x (bit_and y m)
binary_word release m x y = not_word m (until_word (not_word m x) (bit_and (not_word m y) m))
binary_word implies m x y = bit_and (bit_or (inverse x) y) (bit_or m 1)
binary_word equiv m x y = bit_and (inverse (bit_xor x y)) (bit_or m 1)

unary-masked : (op : Unary) {m x : ℕ} → Wf width m → Wf width x → Means width (unary_word op m x) (unary_masked op (At m) (At x))
unary-masked not v w = not-means w (places-means v)
unary-masked weak_next v w = weak-next-means w v (places-means v)
unary-masked strong_next v w = strong-next-means w
unary-masked finally v w = finally-means w v
unary-masked globally {m} {x} v w =
    let k = places-means v in
    let a = not-means w k in
    let b = finally-means a.wf v in
    globally-means x m a b (not-means b.wf k)

binary-masked : (op : Binary) {m x y : ℕ} → Wf width m → Wf width x → Wf width y → Means width (binary_word op m x y) (binary_masked op (At m) (At x) (At y))
binary-masked or v w u = or-means w u
binary-masked and v w u = and-means w u
binary-masked until v w u = until-means w u v
binary-masked release {m} {x} {y} v w u =
    let k = places-means v in
    let a = not-means w k in
    let b = not-means u k in
    let c = until-means a.wf b.wf v in
    release-means x y m a b c (not-means c.wf k)
binary-masked implies v w u = implies-means w u (places-means v)
binary-masked equiv v w u = equiv-means w u (places-means v)

-- at a length: over the mask of its snapshots
abbrev pub unary_at : Unary → ℕ → ℕ → ℕ
unary_at op n x = unary_word op (2 ^ n - 1) x

abbrev pub binary_at : Binary → ℕ → ℕ → ℕ → ℕ
binary_at op n x y = binary_word op (2 ^ n - 1) x y

module _ {n x : ℕ} (w : WfComputed n x) where
  pub unary-at-means : (op : Unary) → Means n (unary_at op n x) (unary_reading op n (At x))
  unary-at-means op = let k = mask-of w in unary-cut op k w (unary-masked op k.wf (wide (wf-word w)))

  pub binary-at-means : {y : ℕ} → WfComputed n y → (op : Binary) → Means n (binary_at op n x y) (binary_reading op n (At x) (At y))
  binary-at-means u op =
      let k = mask-of w in
      binary-cut op k w u (binary-masked op k.wf (wide (wf-word w)) (wide (wf-word u)))
