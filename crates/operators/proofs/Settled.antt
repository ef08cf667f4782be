-- P1 to P10: one test over the list, which computes, and a law that turns the test into the claim at each example.
-- Assumes nothing.
use mathlib.Core.Path.{refl, subst}
use mathlib.Core.Bool.{Bool, true, false}
use mathlib.Core.List.{List, [], ◌∷◌}
use Prim.Native.Nat.{ℕ, ◌^◌}
use lib.Dec.{T, leb, ltb, eqb, leb→le, ltb→lt, eqb→eq}
use Rattle.words.specs.Word.{width, At, WfComputed, places, Means}
use Rattle.words.proofs.At.{lt-wf}
use Rattle.sequence.specs.Operators.{unary_reading, binary_reading}
use Rattle.sequence.specs.Sequence.{seq}
use Rattle.operators.specs.Settled.{Example, one, two, Claim, All, settled}
use Rattle.sequence.proofs.Answers.{unary-passes, binary-passes}
use Rattle.sequence.proofs.Computed.{unary_at, binary_at, unary-at-means, binary-at-means}

abbrev both : Bool → Bool → Bool
both true b = b
both false b = false

-- a length that is allowed, words below it, and the computed word
abbrev right : Example → Bool
right (one op n x r) = both (both (leb (places n) width) (ltb x (2 ^ places n))) (eqb (unary_at op n x) r)
right (two op n x y r) = both (both (both (leb (places n) width) (ltb x (2 ^ places n))) (ltb y (2 ^ places n))) (eqb (binary_at op n x y) r)

abbrev every : List Example → Bool
every [] = true
every (e ∷ es) = both (right e) (every es)

left-true : (a b : Bool) → T (both a b) → T a
left-true true b t = tt
left-true false b t = t

right-true : (a b : Bool) → T (both a b) → T b
right-true true b t = t
right-true false b t = absurd t

claim : (e : Example) → T (right e) → Claim e
claim (one op n x r) t =
    let h = left-true (both (leb (places n) width) (ltb x (2 ^ places n))) _ t in
    let w : WfComputed n x = lt-wf (leb→le (places n) width (left-true (leb (places n) width) _ h)) (ltb→lt x (2 ^ places n) (right-true (leb (places n) width) _ h)) in
    let e = eqb→eq (unary_at op n x) r (right-true (both (leb (places n) width) (ltb x (2 ^ places n))) _ t) in
    (unary-passes op (seq n x) w, (op, refl, record { length = refl; means = subst (λ (k : ℕ). Means n k (unary_reading op n (At x))) e (unary-at-means w op) }))
claim (two op n x y r) t =
    let h = left-true (both (both (leb (places n) width) (ltb x (2 ^ places n))) (ltb y (2 ^ places n))) _ t in
    let g = left-true (both (leb (places n) width) (ltb x (2 ^ places n))) _ h in
    let s = leb→le (places n) width (left-true (leb (places n) width) _ g) in
    let w : WfComputed n x = lt-wf s (ltb→lt x (2 ^ places n) (right-true (leb (places n) width) _ g)) in
    let u : WfComputed n y = lt-wf s (ltb→lt y (2 ^ places n) (right-true (both (leb (places n) width) (ltb x (2 ^ places n))) _ h)) in
    let e = eqb→eq (binary_at op n x y) r (right-true (both (both (leb (places n) width) (ltb x (2 ^ places n))) (ltb y (2 ^ places n))) _ t) in
    (binary-passes op (seq n x) (seq n y) w u refl, (op, refl, record { length = refl; means = subst (λ (k : ℕ). Means n k (binary_reading op n (At x) (At y))) e (binary-at-means w u op) }))

all : (es : List Example) → T (every es) → All es
all [] t = tt
all (e ∷ es) t = (claim e (left-true (right e) (every es) t), all es (right-true (right e) (every es) t))

pub settled-holds : All settled
unfolding settled
settled-holds = all settled tt
