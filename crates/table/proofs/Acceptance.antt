-- Acceptance: the program's test of a session is the walk's, and so it is of all of them.
-- Assumes nothing.
use mathlib.Core.Path.{◌≡◌, refl, sym, ap, ap₂, ◌∙◌, subst}
use mathlib.Core.Bool.{Bool, true, false, ◌&&◌, not, beq}
use Prim.Native.Nat.{ℕ, zero, suc, ◌+◌, ◌≤◌, ◌<◌}
use native.Mathlib.Omega.{arith}
use native.Mathlib.Decide.{ℕ_discrete}
use lib.ListN.{length, get_or}
use Rattle.std.specs.Bool.{MatchBool}
use Rattle.std.specs.List.{AllWithin, HoldsAt, range_with_len}
use Rattle.std.proofs.lemmas.List.FromFn.{length-range_with_len, get_or-range_with_len}
use lib.Seq.{get_or-take}
use lib.Dec.{eqb}
use lib.Bits.{bit_and}
use borrow.Author.Tests.{eq-eqb, ne_eqb, le-leb}
use Rattle.words.specs.Word.{bit}
use Rattle.words.proofs.At.{at_first}
use Rattle.rules.specs.Lists.{count}
use Rattle.walk.specs.Rows.{accepts_row}
use Rattle.walk.specs.Input.{every, separating}
use Rattle.session.specs.Recording.{mark_of}
use Rattle.table.specs.Acceptance.{agreeing}
use Rattle.table.specs.Promises.{AgreesSeparating}

-- ---- one session

pub beq-true : (b : Bool) → b ≡ beq true b
beq-true true = refl
beq-true false = refl

pub beq-false : (b : Bool) → not b ≡ beq false b
beq-false true = refl
beq-false false = refl

-- the low bit is the row's acceptance
pub accepts-row : (x : ℕ) → bit_and x 1 ≡ 1 → accepts_row x ≡ true
accepts-row x h = eq-eqb (bit x 0) 1 ((at_first x).0 h)

pub rejects-row : (x : ℕ) → (bit_and x 1 ≡ 1 → ⊥) → accepts_row x ≡ false
rejects-row x h = ne_eqb (bit x 0) 1 (λ p. h ((at_first x).1 p))

-- ---- all sessions

every-true : (a n : ℕ) (f : ℕ → Bool) → ((j : ℕ) → a ≤ j → j < a + n → f j ≡ true) → every (count a n) f ≡ true
unfolding every count
every-true a zero f e = refl
every-true a (suc n) f e = ap₂ (λ (x y : Bool). x && y) (e a (omega arith) (omega arith)) (every-true (suc a) n f (λ j l m. e j (omega arith) (omega arith)))

and-false : (b : Bool) → (b && false) ≡ false
and-false true = refl
and-false false = refl

every-false : (a n : ℕ) (f : ℕ → Bool) (k : ℕ) → a ≤ k → k < a + n → f k ≡ false → every (count a n) f ≡ false
unfolding every count
every-false a zero f k l m e = absurd (omega arith)
every-false a (suc n) f k l m e = elim (ℕ_discrete k a) [
  | yes q ↦ ap (λ (b : Bool). b && every (count (suc a) n) f) (ap f (sym q) ∙ e)
  | no q ↦ ap (λ (b : Bool). f a && b) (every-false (suc a) n f k (omega arith) (omega arith) e) ∙ and-false (f a)
]

at-range : (n j : ℕ) → j < n → get_or (range_with_len 0 n) j 0 ≡ j
at-range n j h = get_or-range_with_len 0 n j 0 h ∙ (let e : 0 + j ≡ j = omega arith in e)

-- what `all` over a range answers
pub every-answer : (n : ℕ) (f : ℕ → Bool) (b : Bool)
    → MatchBool b (AllWithin (λ j. f j ≡ true) (range_with_len 0 n) 0 (length (range_with_len 0 n)))
    ((k : ℕ) × (k < length (range_with_len 0 n)) × HoldsAt (λ j. f j ≡ false) (range_with_len 0 n) k)
    → b ≡ every (count 0 n) f
every-answer n f true h = sym (every-true 0 n f (λ j l m. subst (λ (x : ℕ). f x ≡ true) (at-range n j (omega arith)) (h j 0 (omega arith) (omega (arith, length-range_with_len 0 n)))))
every-answer n f false (k, l, h) = let m : k < n = omega (arith, l, length-range_with_len 0 n) in
    sym (every-false 0 n f k (omega arith) (omega arith) (subst (λ (x : ℕ). f x ≡ false) (at-range n k m) (h 0)))

-- ---- the walk's test

every-same : (a n : ℕ) (f h : ℕ → Bool) → ((j : ℕ) → a ≤ j → j < a + n → f j ≡ h j) → every (count a n) f ≡ every (count a n) h
unfolding every count
every-same a zero f h e = refl
every-same a (suc n) f h e = ap₂ (λ (x y : Bool). x && y) (e a (omega arith) (omega arith)) (every-same (suc a) n f h (λ j l m. e j (omega arith) (omega arith)))

pub agrees-separating : AgreesSeparating
unfolding separating agreeing
agrees-separating i ok rows h =
    let s = ok.sessions-in.1 in
    let a = ok.marks-there in
    rw (le-leb _ _ s, le-leb _ _ a, le-leb _ _ h)
    (every-same 0 i.recording.sessions _ _ (λ j l m. ap (λ (x : ℕ). beq (accepts_row x) (eqb (mark_of i.recording j) 1)) (sym (get_or-take i.recording.sessions rows j 0 (omega arith)))))
