-- No other answer has the line of a verdict: the byte before the last, or the first one, tells a verdict from a refusal, the third one verdict from the
-- other, and the digits are those of one number.
-- Assumes nothing.
use mathlib.Core.Path.{◌≡◌, refl, sym, ap, ◌∙◌}
use mathlib.Core.Bool.{Bool, true, false, cond}
use mathlib.Core.List.{List, [], ◌∷◌, ◌++◌, append_assoc, append_cancel_left, append_cancel_right, head-eq_of_cons-eq}
use Prim.Native.Nat.{ℕ, zero, suc, ◌+◌, ◌-◌, ◌*◌, ◌/◌, ◌%◌, ◌^◌, ◌≤◌, ◌<◌}
use borrow.Author.Tests.{ltb-true}
use native.Mathlib.Nat.{pow-suc}
use native.Mathlib.Omega.{arith}
use lib.Dec.{ltb}
use lib.ListN.{get_or, replicate}
use Rattle.writing.specs.Writing.{digit, digits, decimal, most_digits, newline}
use Rattle.line.specs.Line.{refused_word, refused_line, separates_line, session_word, disagrees_word, disagrees_line, at_word}
use Rattle.suspicion.specs.Caret.{caret, pointed_lines}

-- ---- the last byte, and the one before it

last : ℕ → List ℕ → ℕ
last b [] = b
last b (x ∷ l) = last x l

last_but_one : ℕ → ℕ → List ℕ → ℕ
last_but_one a b [] = a
last_but_one a b (x ∷ l) = last_but_one b x l

last-both : (b : ℕ) (l m : List ℕ) → last b (l ++ m) ≡ last (last b l) m
unfolding last
last-both b [] m = refl
last-both b (x ∷ l) m = last-both x l m

before-newline : (a b : ℕ) (l : List ℕ) → last_but_one a b (l ++ newline) ≡ last b l
unfolding last last_but_one
before-newline a b [] = refl
before-newline a b (x ∷ l) = before-newline b x l

before-end : (a b : ℕ) (l : List ℕ) → last_but_one a b (l ++ disagrees_word) ≡ 115
unfolding last_but_one
before-end a b [] = refl
before-end a b (x ∷ l) = before-end b x l

-- ---- the digits of a number

module _ (b k n : ℕ) where
  -- a number ends in a digit
  digit-last : last b (digits (suc k) n) ≤ 57
  unfolding last digits
  digit-last = by-test (ltb n 10) refl
    where
      by-test : (t : Bool) → ltb n 10 ≡ t → last b (cond t (digit n ∷ []) (digits k (n / 10) ++ (digit (n % 10) ∷ []))) ≤ 57
      by-test true e = omega (arith, ltb-true n 10 e)
      by-test false e = rw (last-both b (digits k (n / 10)) (digit (n % 10) ∷ [])) (omega arith)

-- what digits say, behind those of a number
value : ℕ → List ℕ → ℕ
value v [] = v
value v (d ∷ l) = value (v * 10 + (d - 48)) l

value-both : (v : ℕ) (l m : List ℕ) → value v (l ++ m) ≡ value (value v l) m
unfolding value
value-both v [] m = refl
value-both v (d ∷ l) m = value-both (v * 10 + (d - 48)) l m

value-digits : (k n : ℕ) → n < 10 ^ k → value 0 (digits k n) ≡ n
unfolding value digits
value-digits zero n h = omega arith
value-digits (suc k) n h = by-test (ltb n 10) (value-digits k (n / 10) (let l : n < 10 ^ k * 10 = rw pow-suc at h in omega arith))
  where
    by-test : (t : Bool) → value 0 (digits k (n / 10)) ≡ n / 10 → value 0 (cond t (digit n ∷ []) (digits k (n / 10) ++ (digit (n % 10) ∷ []))) ≡ n
    by-test true e = omega arith
    by-test false e = rw (value-both 0 (digits k (n / 10)) (digit (n % 10) ∷ []), e) (omega arith)

-- numbers of up to 20 digits are told apart
decimal-one : (m n : ℕ) → m < 10 ^ most_digits → n < 10 ^ most_digits → decimal m ≡ decimal n → m ≡ n
decimal-one m n h g e = sym (value-digits most_digits m h) ∙ ap (value 0) e ∙ value-digits most_digits n g

-- ---- the lines

separates-ends : last_but_one 0 0 separates_line ≡ 115
unfolding last_but_one
separates-ends = refl

pointed-ends : (typed : List ℕ) (at number : ℕ) → last_but_one 0 0 (pointed_lines typed at number) ≤ 57
pointed-ends typed at number =
    let first = ((typed ++ newline) ++ replicate at 32) ++ caret in
    let word = refused_word ++ decimal number in
    let e : pointed_lines typed at number ≡ (first ++ (word ++ (at_word ++ decimal at))) ++ newline = sym (append_assoc first (word ++ (at_word ++ decimal at)) newline) in
    rw (
      e,
      before-newline 0 0 (first ++ (word ++ (at_word ++ decimal at))),
      last-both 0 first (word ++ (at_word ++ decimal at)),
      last-both (last 0 first) word (at_word ++ decimal at),
      last-both (last (last 0 first) word) at_word (decimal at),
    ) (digit-last (last (last (last 0 first) word) at_word) 19 at)

pub separates-disagrees : (j : ℕ) → separates_line ≡ disagrees_line j → ⊥
separates-disagrees j e = let z : ◌≡◌ {A = ℕ} 112 115 = ap (λ (l : List ℕ). get_or l 2 0) e in omega arith

pub separates-refused : (k : ℕ) → separates_line ≡ refused_line k → ⊥
separates-refused k e = let z : ◌≡◌ {A = ℕ} 115 114 = head-eq_of_cons-eq e in omega arith

pub separates-pointed : (typed : List ℕ) (o k : ℕ) → separates_line ≡ pointed_lines typed o k → ⊥
separates-pointed typed o k e = omega (arith, separates-ends, ap (last_but_one 0 0) e, pointed-ends typed o k)

pub disagrees-refused : (j k : ℕ) → disagrees_line j ≡ refused_line k → ⊥
disagrees-refused j k e = let z : ◌≡◌ {A = ℕ} 115 114 = head-eq_of_cons-eq e in omega arith

pub disagrees-pointed : (j : ℕ) (typed : List ℕ) (o k : ℕ) → disagrees_line j ≡ pointed_lines typed o k → ⊥
disagrees-pointed j typed o k e = omega (arith, before-end 0 0 (session_word ++ decimal j), ap (last_but_one 0 0) e, pointed-ends typed o k)

-- the number is the line's
pub disagrees-one : (i j : ℕ) → i < 10 ^ most_digits → j < 10 ^ most_digits → disagrees_line i ≡ disagrees_line j → i ≡ j
disagrees-one i j h g e =
    decimal-one i j h g
    (append_cancel_left session_word (decimal i) (decimal j) (append_cancel_right (session_word ++ decimal i) (session_word ++ decimal j) disagrees_word e))
