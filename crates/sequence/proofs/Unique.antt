-- Uniqueness: any two results that a public operation's contract allows for the same input are equal.
-- For the words of crate `words` and for `CharSeq::mask` that is `means-unique` of its proofs/At.antt, for `CharSeq::check` `decided-unique`.
-- Assumes nothing.
use mathlib.Core.Path.{◌≡◌, refl, sym, ap, ap₂, ◌∙◌, subst}
use mathlib.Core.Logic.{◌↔◌}
use mathlib.Core.Bool.{Bool, true, false}
use mathlib.Core.List.{List}
use Prim.Native.Nat.{ℕ, zero, suc, ◌-◌}
use native.Mathlib.Omega.{arith}
use Rattle.words.specs.Ltlf.{Reading}
use Rattle.words.specs.Word.{At}
use Rattle.words.proofs.At.{means-unique}
use Rattle.sequence.specs.declared.CharSeq.{CharSeq}
use Rattle.std.specs.Prelude.{Result, Ok, Err}
use Rattle.rules.specs.declared.refusal.Refusal.{Refusal}
use Rattle.sequence.specs.Operators.{Unary, Binary, unary_code, binary_code, unary_reading, binary_reading, not, weak_next, strong_next, finally, globally, or, and, until, release, implies, equiv}
use Rattle.sequence.specs.Masked.{UnaryOn, BinaryOn, UnaryBy, BinaryBy}
use Rattle.sequence.specs.Masked.UnaryBy.{operator as uop, nothing as unothing}
use Rattle.sequence.specs.Masked.BinaryBy.{operator as bop, nothing as bnothing}
use Rattle.sequence.specs.Sequence.{seq, Denotes, Answers, NewAnswer, RecordedAnswer, UnaryRead, UnaryAnswer, BinaryRead, BinaryAnswer}
use Rattle.rules.specs.Refusals.{Row, refusal_number}
use Rattle.rules.proofs.Refusals.{decided-unique, refusal-one}

-- ---- tests: `CharSeq::is_well_formed`, `CharSeq::accepts`

pub test-unique : {P : Type 0} (a b : Bool) → (a ≡ true) ↔ P → (b ≡ true) ↔ P → a ≡ b
test-unique true b p q = sym (q.1 (p.0 refl))
test-unique false true p q = p.1 (q.0 refl)
test-unique false false p q = refl

-- ---- sequences

-- a sequence is determined by its length and bits
same-seq : (s t : CharSeq) → s.length ≡ t.length → s.values ≡ t.values → s ≡ t
same-seq s t p q = ap₂ seq p q

pub denotes-unique : {n : ℕ} {f : Reading} (s t : CharSeq) → Denotes n f s → Denotes n f t → s ≡ t
denotes-unique s t p q = same-seq s t (p.length ∙ sym q.length) (means-unique p.means q.means)

-- a code has one operator
unary-at : ℕ → Unary
unary-at zero = not
unary-at (suc zero) = weak_next
unary-at (suc (suc zero)) = strong_next
unary-at (suc (suc (suc zero))) = finally
unary-at (suc (suc (suc (suc k)))) = globally

binary-at : ℕ → Binary
binary-at zero = or
binary-at (suc zero) = and
binary-at (suc (suc zero)) = until
binary-at (suc (suc (suc zero))) = release
binary-at (suc (suc (suc (suc zero)))) = implies
binary-at (suc (suc (suc (suc (suc k))))) = equiv

unary-back : (op : Unary) → unary-at (unary_code op) ≡ op
unfolding unary-at
unary-back not = refl
unary-back weak_next = refl
unary-back strong_next = refl
unary-back finally = refl
unary-back globally = refl

binary-back : (op : Binary) → binary-at (binary_code op - 5) ≡ op
unfolding binary-at
binary-back or = refl
binary-back and = refl
binary-back until = refl
binary-back release = refl
binary-back implies = refl
binary-back equiv = refl

pub unary-one : (a b : Unary) → unary_code a ≡ unary_code b → a ≡ b
unary-one a b e = sym (unary-back a) ∙ ap unary-at e ∙ unary-back b

pub binary-one : (a b : Binary) → binary_code a ≡ binary_code b → a ≡ b
binary-one a b e = sym (binary-back a) ∙ ap (λ (k : ℕ). binary-at (k - 5)) e ∙ binary-back b

-- of the answers by a list, where what is asked of the sequence leaves one, there is one
answers-unique : (rows : List Row) (asked : CharSeq → Type 0) → ((s t : CharSeq) → asked s → asked t → s ≡ t)
    → (a b : Result CharSeq Refusal) → Answers rows asked a → Answers rows asked b → a ≡ b
answers-unique rows asked one (Ok s) (Ok t) p q = ap Ok (one s t p.1 q.1)
answers-unique rows asked one (Ok s) (Err k) p q = absurd (omega (arith, q.1, decided-unique rows 0 (refusal_number k) p.0 q.0))
answers-unique rows asked one (Err k) (Ok t) p q = absurd (omega (arith, p.1, decided-unique rows (refusal_number k) 0 p.0 q.0))
answers-unique rows asked one (Err k) (Err l) p q = ap Err (refusal-one k l (decided-unique rows (refusal_number k) (refusal_number l) p.0 q.0))

pub new-unique : (n x : ℕ) (a b : Result CharSeq Refusal) → NewAnswer n x a → NewAnswer n x b → a ≡ b
new-unique n x a b p q = answers-unique _ _ (λ s t u v. same-seq s t (u.0 ∙ sym v.0) (u.1 ∙ sym v.1)) a b p q

pub recorded-unique : (n x : ℕ) (a b : Result CharSeq Refusal) → RecordedAnswer n x a → RecordedAnswer n x b → a ≡ b
recorded-unique n x a b p q = answers-unique _ _ (λ s t u v. same-seq s t (u.0 ∙ sym v.0) (u.1 ∙ sym v.1)) a b p q

pub unary-unique : (code : ℕ) (s : CharSeq) (a b : Result CharSeq Refusal) → UnaryAnswer code s a → UnaryAnswer code s b → a ≡ b
unary-unique code s a b p q = answers-unique _ _ one a b p q
  where
    one : (r t : CharSeq) → UnaryRead code s r → UnaryRead code s t → r ≡ t
    one r t u v = denotes-unique r t u.2 (subst (λ (op : Unary). Denotes s.length (unary_reading op s.length (At s.values)) t) (unary-one v.0 u.0 (v.1 ∙ sym u.1)) v.2)

pub binary-unique : (code : ℕ) (s t : CharSeq) (a b : Result CharSeq Refusal) → BinaryAnswer code s t a → BinaryAnswer code s t b → a ≡ b
binary-unique code s t a b p q = answers-unique _ _ one a b p q
  where
    one : (r r' : CharSeq) → BinaryRead code s t r → BinaryRead code s t r' → r ≡ r'
    one r r' u v =
        denotes-unique r r' u.2
        (subst (λ (op : Binary). Denotes s.length (binary_reading op s.length (At s.values) (At t.values)) r') (binary-one v.0 u.0 (v.1 ∙ sym u.1)) v.2)

-- ---- the operators' methods, and by code

pub unary-on-unique : (op : Unary) (s r t : CharSeq) → UnaryOn op s r → UnaryOn op s t → r ≡ t
unary-on-unique op s r t p q = same-seq r t (p.0 ∙ sym q.0) (means-unique p.1 q.1)

pub binary-on-unique : (op : Binary) (s s' r t : CharSeq) → BinaryOn op s s' r → BinaryOn op s s' t → r ≡ t
binary-on-unique op s s' r t p q = same-seq r t (p.0 ∙ sym q.0) (means-unique p.1 q.1)

pub unary-by-unique : (code : ℕ) (s r t : CharSeq) → UnaryBy code s r → UnaryBy code s t → r ≡ t
unary-by-unique code s r t (uop a e p) (uop b d q) = unary-on-unique a s r t p (subst (λ (op : Unary). UnaryOn op s t) (unary-one b a (d ∙ sym e)) q)
unary-by-unique code s r t (uop a e p) (unothing n q) = absurd (n a e)
unary-by-unique code s r t (unothing n p) (uop b d q) = absurd (n b d)
unary-by-unique code s r t (unothing n p) (unothing l q) = p ∙ sym q

pub binary-by-unique : (code : ℕ) (s s' r t : CharSeq) → BinaryBy code s s' r → BinaryBy code s s' t → r ≡ t
binary-by-unique code s s' r t (bop a e p) (bop b d q) = binary-on-unique a s s' r t p (subst (λ (op : Binary). BinaryOn op s s' t) (binary-one b a (d ∙ sym e)) q)
binary-by-unique code s s' r t (bop a e p) (bnothing n q) = absurd (n a e)
binary-by-unique code s s' r t (bnothing n p) (bop b d q) = absurd (n b d)
binary-by-unique code s s' r t (bnothing n p) (bnothing l q) = p ∙ sym q
