-- Each return of the functions that read an infix operator.
-- Assumes nothing.
use mathlib.Core.Path.{◌≡◌, refl, sym, ap, ◌∙◌, subst}
use mathlib.Core.Bool.{Bool, true, false, cond}
use mathlib.Core.List.{List, [], ◌∷◌}
use Prim.Native.Nat.{ℕ, suc, ◌+◌, ◌≤◌, ◌<◌}
use native.Mathlib.Omega.{arith}
use native.Mathlib.Decide.{dec_lt}
use borrow.Author.Tests.{ne_eqb}
use lib.ListN.{length, drop, get_or, drop_of_length-le, get_or-eq_default}
use lib.Seq.{drop-cons}
use Rattle.sequence.specs.Operators.{Binary, binary_code}
use Rattle.sequence.specs.Operators.Binary.{until, release, implies, equiv}
use Rattle.names.specs.Names.{is_name_byte}
use Rattle.grammar.specs.Grammar.{level, right_level}
use Rattle.grammar.specs.Scan.{blank, bang, opener, closer, amp, bar, dash, less, other, Kind, wordy, square, sign, kind}
use Rattle.grammar.specs.Passing.{Peek, op, nothing, cut, further, expect, alone, peek, peek_kind}
use Rattle.grammar.proofs.Words.{KindIs, kind-is}
use Rattle.std.proofs.Common.{Result, Ok, Err}
use Rattle.tokens.specs.declared.Stop.{Stop}
use Rattle.tokens.specs.declared.operator.Next.{Next}
use Rattle.tokens.specs.declared.operator.Next.TheVariants.{Infix, Nothing}
use Rattle.tokens.specs.Next.{PeekSaid, Operator, Arrow, Word}

abbrev pub found : ℕ → ℕ → ℕ → ℕ → Result Next Stop
found l r next c = Ok (Infix (record { level = l; right = r; next = next; code = c }))

abbrev pub none : ℕ → Result Next Stop
none i = Ok (Nothing i)

abbrev pub stop : ℕ → Result Next Stop
stop i = Err (record { 0 = i })

pub said-further : (at : ℕ) (k : Peek) (r : Result Next Stop) → PeekSaid (at + 1) k r → PeekSaid at (further k) r
said-further at (op o n) (Ok (Infix i)) s = (s.0, s.1, omega (arith, s.2), s.3)
said-further at (op o n) (Ok (Nothing i)) s = s
said-further at (op o n) (Err e) s = s
said-further at (nothing n) (Ok (Infix i)) s = s
said-further at (nothing n) (Ok (Nothing i)) s = omega arith
said-further at (nothing n) (Err e) s = s
said-further at (cut n) (Ok (Infix i)) s = s
said-further at (cut n) (Ok (Nothing i)) s = s
said-further at (cut n) (Err e) s = omega (arith, s)

module _ (text : List ℕ) where
  -- no byte of a token is 0
  pub inside : (i v : ℕ) → get_or text i 0 ≡ suc v → i < length text
  inside i v e = elim (dec_lt i (length text)) [ yes h ↦ h | no h ↦ absurd (let z : get_or text i 0 ≡ 0 = get_or-eq_default text 0 (omega arith) in omega arith) ]

  pub head : {at b : ℕ} → at < length text → get_or text at 0 ≡ b → drop at text ≡ b ∷ drop (at + 1) text
  head {at} {b} h e = let n : suc at ≡ at + 1 = omega arith in drop-cons text at 0 h ∙ ap (λ (x : ℕ). x ∷ drop (suc at) text) e ∙ ap (λ (k : ℕ). b ∷ drop k text) n

  -- ---- arrow

  pub arrow-is : (at code right : ℕ) → get_or text at 0 ≡ 62 → Arrow text at code right (found 0 right (at + 1) code)
  unfolding expect
  arrow-is at code right e o l r k = rw (head (inside at 61 e) e) (sym l, sym r, refl, sym k)

  pub arrow-not : (at code right : ℕ) → (get_or text at 0 ≡ 62 → ⊥) → Arrow text at code right (stop at)
  unfolding expect
  arrow-not at code right n o l r k = elim (dec_lt at (length text)) [
    | yes g ↦ rw (head g refl, ne_eqb (get_or text at 0) 62 n) (omega arith)
    | no g ↦ rw (drop_of_length-le text {i = at} (omega arith)) (omega arith)
  ]

  -- ---- operator

  module _ {at : ℕ} (h : at < length text) where
    pub op-blank : (r : Result Next Stop) → get_or text at 0 ≡ 32 → Operator text (at + 1) r → Operator text at r
    unfolding peek kind
    op-blank r e s = rw (head h e) (said-further at (peek (drop (at + 1) text)) r s)

    pub op-and : get_or text at 0 ≡ 38 → Operator text at (found 2 3 (at + 1) 6)
    unfolding peek kind
    op-and e = rw (head h e) (refl, refl, refl, refl)

    pub op-or : get_or text at 0 ≡ 124 → Operator text at (found 1 2 (at + 1) 5)
    unfolding peek kind
    op-or e = rw (head h e) (refl, refl, refl, refl)

    pub op-implies : (r : Result Next Stop) → get_or text at 0 ≡ 45 → Arrow text (at + 1) 9 0 r → Operator text at r
    unfolding peek kind
    op-implies r e s = rw (head h e) (said-further at (expect (62 ∷ []) implies (drop (at + 1) text)) r (s implies refl refl refl))

    pub op-equiv : (r : Result Next Stop) → get_or text at 0 ≡ 60 → get_or text (at + 1) 0 ≡ 45 → Arrow text (at + 2) 10 0 r → Operator text at r
    unfolding peek kind expect
    op-equiv r e f s =
        let n : (at + 1) + 1 ≡ at + 2 = omega arith in
        let t : PeekSaid ((at + 1) + 1) (expect (62 ∷ []) equiv (drop ((at + 1) + 1) text)) r = rw n (s equiv refl refl refl) in
        rw (head h e, head (inside (at + 1) 44 f) f) (said-further at (further (expect (62 ∷ []) equiv (drop ((at + 1) + 1) text))) r
        (said-further (at + 1) (expect (62 ∷ []) equiv (drop ((at + 1) + 1) text)) r t))

    pub op-less-cut : get_or text at 0 ≡ 60 → (get_or text (at + 1) 0 ≡ 45 → ⊥) → Operator text at (stop (at + 1))
    unfolding peek kind expect
    op-less-cut e n = elim (dec_lt (at + 1) (length text)) [
      | yes g ↦ rw (head h e, head g refl, ne_eqb (get_or text (at + 1) 0) 45 n) (omega arith)
      | no g ↦ rw (head h e, drop_of_length-le text {i = at + 1} (omega arith)) (omega arith)
    ]

    said-word : (o : Binary) (r : Result Next Stop) → level o ≡ 3 → right_level o ≡ 3 → Word text (at + 1) (binary_code o) 3 r → PeekSaid at (alone o (drop (at + 1) text)) r
    said-word o r p q w = elim (dec_lt (at + 1) (length text)) [
      | yes g ↦ rw (head g refl) (by-test (is_name_byte (get_or text (at + 1) 0)) (w o p q refl))
      | no g ↦
          let z : get_or text (at + 1) 0 ≡ 0 = get_or-eq_default text 0 (omega arith) in
          let v : PeekSaid (at + 1) (op o 0) r = subst (λ (x : ℕ). PeekSaid (at + 1) (cond (is_name_byte x) (cut 0) (op o 0)) r) z (w o p q refl) in
          rw (drop_of_length-le text {i = at + 1} (omega arith)) (said-further at (op o 0) r v)
    ]
      where
        by-test : (t : Bool) → PeekSaid (at + 1) (cond t (cut 0) (op o 0)) r → PeekSaid at (cond t (cut 1) (op o 1)) r
        by-test true s = said-further at (cut 0) r s
        by-test false s = said-further at (op o 0) r s

    pub op-until : (r : Result Next Stop) → get_or text at 0 ≡ 85 → Word text (at + 1) 7 3 r → Operator text at r
    unfolding peek kind
    op-until r e w = rw (head h e) (said-word until r refl refl w)

    pub op-release : (r : Result Next Stop) → get_or text at 0 ≡ 82 → Word text (at + 1) 8 3 r → Operator text at r
    unfolding peek kind
    op-release r e w = rw (head h e) (said-word release r refl refl w)

    pub op-none : (get_or text at 0 ≡ 32 → ⊥) → (get_or text at 0 ≡ 38 → ⊥) → (get_or text at 0 ≡ 124 → ⊥) → (get_or text at 0 ≡ 45 → ⊥) → (get_or text at 0 ≡ 60 → ⊥) → (get_or text at 0 ≡ 85 → ⊥)
        → (get_or text at 0 ≡ 82 → ⊥) → Operator text at (none at)
    unfolding peek
    op-none n1 n2 n3 n4 n5 n6 n7 = rw (head h refl) (by_kind (kind b) (kind-is b))
      where
        b : ℕ
        b = get_or text at 0

        z : at ≡ at + 0
        z = omega arith

        by_kind : (k : Kind) → KindIs b k → PeekSaid at (peek_kind b k (drop (at + 1) text) (peek (drop (at + 1) text))) (none at)
        by_kind (wordy l) q = rw (ne_eqb b 85 n6, ne_eqb b 82 n7) z
        by_kind square q = z
        by_kind (sign blank) q = absurd (n1 q.1)
        by_kind (sign bang) q = z
        by_kind (sign opener) q = z
        by_kind (sign closer) q = z
        by_kind (sign amp) q = absurd (n2 q.1)
        by_kind (sign bar) q = absurd (n3 q.1)
        by_kind (sign dash) q = absurd (n4 q.1)
        by_kind (sign less) q = absurd (n5 q.1)
        by_kind (sign other) q = z

  pub op-end : (at : ℕ) → length text ≤ at → Operator text at (none at)
  unfolding peek
  op-end at g = rw (drop_of_length-le text g) (omega arith)
