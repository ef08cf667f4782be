-- Each return of the functions that read what closes an expression.
-- Assumes nothing.
use mathlib.Core.Path.{◌≡◌, refl, sym, ◌∙◌, subst}
use mathlib.Core.List.{List}
use Prim.Native.Nat.{ℕ, suc, ◌+◌, ◌≤◌, ◌<◌}
use native.Mathlib.Omega.{arith}
use native.Mathlib.Decide.{dec_lt, ℕ_discrete}
use lib.ListN.{length, drop, get_or}
use Rattle.grammar.specs.Scan.{kind, after, dead, scan_step, scan_end}
use Rattle.grammar.specs.Passing.{Peek, op, nothing, cut, peek, Stops}
use Rattle.grammar.proofs.Peeks.{Halts}
use Rattle.grammar.proofs.Passage as passage
use Rattle.std.proofs.Common.{Ok, Err}
use Rattle.tokens.specs.declared.operator.Next.{Next}
use Rattle.tokens.specs.declared.operator.Next.TheVariants.{Nothing}
use Rattle.tokens.specs.Next.{PeekSaid, Operator}
use Rattle.tokens.proofs.Operators.{inside, head}
use Rattle.descent.specs.Answers.{Closing, EndsAt}

module _ (text : List ℕ) where
  -- where no operator begins, outside brackets nothing goes on, and inside only a closing bracket
  halted : (i : ℕ) → i < length text → Halts (drop i text) → (get_or text i 0 ≡ 41 → ⊥) → (d : ℕ) → scan_step (after d) (get_or text i 0) ≡ dead
  halted i g x = rw (head text g refl) at x

  outside : (i : ℕ) → i < length text → Halts (drop i text) → scan_step (after 0) (get_or text i 0) ≡ dead
  unfolding scan_step kind
  outside i g x = elim (ℕ_discrete (get_or text i 0) 41) [ yes e ↦ rw e | no n ↦ halted i g x n 0 ]

  -- ---- closing

  module _ (at : ℕ) (h : at ≤ length text) where
    there : {a : Next} {i : ℕ} → a ≡ Nothing i → Operator text at (Ok a) → (n : ℕ) × (peek (drop at text) ≡ nothing n) × (i ≡ at + n)
    there {i = i} e f = by-peek (peek (drop at text)) refl (subst (λ (n : Next). PeekSaid at (peek (drop at text)) (Ok n)) e f)
      where
        by-peek : (k : Peek) → peek (drop at text) ≡ k → PeekSaid at k (Ok (Nothing i)) → (n : ℕ) × (peek (drop at text) ≡ nothing n) × (i ≡ at + n)
        by-peek (op o m) q s = absurd s
        by-peek (nothing m) q s = (m, q, s)
        by-peek (cut m) q s = absurd s

    pub closed : {a : Next} {i : ℕ} → a ≡ Nothing i → Operator text at (Ok a) → get_or text i 0 ≡ 41 → Closing text at (Ok (i + 1))
    unfolding scan_step kind
    closed {i = i} e f g q d =
        let t = there e f in
        let s : (at + t.0) + 1 ≡ i + 1 = omega (arith, t.2) in
        let v : get_or text (at + t.0) 0 ≡ 41 = rw t.2 at g in
        rw (← s) (passage.pass-then text (passage.pass-nothing text at h t.1 (suc d)) (passage.pass-byte text (inside text (at + t.0) 40 v) (rw v)))

    pub not-closed : {a : Next} {i : ℕ} → a ≡ Nothing i → Operator text at (Ok a) → (get_or text i 0 ≡ 41 → ⊥) → Closing text at (Err (record { 0 = i }))
    unfolding scan_end
    not-closed {i = i} e f n q d =
        let t = there e f in
        let p = passage.pass-nothing text at h t.1 (suc d) in
        let w = p.within in
        let m : get_or text (at + t.0) 0 ≡ 41 → ⊥ = rw t.2 at n in
        let s : Stops text (after (suc d)) (at + t.0) (at + t.0) = elim (dec_lt (at + t.0) (length text)) [
          | yes g ↦ passage.stop-byte text g (halted (at + t.0) g (passage.halts text at h t.1) m (suc d))
          | no g ↦ passage.stop-end text (omega arith) refl
        ] in
        rw t.2 (passage.pass-stop text p s)

    -- ---- ending

    pub ended : {a : Next} {i : ℕ} → a ≡ Nothing i → Operator text at (Ok a) → i ≡ length text → EndsAt text at (Ok tt)
    ended e f n = (λ q. let t = there e f in let m : at + t.0 ≡ length text = sym t.2 ∙ n in rw m at (passage.pass-nothing text at h t.1 0))

    pub not-ended : {a : Next} {i : ℕ} → a ≡ Nothing i → Operator text at (Ok a) → (i ≡ length text → ⊥) → EndsAt text at (Err (record { 0 = i }))
    not-ended {i = i} e f n q =
        let t = there e f in
        let p = passage.pass-nothing text at h t.1 0 in
        let w = p.within in
        let m : at + t.0 ≡ length text → ⊥ = rw t.2 at n in
        let g : at + t.0 < length text = elim (dec_lt (at + t.0) (length text)) [ yes g ↦ g | no g ↦ absurd (m (omega arith)) ] in
        rw t.2 (passage.pass-stop text p (passage.stop-byte text g (outside (at + t.0) g (passage.halts text at h t.1))))
