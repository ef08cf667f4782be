-- Where the scan stops is the offset of refusal 11: from every state some text leads to the end of a formula.
-- Assumes nothing.
use mathlib.Core.Path.{◌≡◌, refl, sym, ap}
use mathlib.Core.Logic.{◌⊎◌, inl, inr, ⊎_elim}
use mathlib.Core.List.{List, [], ◌∷◌, ◌++◌}
use Prim.Native.Nat.{ℕ, zero, suc, ◌≤◌, ◌<◌}
use native.Mathlib.Omega.{arith}
use lib.ListN.{length, take}
use Rattle.grammar.specs.Token.{Atom, Token, closes, NoWordByte}
use Rattle.grammar.specs.Scan.{kind, Class, prefixed, leafy, neither, classify, ScanState, ready, apart, after, word, rest, ScanStep, dead, go, scan_step, Scan, good, bad, scan_end}
use Rattle.grammar.specs.Scan.{finish_word, behind, follow, scan}
use Rattle.grammar.proofs.Words.{ClassIs, class-is}
use Rattle.grammar.proofs.Complete.{bad-good, prefix-good, leaf-good, read_word, read-rest}

-- ---- from every state on

abbrev Ends : ScanState → Type 0
Ends s = (text : List ℕ) × (ts : List Token) × (scan s text ≡ good ts)

closers : ℕ → List ℕ
closers zero = []
closers (suc d) = 41 ∷ closers d

closers-apart : (d : ℕ) → NoWordByte (closers d)
unfolding closers
closers-apart zero = tt
closers-apart (suc d) = refl

after-ends : (d : ℕ) → (ts : List Token) × (scan (after d) (closers d) ≡ good ts)
unfolding closers scan scan_step kind scan_end
after-ends zero = (_, refl)
after-ends (suc d) = (_, ap (behind (closes ∷ [])) (after-ends d).1)

leaf-ends : (w : List ℕ) (d : ℕ) {l : Atom} → classify w ≡ leafy l → (ts : List Token) × (scan (word w d) (closers d) ≡ good ts)
leaf-ends w d c = (_, leaf-good w d c (closers d) (closers-apart d) (after-ends d).1)

ready-ends : (d : ℕ) → Ends (ready d)
unfolding classify
ready-ends d = (112 ∷ closers d, _, read_word d (closers d) (112 ∷ []) (record { letters = (refl, tt); short = omega arith }) (leaf-ends (112 ∷ []) d refl).1)

ready-gap : (d : ℕ) (text : List ℕ) {ts : List Token} → scan (ready d) text ≡ good ts → scan (ready d) (32 ∷ text) ≡ good ts
unfolding scan scan_step kind
ready-gap d text e = rw e

word-ends : (w : List ℕ) (d : ℕ) → Ends (word w d)
unfolding scan scan_step kind classify
word-ends w d = by-class (classify w) refl (class-is w)
  where
    by-class : (c : Class) → classify w ≡ c → ClassIs w c → Ends (word w d)
    by-class (prefixed u) e c = let r = ready-ends d in (32 ∷ r.0, _, prefix-good w d e (32 ∷ r.0) refl (ready-gap d r.0 r.2))
    by-class (leafy l) e c = let g = leaf-ends w d e in (closers d, g.0, g.1)
    by-class neither e (inl u) = let g = leaf-ends (85 ∷ 112 ∷ []) d refl in (112 ∷ closers d, g.0, rw (u, g.1))
    by-class neither e (inr r) = let g = leaf-ends (82 ∷ 112 ∷ []) d refl in (112 ∷ closers d, g.0, rw (r, g.1))

ends : (s : ScanState) → Ends s
unfolding scan scan_step kind
ends (ready d) = ready-ends d
ends (apart d) = let r = ready-ends d in (32 ∷ r.0, r.1, rw r.2)
ends (after d) = let g = after-ends d in (closers d, g.0, g.1)
ends (word w d) = word-ends w d
ends (rest c cs t d) = let r = ready-ends d in (c ∷ (cs ++ r.0), _, read-rest d c cs t r.0 r.2)

-- ---- what a refusal says of the text up to it

good-bad : {k : ℕ} {ts : List Token} → good ts ≡ bad k → ⊥
good-bad e = bad-good (sym e)

of-behind : (out : List Token) (x : Scan) {k : ℕ} → behind out x ≡ bad k → (j : ℕ) × (k ≡ suc j) × (x ≡ bad j)
of-behind out (good ts) e = absurd (good-bad e)
of-behind out (bad j) e = (j, cc, refl)

-- whatever stands before it goes on to a formula
pub before-bad : (s : ScanState) (text : List ℕ) {k : ℕ} → scan s text ≡ bad k → (j : ℕ) → j ≤ k → (more : List ℕ) × (ts : List Token) × (scan s (take j text ++ more) ≡ good ts)
unfolding scan
before-bad s text e zero h = ends s
before-bad s [] e (suc j) h = ends s
before-bad s (b ∷ text) {k} e (suc j) h = by-step (scan_step s b) refl e (λ t i l g. before-bad t text g j l)
  where
    by-step : (x : ScanStep) → scan_step s b ≡ x → follow x (λ t. scan t text) ≡ bad k
        → ((t : ScanState) (i : ℕ) → j ≤ i → scan t text ≡ bad i → (more : List ℕ) × (ts : List Token) × (scan t (take j text ++ more) ≡ good ts))
        → (more : List ℕ) × (ts : List Token) × (follow (scan_step s b) (λ t. scan t (take j text ++ more)) ≡ good ts)
    by-step dead q g ih = let z : zero ≡ k = cc in absurd (omega arith)
    by-step (go out t) q g ih =
        let b = of-behind out (scan t text) g in
        let i = ih t b.0 (omega (arith, b.1)) b.2 in
        (i.0, out ++ i.1, rw (q, i.2))

at-end-word : (c : Class) (d : ℕ) {k : ℕ} → finish_word c d ≡ bad k → k ≡ zero
at-end-word (prefixed u) d e = cc
at-end-word (leafy l) zero e = absurd (good-bad e)
at-end-word (leafy l) (suc d) e = cc
at-end-word neither d e = cc

at-end : (s : ScanState) {k : ℕ} → scan_end s ≡ bad k → k ≡ zero
unfolding scan_end
at-end (ready d) e = cc
at-end (apart d) e = cc
at-end (after zero) e = absurd (good-bad e)
at-end (after (suc d)) e = cc
at-end (word w d) e = at-end-word (classify w) d e
at-end (rest c cs t d) e = cc

-- and with the byte at it nothing does, unless the text has ended
pub at-bad : (s : ScanState) (text : List ℕ) {k : ℕ} → scan s text ≡ bad k → ((k < length text) × ((more : List ℕ) → scan s (take (suc k) text ++ more) ≡ bad k)) ⊎ (k ≡ length text)
unfolding scan
at-bad s [] e = inr (at-end s e)
at-bad s (b ∷ text) {k} e = by-step (scan_step s b) refl e (λ t i g. at-bad t text g)
  where
    by-step : (x : ScanStep) → scan_step s b ≡ x → follow x (λ t. scan t text) ≡ bad k
        → ((t : ScanState) (i : ℕ) → scan t text ≡ bad i → ((i < length text) × ((more : List ℕ) → scan t (take (suc i) text ++ more) ≡ bad i)) ⊎ (i ≡ length text))
        → ((k < length (b ∷ text)) × ((more : List ℕ) → follow (scan_step s b) (λ t. scan t (take k text ++ more)) ≡ bad k)) ⊎ (k ≡ length (b ∷ text))
    by-step dead q g ih = let z : k ≡ zero = cc in inl (omega arith, λ more. rw (q, z))
    by-step (go out t) q g ih =
        let b = of-behind out (scan t text) g in
        ⊎_elim
        (λ r. inl (omega (arith, b.1), λ more. rw (q, b.1, r.1 more)))
        (λ r. inr (omega (arith, b.1)))
        (ih t b.0 b.2)
