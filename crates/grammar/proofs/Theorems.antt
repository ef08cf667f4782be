-- The theorems on E2's grammar: one tree for a text, the reader finds it, the scan finds the offset of 11 and decides what goes on.
-- Assumes nothing.
use mathlib.Core.Path.{◌≡◌, refl, sym, ap, ◌∙◌}
use mathlib.Core.Logic.{◌⊎◌, inl, inr, ⊎_elim}
use mathlib.Core.Bool.{true}
use mathlib.Core.List.{List, [], ◌++◌, append_assoc, append-nil}
use Prim.Native.Nat.{ℕ, suc, ◌<◌}
use native.Mathlib.Omega.{arith}
use native.Mathlib.Decide.{dec_lt}
use borrow.Author.Tests.{eq-eqb, eqb-true}
use lib.ListN.{length, take, drop, take-append-drop}
use lib.Seq.{take-length}
use Rattle.grammar.specs.Token.{Typed, Token}
use Rattle.grammar.specs.Grammar.{Reads, IsFormula, Starts, Refused11}
use Rattle.grammar.specs.Scan.{ready, Scan, good, bad, scan_text, goes_on, alive}
use Rattle.grammar.specs.Promises.{OneDerivation, OneTree, OneOffset, FormulaNotRefused, FormulaOrOffset}
use Rattle.grammar.specs.Reader.{got, read_scan, read_text}
use Rattle.grammar.proofs.Flat.{awaits, Flat, done, flat, from-flat}
use Rattle.grammar.proofs.Reading as reading
use Rattle.grammar.proofs.Complete as scanning
use Rattle.grammar.proofs.Sound as scanned
use Rattle.grammar.proofs.Offset.{before-bad, at-bad}

-- ---- "gives the one tree of the grammar"

pub formula-scan : {text : List ℕ} {t : Typed} (f : Reads text t) → scan_text text ≡ good f.tokens
formula-scan f =
    let g : Flat awaits 0 f.tokens = rw append-nil at (flat f.derived 0 [] done) in
    scanning.complete f.spelt g

pub scan-formula : {text : List ℕ} {ts : List Token} → scan_text text ≡ good ts → IsFormula text
scan-formula {text} {ts} e =
    let s = scanned.sound text e in
    let t = from-flat s.1 in
    (t.0, record { tokens = ts; spelt = s.0; derived = t.1 })

pub formula-read : {text : List ℕ} {t : Typed} → Reads text t → read_text text ≡ got t []
formula-read f = ap read_scan (formula-scan f) ∙ reading.complete f.derived

pub read-formula : (text : List ℕ) {t : Typed} → read_text text ≡ got t [] → Reads text t
read-formula text {t} e = by-scan (scan_text text) refl e
  where
    by-scan : (s : Scan) → scan_text text ≡ s → read_scan s ≡ got t [] → Reads text t
    by-scan (good ts) q r = record { tokens = ts; spelt = (scanned.sound text q).0; derived = reading.sound ts r }
    by-scan (bad k) q r = absurd (let z : ◌≡◌ {A = ℕ} 0 1 = cc in omega arith)

-- one token list has at most one tree, and one text (`one-spelling`, in `Lexing`, says that it has at most one token list)
pub one-derivation : {ts : List Token} {a b : Typed} → OneDerivation ts a b
one-derivation d e = let p = reading.complete d in let q = reading.complete e in cc

pub one-tree : {text : List ℕ} {a b : Typed} → OneTree text a b
one-tree f g = let p = formula-read f in let q = formula-read g in cc

-- ---- "11 with the offset of the first byte that can't continue a formula (the text's length if it ends early)"

pub scan-refused : {text : List ℕ} {k : ℕ} → scan_text text ≡ bad k → Refused11 text k
scan-refused {text} {k} e = record {
  before = λ j h. let b = before-bad (ready 0) text e (suc j) h in (b.0, scan-formula b.2);
  here = ⊎_elim
      (λ r. inl (r.0, λ s. scanning.bad-good (sym (r.1 s.0) ∙ formula-scan s.1.1)))
      (λ r. inr (r, λ f. scanning.bad-good (sym e ∙ formula-scan f.1)))
      (at-bad (ready 0) text e);
}

formula-starts : (text : List ℕ) → IsFormula text → (j : ℕ) → Starts (take j text)
formula-starts text f j = (drop j text, rw (take-append-drop j text) f)

pub formula-not-refused : {text : List ℕ} {k : ℕ} → FormulaNotRefused text k
formula-not-refused {text} {k} f r = ⊎_elim (λ h. h.1 (formula-starts text f (suc k))) (λ h. h.1 f) r.here

one_side : {text : List ℕ} {j k : ℕ} → Refused11 text j → Refused11 text k → j < k → ⊥
one_side {text} {j} {k} p q h =
    ⊎_elim
    (λ x. x.1 (q.before j h))
    (λ x. ⊎_elim (λ y. omega (arith, x.0, y.0)) (λ y. omega (arith, x.0, y.0)) q.here)
    p.here

pub one-offset : {text : List ℕ} {j k : ℕ} → OneOffset text j k
one-offset {j = j} {k} p q =
    elim (dec_lt j k) [
      | yes h ↦ absurd (one_side p q h)
      | no h ↦ elim (dec_lt k j) [ yes g ↦ absurd (one_side q p g) | no g ↦ omega arith ]
    ]

-- a text is a formula, or refused with an offset
pub formula-or-offset : (text : List ℕ) → FormulaOrOffset text
formula-or-offset text = by-scan (scan_text text) refl
  where
    by-scan : (s : Scan) → scan_text text ≡ s → IsFormula text ⊎ ((k : ℕ) × Refused11 text k)
    by-scan (good ts) e = inl (scan-formula e)
    by-scan (bad k) e = inr (k, scan-refused e)

-- ---- what goes on

pub alive-starts : (text : List ℕ) → alive text ≡ true → Starts text
alive-starts text e = by-scan (scan_text text) refl e
  where
    by-scan : (s : Scan) → scan_text text ≡ s → goes_on s (length text) ≡ true → Starts text
    by-scan (good ts) q h = ([], rw append-nil (scan-formula q))
    by-scan (bad k) q h =
        let n = eqb-true k (length text) h in
        let b = before-bad (ready 0) text q (length text) (omega arith) in
        let c = b.2 in
        (b.0, scan-formula (rw take-length at c))

pub starts-alive : (text : List ℕ) → Starts text → alive text ≡ true
starts-alive text s = by-scan (scan_text text) refl
  where
    by-scan : (x : Scan) → scan_text text ≡ x → goes_on x (length text) ≡ true
    by-scan (good ts) q = refl
    by-scan (bad k) q =
        ⊎_elim
        (λ h.
        let e : take (suc k) text ++ (drop (suc k) text ++ s.0) ≡ text ++ s.0 = sym (append_assoc (take (suc k) text) (drop (suc k) text) s.0) ∙
        ap (λ (x : List ℕ). x ++ s.0) (take-append-drop (suc k) text) in
        absurd (scanning.bad-good (sym (h.1 (drop (suc k) text ++ s.0)) ∙ ap scan_text e ∙ formula-scan s.1.1)))
        (λ h. eq-eqb k (length text) h)
        (at-bad (ready 0) text q)
