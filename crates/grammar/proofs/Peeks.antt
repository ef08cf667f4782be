-- The infix operator that comes next, and how the scan goes on past it.
-- Assumes nothing.
use mathlib.Core.Path.{◌≡◌, refl, sym, ap}
use mathlib.Core.Bool.{Bool, true, false, cond}
use mathlib.Core.List.{List, [], ◌∷◌, ◌++◌, append_assoc}
use Prim.Native.Nat.{ℕ, suc, ◌≤◌}
use native.Mathlib.Omega.{arith}
use lib.Dec.{eqb}
use lib.ListN.{length, drop}
use Rattle.sequence.specs.Operators.{Binary}
use Rattle.sequence.specs.Operators.Binary.{or, and, until, release, implies, equiv}
use Rattle.names.specs.Names.{is_name_byte}
use Rattle.grammar.specs.Token.{Token, mid}
use Rattle.grammar.specs.Scan.{Sign, blank, bang, opener, closer, amp, bar, dash, less, other, Kind, wordy, square, sign, kind, ScanState, ready, apart, after, rest, dead, go}
use Rattle.grammar.specs.Scan.{scan_step, Scan, good, bad, scan_end, behind, scan}
use Rattle.grammar.specs.Passing.{scan_ahead, Peek, op, nothing, cut, further, expect, alone, peek_sign, peek_kind, peek}
use Rattle.grammar.proofs.Words.{SignIs, KindIs, kind-is, kind-word}
use Rattle.grammar.proofs.Complete.{read-apart}

-- where no operator begins, only a closing bracket goes on
abbrev pub Halts : List ℕ → Type 0
Halts [] = Unit
Halts (b ∷ text) = (b ≡ 41 → ⊥) → (d : ℕ) → scan_step (after d) b ≡ dead

module _ (d : ℕ) where
  abbrev pub Peeks : ScanState → List ℕ → Peek → Type 0
  Peeks s text (op o n) = (n ≤ length text) × (scan s text ≡ scan_ahead n (mid o ∷ []) (scan (ready d) (drop n text)))
  Peeks s text (nothing n) = (n ≤ length text) × (scan s text ≡ scan_ahead n [] (scan (after d) (drop n text))) × Halts (drop n text)
  Peeks s text (cut n) = (n ≤ length text) × (scan s text ≡ bad n)

  behind-ahead : (out ts : List Token) (n : ℕ) (x : Scan) → behind out (scan_ahead n ts x) ≡ scan_ahead (suc n) (out ++ ts) x
  behind-ahead out ts n (good us) = ap good (sym (append_assoc out ts us))
  behind-ahead out ts n (bad k) = ap bad (omega arith)

  module _ (s : ScanState) (b : ℕ) (text : List ℕ) where
    at-further : (t : ScanState) (k : Peek) → scan_step s b ≡ go [] t → Peeks t text k → Peeks s (b ∷ text) (further k)
    unfolding scan
    at-further t (op o n) e p = (omega (arith, p.0), rw (e, p.1) (behind-ahead [] (mid o ∷ []) n (scan (ready d) (drop n text))))
    at-further t (nothing n) e p = (omega (arith, p.0), rw (e, p.1) (behind-ahead [] [] n (scan (after d) (drop n text))), p.2)
    at-further t (cut n) e p = (omega (arith, p.0), rw (e, p.1))

    at_op : (t : ScanState) (o : Binary) → scan_step s b ≡ go (mid o ∷ []) t → scan t text ≡ scan (ready d) text → Peeks s (b ∷ text) (op o 1)
    unfolding scan
    at_op t o e p = (omega arith, rw (e, p) (same (scan (ready d) text)))
      where
        same : (x : Scan) → behind (mid o ∷ []) x ≡ scan_ahead 1 (mid o ∷ []) x
        same (good ts) = refl
        same (bad k) = ap bad (omega arith)

    at_cut : scan_step s b ≡ dead → Peeks s (b ∷ text) (cut 0)
    unfolding scan
    at_cut e = (omega arith, rw e)

  at-nothing : (text : List ℕ) → Halts text → Peeks (after d) text (nothing 0)
  at-nothing text h = (omega arith, same (scan (after d) text), h)
    where
      same : (x : Scan) → x ≡ scan_ahead 0 [] x
      same (good ts) = refl
      same (bad k) = ap bad (omega arith)

  expects : (c : ℕ) (cs : List ℕ) (o : Binary) (text : List ℕ) → Peeks (rest c cs (mid o) d) text (expect (c ∷ cs) o text)
  unfolding expect scan scan_step scan_end
  expects c cs o [] = (omega arith, refl)
  expects c [] o (b ∷ text) = by-test (eqb b c) refl
    where
      by-test : (t : Bool) → eqb b c ≡ t → Peeks (rest c [] (mid o) d) (b ∷ text) (cond t (op o 1) (cut 0))
      by-test true q = at_op (rest c [] (mid o) d) b text (ready d) o (rw q) refl
      by-test false q = at_cut (rest c [] (mid o) d) b text (rw q)
  expects c (a ∷ cs) o (b ∷ text) = by-test (expects a cs o text) (eqb b c) refl
    where
      by-test : Peeks (rest a cs (mid o) d) text (expect (a ∷ cs) o text) → (t : Bool) → eqb b c ≡ t → Peeks (rest c (a ∷ cs) (mid o) d) (b ∷ text) (cond t (further (expect (a ∷ cs) o text)) (cut 0))
      by-test ih true q = at-further (rest c (a ∷ cs) (mid o) d) b text (rest a cs (mid o) d) (expect (a ∷ cs) o text) (rw q) ih
      by-test ih false q = at_cut (rest c (a ∷ cs) (mid o) d) b text (rw q)

  alones : (b : ℕ) (o : Binary) (text : List ℕ) → scan_step (after d) b ≡ go (mid o ∷ []) (apart d) → Peeks (after d) (b ∷ text) (alone o text)
  unfolding scan scan_step scan_end
  alones b o [] e = at_op (after d) b [] (apart d) o e refl
  alones b o (a ∷ text) e = by-test (is_name_byte a) refl
    where
      by-test : (t : Bool) → is_name_byte a ≡ t → Peeks (after d) (b ∷ a ∷ text) (cond t (cut 1) (op o 1))
      by-test true q = (omega arith, rw (e, kind-word a q))
      by-test false q = at_op (after d) b (a ∷ text) (apart d) o e (read-apart d (a ∷ text) q)

  module _ (b : ℕ) (text : List ℕ) (below : Peek) (ih : Peeks (after d) text below) where
    peek-sign : (s : Sign) → kind b ≡ sign s → SignIs b s → Peeks (after d) (b ∷ text) (peek_sign s text below)
    unfolding scan_step
    peek-sign blank e h = at-further (after d) b text (after d) below (rw e) ih
    peek-sign bang e h = at-nothing (b ∷ text) (λ n d. rw e)
    peek-sign opener e h = at-nothing (b ∷ text) (λ n d. rw e)
    peek-sign closer e h = at-nothing (b ∷ text) (λ n d. absurd (n h))
    peek-sign amp e h = at_op (after d) b text (ready d) and (rw e) refl
    peek-sign bar e h = at_op (after d) b text (ready d) or (rw e) refl
    peek-sign dash e h = at-further (after d) b text (rest 62 [] (mid implies) d) (expect (62 ∷ []) implies text) (rw e) (expects 62 [] implies text)
    peek-sign less e h = at-further (after d) b text (rest 45 (62 ∷ []) (mid equiv) d) (expect (45 ∷ 62 ∷ []) equiv text) (rw e) (expects 45 (62 ∷ []) equiv text)
    peek-sign other e h = at-nothing (b ∷ text) (λ n d. rw e)

    peek-kind : (k : Kind) → kind b ≡ k → KindIs b k → Peeks (after d) (b ∷ text) (peek_kind b k text below)
    unfolding scan_step
    peek-kind (wordy l) e h = by-test (eqb b 85) (eqb b 82) refl refl
      where
        by-test : (p q : Bool) → eqb b 85 ≡ p → eqb b 82 ≡ q → Peeks (after d) (b ∷ text) (cond p (alone until text) (cond q (alone release text) (nothing 0)))
        by-test true q u r = alones b until text (rw (e, u))
        by-test false true u r = alones b release text (rw (e, u, r))
        by-test false false u r = at-nothing (b ∷ text) (λ n d. rw (e, u, r))
    peek-kind square e h = at-nothing (b ∷ text) (λ n d. rw e)
    peek-kind (sign s) e h = peek-sign s e h.1

  pub peeks : (text : List ℕ) → Peeks (after d) text (peek text)
  unfolding peek
  peeks [] = at-nothing [] tt
  peeks (b ∷ text) = peek-kind b text (peek text) (peeks text) (kind b) refl (kind-is b)

-- an operator has a byte
abbrev Some : Peek → Type 0
Some (op o n) = 1 ≤ n
Some (nothing n) = Unit
Some (cut n) = Unit

some-further : (k : Peek) → Some (further k)
some-further (op o n) = omega arith
some-further (nothing n) = tt
some-further (cut n) = tt

pub some : (text : List ℕ) → Some (peek text)
unfolding peek
some [] = tt
some (b ∷ text) = by_kind (kind b)
  where
    by-alone : (o : Binary) (l : List ℕ) → Some (alone o l)
    by-alone o [] = omega arith
    by-alone o (a ∷ l) = by-test (is_name_byte a)
      where
        by-test : (t : Bool) → Some (cond t (cut 1) (op o 1))
        by-test true = tt
        by-test false = omega arith

    by-letter : (p q : Bool) → Some (cond p (alone until text) (cond q (alone release text) (nothing 0)))
    by-letter true q = by-alone until text
    by-letter false true = by-alone release text
    by-letter false false = tt

    by_sign : (s : Sign) → Some (peek_sign s text (peek text))
    by_sign blank = some-further (peek text)
    by_sign bang = tt
    by_sign opener = tt
    by_sign closer = tt
    by_sign amp = omega arith
    by_sign bar = omega arith
    by_sign dash = some-further (expect (62 ∷ []) implies text)
    by_sign less = some-further (expect (45 ∷ 62 ∷ []) equiv text)
    by_sign other = tt

    by_kind : (k : Kind) → Some (peek_kind b k text (peek text))
    by_kind (wordy l) = by-letter (eqb b 85) (eqb b 82)
    by_kind square = tt
    by_kind (sign s) = by_sign s
