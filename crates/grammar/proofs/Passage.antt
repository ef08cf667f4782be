-- How the answers of the readers are put together: each return of a reading function is one of these.
-- Assumes nothing.
use mathlib.Core.Path.{◌≡◌, refl, sym, ap, ◌∙◌}
use mathlib.Core.Bool.{true}
use mathlib.Core.List.{List, [], ◌∷◌, ◌++◌, append_assoc, append-nil}
use Prim.Native.Nat.{ℕ, suc, ◌+◌, ◌-◌, ◌≤◌, ◌<◌}
use native.Mathlib.Omega.{arith}
use lib.ListN.{length, drop, get_or, length-drop}
use lib.Seq.{drop-cons, drop-drop, drop-length}
use Rattle.sequence.specs.Operators.{Unary, Binary, unary_token}
use Rattle.formula.specs.Formula.{leaf, unary, binary, size}
use Rattle.formula.specs.Nodes.{Node, Codes}
use Rattle.grammar.specs.Nodes.{nodes_of}
use Rattle.formula.specs.Kinds.{node}
use Rattle.grammar.specs.Token.{Typed, Atom, Token, pre, mid, atom, NoWordByte}
use Rattle.sequence.specs.Operators.Unary.{weak_next}
use Rattle.grammar.specs.Grammar.{level, left_level, right_level, operand, prefix, between, Reads, Refused11}
use Rattle.grammar.specs.Grammar as grammar
use Rattle.names.specs.Names.{same_bytes}
use Rattle.grammar.specs.Scan.{prefixed, leafy, neither, classify, ScanState, ready, after, word, dead, go, scan_step, Scan, good, bad, scan_end, behind, scan, scan_text}
use Rattle.grammar.specs.Passing.{scan_ahead, ScanPasses, Stops, Peek, op, nothing, cut, peek, IfOp, QuietAt, Expression, Continues}
use Rattle.grammar.proofs.Levels.{sides, takes-over, lower}
use Rattle.grammar.proofs.Complete.{NoSquare, ended-prefix, ended-leaf, ended-neither}
use Rattle.grammar.proofs.Sound.{sound}
use Rattle.grammar.proofs.Peeks.{Halts, Peeks, peeks}
use Rattle.grammar.proofs.Theorems.{scan-refused}

-- ---- one after the other

ahead-ahead : (m n : ℕ) (ts us : List Token) (x : Scan) → scan_ahead m ts (scan_ahead n us x) ≡ scan_ahead (m + n) (ts ++ us) x
ahead-ahead m n ts us (good vs) = ap good (sym (append_assoc ts us vs))
ahead-ahead m n ts us (bad k) = ap bad (omega arith)

module _ (text : List ℕ) where
  pub pass-none : {s : ScanState} {at : ℕ} → at ≤ length text → ScanPasses text s at [] s at
  pass-none {s} {at} h = record { forward = omega arith; within = h; is = none (scan s (drop at text)) }
    where
      none : (x : Scan) → x ≡ scan_ahead (at - at) [] x
      none (good ts) = refl
      none (bad k) = ap bad (omega arith)

  pub pass-then : {s t u : ScanState} {at mid next : ℕ} {ts us : List Token} → ScanPasses text s at ts t mid → ScanPasses text t mid us u next → ScanPasses text s at (ts ++ us) u next
  pass-then {s} {t} {u} {at} {mid} {next} {ts} {us} p q =
      let n : (mid - at) + (next - mid) ≡ next - at = omega (arith, p.forward, q.forward) in
      record {
        forward = omega (arith, p.forward, q.forward);
        within = q.within;
        is = p.is ∙ ap (scan_ahead (mid - at) ts) q.is ∙ ahead-ahead (mid - at) (next - mid) ts us (scan u (drop next text)) ∙ ap (λ (m : ℕ). scan_ahead m (ts ++ us) (scan u (drop next text))) n;
      }

  pub pass-stop : {s t : ScanState} {at mid k : ℕ} {ts : List Token} → ScanPasses text s at ts t mid → Stops text t mid k → Stops text s at k
  pass-stop {s} {t} {at} {mid} {k} {ts} p q =
      let n : (mid - at) + (k - mid) ≡ k - at = omega (arith, p.forward, q.forward) in
      record { forward = omega (arith, p.forward, q.forward); within = q.within; is = p.is ∙ ap (scan_ahead (mid - at) ts) q.is ∙ ap bad n }

  -- ---- a byte

  pub pass-byte : {s t : ScanState} {at : ℕ} {out : List Token} → at < length text → scan_step s (get_or text at 0) ≡ go out t → ScanPasses text s at out t (at + 1)
  unfolding scan
  pass-byte {s} {t} {at} {out} h e =
      let m : at + 1 ≡ suc at = omega arith in
      let n : suc at - at ≡ 1 = omega arith in
      record { forward = omega arith; within = omega arith; is = rw (drop-cons text at 0 h, e, m, n) (same (scan t (drop (suc at) text))) }
    where
      same : (x : Scan) → behind out x ≡ scan_ahead 1 out x
      same (good ts) = refl
      same (bad k) = ap bad (omega arith)

  pub stop-byte : {s : ScanState} {at : ℕ} → at < length text → scan_step s (get_or text at 0) ≡ dead → Stops text s at at
  unfolding scan
  stop-byte {s} {at} h e =
      let n : at - at ≡ 0 = omega arith in
      record { forward = omega arith; within = omega arith; is = rw (drop-cons text at 0 h, e, n) }

  pub stop-end : {s : ScanState} {at : ℕ} → at ≡ length text → scan_end s ≡ bad 0 → Stops text s at at
  unfolding scan
  stop-end {s} {at} h e =
      let n : at - at ≡ 0 = omega arith in
      let d : drop at text ≡ [] = ap (λ (k : ℕ). drop k text) h ∙ drop-length text in
      record { forward = omega arith; within = omega arith; is = rw (d, e, n) }

  -- ---- a whole word, read to its end

  still : {s t : ScanState} {at : ℕ} {ts : List Token} → at ≤ length text → scan s (drop at text) ≡ scan_ahead 0 ts (scan t (drop at text)) → ScanPasses text s at ts t at
  still {s} {t} {at} {ts} h e = let n : at - at ≡ 0 = omega arith in record { forward = omega arith; within = h; is = rw n e }

  module _ (w : List ℕ) (d : ℕ) {at : ℕ} (h : at ≤ length text) (a : NoWordByte (drop at text)) where
    pub word-prefix : {u : Unary} → classify w ≡ prefixed u → (same_bytes w (unary_token weak_next) ≡ true → NoSquare (drop at text)) → ScanPasses text (word w d) at (pre u ∷ []) (ready d) at
    word-prefix c n = still h (ended-prefix w d c (drop at text) a n)

    pub word-leaf : {l : Atom} → classify w ≡ leafy l → ScanPasses text (word w d) at (atom l ∷ []) (after d) at
    word-leaf c = still h (ended-leaf w d c (drop at text) a)

    pub word-neither : classify w ≡ neither → Stops text (word w d) at at
    word-neither c = let n : at - at ≡ 0 = omega arith in record { forward = omega arith; within = h; is = rw n (ended-neither w d c (drop at text) a) }

  -- ---- the next infix operator

  module _ (at : ℕ) (h : at ≤ length text) where
    at-peek : (d : ℕ) → Peeks d (after d) (drop at text) (peek (drop at text))
    at-peek d = peeks d (drop at text)

    pub pass-op : {o : Binary} {n : ℕ} → peek (drop at text) ≡ op o n → (d : ℕ) → ScanPasses text (after d) at (mid o ∷ []) (ready d) (at + n)
    pass-op {o} {n} e d =
        let p = rw e at (at-peek d) in
        let l = length-drop at text in
        let m : (at + n) - at ≡ n = omega arith in
        record { forward = omega arith; within = omega (arith, p.0); is = rw (m, ← (drop-drop n at text)) p.1 }

    pub pass-nothing : {n : ℕ} → peek (drop at text) ≡ nothing n → (d : ℕ) → ScanPasses text (after d) at [] (after d) (at + n)
    pass-nothing {n} e d =
        let p = rw e at (at-peek d) in
        let l = length-drop at text in
        let m : (at + n) - at ≡ n = omega arith in
        record { forward = omega arith; within = omega (arith, p.0); is = rw (m, ← (drop-drop n at text)) p.1 }

    -- there, only a closing bracket goes on
    pub halts : {n : ℕ} → peek (drop at text) ≡ nothing n → Halts (drop (at + n) text)
    halts {n} e = let p = rw e at (at-peek 0) in rw (← (drop-drop n at text)) p.2

    pub stop-cut : {n : ℕ} → peek (drop at text) ≡ cut n → (d : ℕ) → Stops text (after d) at (at + n)
    stop-cut {n} e d =
        let p = rw e at (at-peek d) in
        let l = length-drop at text in
        let m : (at + n) - at ≡ n = omega arith in
        record { forward = omega arith; within = omega (arith, p.0); is = rw m p.1 }

  -- ---- the returns of `prefix`

  pub is_leaf : {at next : ℕ} (l : Atom) → ((d : ℕ) → ScanPasses text (ready d) at (atom l ∷ []) (after d) next) → Expression text operand at next (leaf l)
  is_leaf l p = record { tokens = atom l ∷ []; passes = p; derived = grammar.alone l }

  pub is-prefix : {at mid next : ℕ} {t : Typed} (u : Unary) → ((d : ℕ) → ScanPasses text (ready d) at (pre u ∷ []) (ready d) mid) → Expression text
      operand mid next t → Expression text operand at next (unary u t)
  is-prefix u p x = record { tokens = pre u ∷ x.tokens; passes = λ d. pass-then (p d) (x.passes d); derived = prefix u x.derived }

  -- ---- the returns of `infix`: an operand, and what goes on

  module _ (C : Codes Atom Unary Binary) (place : ℕ) where
    pub is-infix : {n at mid next before m : ℕ} {t : Typed} {more : List Node} → n ≤ operand → Expression text operand at mid t → size t ≡ before → Continues C place text n mid next before m more
        → (u : Typed) × Expression text n at next u × (size u ≡ m) × (nodes_of C place u ≡ nodes_of C place t ++ more)
    is-infix {n} {at} {mid} {next} {t = t} h x z c =
        let k = c operand x.tokens t h x.derived z (any-calm (peek (drop mid text))) in
        (k.tree, record { tokens = x.tokens ++ k.tokens; passes = λ d. pass-then (x.passes d) (k.passes d); derived = k.derived }, k.sized, k.grows)
      where
        any-calm : (k : Peek) → IfOp (λ o. left_level o ≤ operand) Unit k
        any-calm (op o n) = let s = sides o in omega arith
        any-calm (nothing n) = tt
        any-calm (cut n) = tt

    -- ---- the returns of `more`

    pub no_more : {n at m : ℕ} → at ≤ length text → Continues C place text n at at m m []
    no_more h p xs t l e z c =
        record { tree = t; sized = z; tokens = []; passes = λ d. pass-none h; derived = rw append-nil (lower l e); grows = sym (append-nil (nodes_of C place t)) }

    -- the right side's nodes, and the operator's
    abbrev pub behind_left : ℕ → Binary → Typed → List Node
    behind_left before o r =
        nodes_of C (place + before) r ++ (node (C.of_binary o) (place + before - 1) (place + before + size r - 1) (1 + before + size r) ∷ [])

    pub one_more : {n at mid next w before m : ℕ} {r : Typed} {more : List Node} (o : Binary) → peek (drop at text) ≡ op o w → at ≤ length text → n ≤ level o
        → Expression text (right_level o) (at + w) mid r → QuietAt text (right_level o) mid → Continues C place text n mid next (1 + (before + size r)) m more
        → Continues C place text n at next before m (behind_left before o r ++ more)
    unfolding nodes_of
    one_more {n} {at} {mid = m'} {next} {w} {before} {r = r} {more} o e h l x q c p xs t g y z calm =
        let left : left_level o ≤ p = rw e at calm in
        let k = c (level o) (xs ++ (mid o ∷ x.tokens)) (binary o t r) l (between o (lower left y) x.derived) (omega arith) (now-calm (peek (drop m' text)) q) in
        let same : nodes_of C place (binary o t r) ≡ nodes_of C place t ++ behind_left before o r = ap (λ (v : ℕ). nodes_of C place t ++ behind_left v o r) z in
        record {
          tree = k.tree;
          sized = k.sized;
          tokens = mid o ∷ (x.tokens ++ k.tokens);
          passes = λ d. pass-then (pass-op at h e d) (pass-then (x.passes d) (k.passes d));
          derived = rw (append_assoc xs (mid o ∷ x.tokens) k.tokens) at k.derived;
          grows = k.grows ∙ ap (λ (v : List Node). v ++ more) same ∙ append_assoc (nodes_of C place t) (behind_left before o r) more;
        }
      where
        now-calm : (k : Peek) → IfOp (λ v. level v < right_level o) ⊥ k → IfOp (λ v. left_level v ≤ level o) Unit k
        now-calm (op v n) w = takes-over o v w
        now-calm (nothing n) w = tt
        now-calm (cut n) w = tt

  -- ---- the whole text

  pub is-formula : {end : ℕ} {t : Typed} → Expression text 0 0 end t → ScanPasses text (after 0) end [] (after 0) (length text) → Reads text t
  unfolding scan scan_end
  is-formula {end} {t} x p =
      let w = pass-then (x.passes 0) p in
      let e : scan_text text ≡ good x.tokens = w.is ∙ rw (drop-length text) (ap good (append-nil (x.tokens ++ []) ∙ append-nil x.tokens)) in
      record { tokens = x.tokens; spelt = (sound text e).0; derived = x.derived }

  pub is-refused : {k : ℕ} → Stops text (ready 0) 0 k → Refused11 text k
  is-refused {k} s = let z : k - 0 ≡ k = omega arith in rw z at (scan-refused s.is)
