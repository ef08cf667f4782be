-- What passes the operators' rows: well-formed sequences, and two of one length; and what a constructor's answer tells of a word.
-- Assumes nothing.
use mathlib.Core.Path.{◌≡◌, refl, sym, subst}
use mathlib.Core.Bool.{true≢false}
use mathlib.Core.Logic.{inr}
use mathlib.Core.List.{List, [], ◌∷◌, ◌++◌}
use Prim.Native.Nat.{ℕ, ◌≤◌, ◌<◌}
use native.Mathlib.Decide.{ℕ_discrete}
use native.Mathlib.Omega.{arith}
use lib.Dec.{lit<}
use Rattle.words.specs.Word.{width, WfRecorded, places}
use Rattle.words.proofs.At.{not_at}
use Rattle.sequence.specs.declared.CharSeq.{CharSeq}
use Rattle.std.specs.Prelude.{Result, Ok, Err, is_ok, IsErr, IsErrAnd, true, ◌↔◌}
use Rattle.rules.specs.declared.refusal.Refusal.{Refusal}
use Rattle.sequence.specs.Operators.{Unary, Binary, unary_code, binary_code}
use Rattle.rules.specs.Refusals.{Row, Decided, refusal_number}
use Rattle.sequence.specs.Sequence.{seq, WellFormed, unequal, ill_formed, ill_recorded, Answers, RecordedAnswer, unary_rows, binary_rows}
use Rattle.rules.proofs.Refusals.{Numbered, decided-unique, decided-none, decided-not, refusal-positive, handed-up}

-- ---- an answer that is a refusal: what `?` hands up of a check that decided

pub refused-answers : (rows : List Row) (asked : CharSeq → Type 0) (a : Result CharSeq Refusal) (refusal : Refusal) → Decided rows (refusal_number refusal)
    → IsErr a × IsErrAnd a (λ e. e ≡ refusal) → Answers rows asked a
refused-answers rows asked a refusal d h = subst (Answers rows asked) (sym (handed-up a refusal h)) (d, refusal-positive refusal)

-- ---- what passes

-- the rows of one sequence, before others
passed : (s : CharSeq) (more : List Row) → Numbered more → Decided (ill_formed s ++ more) 0 → WellFormed s × Decided more 0
passed s more n d =
    let a = decided-none _ _ (lit< tt, (lit< tt, n)) d in
    let b = decided-none _ _ (lit< tt, n) a.1 in
    (record { short = short a.0; clear = λ i h. not_at s.values i (λ p. b.0 (i, h, p)) }, b.1)
  where
    short : (width < s.length → ⊥) → places s.length ≤ width
    short h = omega arith

pub unary-passed : (code : ℕ) (s : CharSeq) → Decided (unary_rows code s) 0 → (((op : Unary) → unary_code op ≡ code → ⊥) → ⊥) × WellFormed s
unary-passed code s d =
    let a = decided-none _ _ (lit< tt, (lit< tt, (lit< tt, tt))) d in
    (a.0, (passed s [] tt a.1).0)

pub binary-passed : (code : ℕ) (s t : CharSeq) → Decided (binary_rows code s t) 0
    → (((op : Binary) → binary_code op ≡ code → ⊥) → ⊥) × WellFormed s × WellFormed t × (s.length ≡ t.length)
binary-passed code s t d =
    let one : Numbered (unequal s t ∷ []) = (lit< tt, tt) in
    let three : Numbered (ill_formed t ++ (unequal s t ∷ [])) = (lit< tt, (lit< tt, one)) in
    let a = decided-none _ _ (lit< tt, (lit< tt, (lit< tt, three))) d in
    let b = passed s (ill_formed t ++ (unequal s t ∷ [])) three a.1 in
    let e = passed t (unequal s t ∷ []) one b.1 in
    let f = decided-none (unequal s t) [] one e.1 in
    (a.0, b.0, e.0, elim (ℕ_discrete s.length t.length) [ yes q ↦ q | no q ↦ absurd (f.0 q) ])

-- ---- and back: what is well formed passes

passes : (s : CharSeq) (more : List Row) → WellFormed s → Decided more 0 → Decided (ill_formed s ++ more) 0
unfolding Decided
passes s more w d = inr (λ h. omega (arith, w.short), inr (λ t. omega (arith, w.clear t.0 t.1), d))

pub unary-passes : (op : Unary) (s : CharSeq) → WellFormed s → Decided (unary_rows (unary_code op) s) 0
unfolding Decided
unary-passes op s w = inr (λ h. h op refl, passes s [] w refl)

pub binary-passes : (op : Binary) (s t : CharSeq) → WellFormed s → WellFormed t → s.length ≡ t.length → Decided (binary_rows (binary_code op) s t) 0
unfolding Decided
binary-passes op s t w u e = inr (λ h. h op refl, passes s (ill_formed t ++ (unequal s t ∷ [])) w (passes t (unequal s t ∷ []) u (decided-not (unequal s t) (λ n. n e))))

-- ---- the constructor of what was recorded: its answer tells whether the word is well formed at the length

recorded-clear : {n x : ℕ} → Decided (ill_recorded (seq n x)) 0 → WfRecorded n x
recorded-clear {n} {x} d =
    let f = decided-none _ _ (lit< tt, (lit< tt, tt)) d in
    let g = decided-none _ _ (lit< tt, tt) f.1 in
    record { short = short f.0; clear = λ i h. not_at x i (λ q. g.0 (i, h, q)) }
  where
    short : (width < n → ⊥) → n ≤ width
    short h = omega arith

pub recorded-passes : {n x : ℕ} → WfRecorded n x → Decided (ill_recorded (seq n x)) 0
unfolding Decided
recorded-passes w = inr (λ h. omega (arith, w.short), inr (λ t. omega (arith, w.clear t.0 t.1), refl))

pub recorded_ok : {n x : ℕ} (a : Result CharSeq Refusal) → RecordedAnswer n x a → (is_ok a ≡ true) ↔ WfRecorded n x
recorded_ok (Ok s) p = (λ e. recorded-clear p.0, λ w. refl)
recorded_ok {n} {x} (Err refusal) p =
    (λ e. absurd (true≢false (sym e)), λ w. absurd (omega (arith, refusal-positive refusal, decided-unique (ill_recorded (seq n x)) _ 0 p.0 (recorded-passes w))))
