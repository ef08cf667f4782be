-- Recorded sessions without snapshots: their words are 0, and a formula looks at no proposition but those that were recorded.
-- Assumes nothing.
use mathlib.Core.Path.{◌≡◌}
use mathlib.Core.Logic.Iff
use mathlib.Core.Logic.{◌↔◌}
use Prim.Native.Nat.{ℕ, ◌<◌}
use native.Mathlib.Omega.{arith}
use Rattle.sequence.proofs.Agreeing.{Agree, unary-agree, binary-agree}
use Rattle.formula.specs.Formula.{Formula, leaf, unary, binary, proposition, constant, Trace, Language, Holds, Offered}
use Rattle.formula.specs.Empty.{Empty}
use Rattle.formula.specs.Recorded.{marked_trace}
use Rattle.formula.proofs.Empty.{empty-trace}
use Rattle.walk.specs.Input.{language}
use Rattle.walk.specs.Promises.{EmptySession}

-- a trace with no proposition but the first m
abbrev first : ℕ → Trace → Trace
first m τ = record { length = τ.length; holds = λ p k. (p < m) × τ.holds p k }

agrees : (ℒ : Language) (τ : Trace) (t : Formula) → Offered ℒ t → Agree τ.length (Holds τ t) (Holds (first ℒ.propositions τ) t)
agrees ℒ τ (leaf (proposition p)) o = λ k h. (λ q. (o, q), λ q. q.1)
agrees ℒ τ (leaf (constant b)) o = λ k h. (λ q. q, λ q. q)
agrees ℒ τ (unary op t) o = unary-agree op τ.length (Holds τ t) (Holds (first ℒ.propositions τ) t) (agrees ℒ τ t o.1)
agrees ℒ τ (binary op l r) o =
    binary-agree op τ.length (Holds τ l) (Holds (first ℒ.propositions τ) l) (Holds τ r) (Holds (first ℒ.propositions τ) r) (agrees ℒ τ l o.1) (agrees ℒ τ r o.2)

pub empty-session : EmptySession
empty-session i s j l e t o =
    let τ = (marked_trace i.recording j).trace in
    let m = i.recording.propositions in
    let bare : Empty (first m τ) = record { no-snapshot = e; nothing = λ p q. omega (arith, (s.well-formed j p l q.0).clear 0 (omega arith), q.1) } in
    Iff.trans (agrees (language i) τ t o 0 (omega arith)) (empty-trace (first m τ) bare t)
