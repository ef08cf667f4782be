-- What the contract of `judge` comes to: one result for every input, and over slices that hold what a walk has kept the walk's.
-- Assumes nothing.
use mathlib.Core.Path.{◌≡◌, refl, sym, ◌∙◌, subst}
use mathlib.Core.Logic.{◌⊎◌, inl, inr}
use mathlib.Core.Bool.{true, false, true≢false}
use mathlib.Core.List.{List}
use Prim.Native.Nat.{ℕ, ◌≤◌, ◌<◌}
use native.Mathlib.Omega.{arith}
use Rattle.rules.specs.Limits.{most_room}
use Rattle.rules.specs.declared.kinds.Place.{Place}
use Rattle.formula.specs.declared.kinds.Node.{Node}
use Rattle.formula.specs.Kinds.{node_of}
use Rattle.walk.specs.Input.{input_of}
use Rattle.rows.proofs.Unique.{rows-unique}
use Rattle.std.specs.Prelude.{Some, None}
use Rattle.comparison.specs.Compare.{KnownAnswer}
use Rattle.table.specs.Acceptance.{agreeing}
use Rattle.table.specs.Slices.{Cols}
use Rattle.table.proofs.Unique.{keep-unique}
use Rattle.counting.specs.declared.Fate.{Fate}
use Rattle.counting.specs.declared.Fate.TheVariants.{Found, Dropped, Full, Kept}
use Rattle.candidate.specs.Judge.{Tests, Does}
use Rattle.candidate.specs.Promises.{JudgeUnique, JudgeWalks}
use Rattle.candidate.proofs.Judging.{does-found, does-dropped, does-full, does-kept}

-- ---- one result

module _ (r room : ℕ) (marks : List ℕ) (node : Node) (count : ℕ) (rows : List ℕ) (t u w : Cols) where
  disagree : {A : Type 0} → agreeing r marks rows ≡ true → agreeing r marks rows ≡ false → A
  disagree e f = absurd (true≢false (sym e ∙ f))

  -- a place with an equal matrix, and none
  both : {A : Type 0} (p : Place) → KnownAnswer r t.matrices rows count (Some p) → KnownAnswer r t.matrices rows count None → A
  both p a n = absurd (n a.0 p.0 a.1 a.2)

  no_room : (room ≤ count) ⊎ (most_room ≤ count) → count < room → count < most_room → ⊥
  no_room (inl a) b c = omega arith
  no_room (inr a) b c = omega arith

  tests-unique : (a b : Fate) → Tests r room marks node count rows t u a → Tests r room marks node count rows t w b → (a ≡ b) × (u ≡ w)
  tests-unique Found Found x y = (refl, x.1 ∙ sym y.1)
  tests-unique Found Dropped x y = disagree x.0 y.0
  tests-unique Found Full x y = disagree x.0 y.0
  tests-unique Found Kept x y = disagree x.0 y.0
  tests-unique Dropped Found x y = disagree y.0 x.0
  tests-unique Dropped Dropped x y = (refl, x.2 ∙ sym y.2)
  tests-unique Dropped Full x y = both x.1.0 x.1.1 y.1
  tests-unique Dropped Kept x y = both x.1.0 x.1.1 y.1
  tests-unique Full Found x y = disagree y.0 x.0
  tests-unique Full Dropped x y = both y.1.0 y.1.1 x.1
  tests-unique Full Full x y = (refl, x.3 ∙ sym y.3)
  tests-unique Full Kept x y = absurd (no_room x.2 y.2 y.3)
  tests-unique Kept Found x y = disagree y.0 x.0
  tests-unique Kept Dropped x y = both y.1.0 y.1.1 x.1
  tests-unique Kept Full x y = absurd (no_room y.2 x.2 x.3)
  tests-unique Kept Kept x y = (refl, (keep-unique r rows count (node_of node) t u w x.4.0 y.4.0 x.4.1 y.4.1).1)

pub judge-unique : JudgeUnique
judge-unique r m room marks words masks node count rows x y t u w a b p q =
    let e = (rows-unique r m masks words t.matrices node.code node.left.0 node.right.0 rows x y p.filled q.filled p.made q.made).1 in
    let z = tests-unique r room marks node count x t u w a b p.tests (subst (λ (l : List ℕ). Tests r room marks node count l t w b) (sym e) q.tests) in
    (z.0, e, z.1)

-- ---- the walk's

pub judge-walks : JudgeWalks
judge-walks r m room marks words masks node count rows rows' t t' Found j bound constants lengths unary binary t₀ k x o =
    subst (λ (z : Cols). Does (input_of r m bound room constants marks lengths words unary binary) node t₀ z k x Found) (sym j.tests.1)
    (does-found o (record { filled = j.filled; answer = j.made }) (sym j.tests.0))
judge-walks r m room marks words masks node count rows rows' t t' Dropped j bound constants lengths unary binary t₀ k x o =
    subst (λ (z : Cols). Does (input_of r m bound room constants marks lengths words unary binary) node t₀ z k x Dropped) (sym j.tests.2)
    (does-dropped o (record { filled = j.filled; answer = j.made }) (sym j.tests.0) j.tests.1)
judge-walks r m room marks words masks node count rows rows' t t' Full j bound constants lengths unary binary t₀ k x o =
    subst (λ (z : Cols). Does (input_of r m bound room constants marks lengths words unary binary) node t₀ z k x Full) (sym j.tests.3)
    (does-full o (record { filled = j.filled; answer = j.made }) (sym j.tests.0) j.tests.1 (elim j.tests.2 [ inl h ↦ h | inr h ↦ omega (arith, o.passes.room_in) ]))
judge-walks r m room marks words masks node count rows rows' t t' Kept j bound constants lengths unary binary t₀ k x o =
    does-kept o (record { filled = j.filled; answer = j.made }) (sym j.tests.0) j.tests.1 j.tests.2 (record { done = j.tests.4.0; answer = j.tests.4.1 })
