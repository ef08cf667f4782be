-- The goals of `operator` that the search leaves: each return is a law of `Operators`.
use mathlib.Core.Path.{sym, ◌∙◌}
use native.Mathlib.Omega.{arith}
use Rattle.tokens.proofs.Operators.{op-end, op-blank, op-and, op-or, op-implies, op-equiv, op-less-cut, op-until, op-release, op-none}
use Rattle.tokens.proofs.operator.+operator.Goals as goal

pub returns-then-text-at : goal.returns-then-text-at
returns-then-text-at t c = op-end _ c.args.at c.if-text-at.true

pub returns-then-b-eq32 : goal.returns-then-b-eq32
returns-then-b-eq32 t c = op-blank _ c.if-text-at.false c.operator.result c.if-b-eq32.true c.operator.ensures

pub returns-in-38 : goal.returns-in-38
returns-in-38 t c = op-and _ c.if-text-at.false c.in-38.is

pub returns-in-124 : goal.returns-in-124
returns-in-124 t c = op-or _ c.if-text-at.false c.in-124.is

pub returns-in-45 : goal.returns-in-45
returns-in-45 t c = op-implies _ c.if-text-at.false c.arrow.result c.in-45.is c.arrow.ensures

pub returns-then-byte-ne45 : goal.returns-then-byte-ne45
returns-then-byte-ne45 t c = op-less-cut _ c.if-text-at.false c.in-60.is (λ e. c.if-byte-ne45.true (c.byte.ensures ∙ e))

pub returns-else-byte-ne45 : goal.returns-else-byte-ne45
returns-else-byte-ne45 t c =
    op-equiv _ c.if-text-at.false c.arrow-in-60.result c.in-60.is (sym c.byte.ensures ∙ c.if-byte-ne45.false) c.arrow-in-60.ensures

pub returns-in-85 : goal.returns-in-85
returns-in-85 t c = op-until _ c.if-text-at.false c.word_op.result c.in-85.is c.word_op.ensures

pub returns-in-82 : goal.returns-in-82
returns-in-82 t c = op-release _ c.if-text-at.false c.word_op-in-82.result c.in-82.is c.word_op-in-82.ensures

pub returns-in_default : goal.returns-in_default
returns-in_default t c =
    op-none _ c.if-text-at.false (λ e. omega arith) (λ e. omega arith) (λ e. omega arith) (λ e. omega arith) (λ e. omega arith) (λ e. omega arith) (λ e. omega arith)
