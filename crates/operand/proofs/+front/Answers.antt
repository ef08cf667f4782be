-- The goals of `front` that the search leaves.
use native.Mathlib.Omega.{arith}
use Rattle.operand.proofs.Fronts.{front-past, front-inside, front-blank, front-bang, front-open, front-none}
use mathlib.Core.Path.{sym, ◌∙◌}
use Rattle.operand.proofs.+front.Goals as goal

pub returns-then-text-at : goal.returns-then-text-at
returns-then-text-at t c = front-past _ c.args.at c.if-text-at.true

pub returns-in-32 : goal.returns-in-32
returns-in-32 t c =
    let h = c.if-text-at.false in
    front-inside _ c.args.at h (front-blank _ c.args.at h c.in-32.is c.front.result (c.front.ensures.0 (omega (arith, h))))

pub returns-in-33 : goal.returns-in-33
returns-in-33 t c = let h = c.if-text-at.false in front-inside _ c.args.at h (front-bang _ c.args.at h c.in-33.is)

pub returns-in-40 : goal.returns-in-40
returns-in-40 t c = let h = c.if-text-at.false in front-inside _ c.args.at h (front-open _ c.args.at h c.in-40.is)

pub returns-else-is_letter : goal.returns-else-is_letter
returns-else-is_letter t c =
    let h = c.if-text-at.false in
    front-inside _ c.args.at h (front-none _ c.args.at h (λ e. omega arith) (λ e. omega arith) (λ e. omega arith) (sym c.is_letter.ensures ∙ c.if-is_letter.false))
