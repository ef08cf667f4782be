-- `checked` meets its contract: the check's verdict has its line.
use mathlib.Core.Path.{◌≡◌, ◌∙◌, ap}
use Rattle.std.proofs.Common.{Ok}
use Rattle.verdict.specs.declared.Verdict.{Verdict}
use Rattle.verdict.specs.declared.Verdict.TheVariants.{Accepted, Disagrees}
use Rattle.suspicion.proofs.Answered.{check-line}
use Rattle.suspicion.proofs.checked.Goals as goal

pub returns-in-Ok-Accepted : goal.returns-in-Ok-Accepted
returns-in-Ok-Accepted c =
    let f : c.in-Ok-Accepted.field-0 ≡ Accepted = rw c.in-Ok-Accepted.is at c.in-Ok-Accepted.field-0-is in
    check-line _ _ _ c.node_at-root.ensures c.check-verdict.ensures (c.in-Ok-Accepted.is ∙ ap (λ (v : Verdict). Ok v) f) c.separates.ensures

pub returns-in-Ok-Disagrees : goal.returns-in-Ok-Disagrees
returns-in-Ok-Disagrees c =
    let f : c.in-Ok-Disagrees.field-0 ≡ Disagrees c.in-Ok-Disagrees.session = rw c.in-Ok-Disagrees.is at c.in-Ok-Disagrees.field-0-is in
    check-line _ _ _ c.node_at-root.ensures c.check-verdict.ensures (c.in-Ok-Disagrees.is ∙ ap (λ (v : Verdict). Ok v) f) c.disagrees.ensures

pub returns-in-Err : goal.returns-in-Err
returns-in-Err c = check-line _ _ _ c.node_at-root.ensures c.check-verdict.ensures c.in-Err.is (rw c.from.ensures at c.refused.ensures)
