-- `unanswered` gives 1, 2 or 3: what the core's tests decide with no session lent, with 2 for the budget before 3.
use Rattle.out_resume.proofs.Resuming.{unanswered-over, unanswered-within, unanswered-before}
use Rattle.out_resume.proofs.unanswered.Goals as goal

pub returns-then-budget-gt-BUDGET : goal.returns-then-budget-gt-BUDGET
returns-then-budget-gt-BUDGET c = unanswered-over _ _ _ _ _ _ _ c.if-number-eq3.true c.if-budget-gt-BUDGET.true c.refusal-number.ensures

pub returns-else-budget-gt-BUDGET : goal.returns-else-budget-gt-BUDGET
returns-else-budget-gt-BUDGET c = unanswered-within _ _ _ _ _ _ _ c.if-budget-gt-BUDGET.false c.refusal-number.ensures

pub returns-else-number-eq3 : goal.returns-else-number-eq3
returns-else-number-eq3 c = unanswered-before _ _ _ _ _ _ _ c.if-number-eq3.false c.refusal-number.ensures
