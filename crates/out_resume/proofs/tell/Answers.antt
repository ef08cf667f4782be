-- `tell` meets its contract: the counts, and what the end tells.
use mathlib.Core.Path.{◌∙◌}
use Rattle.state.specs.declared.End.{End}
use Rattle.out_resume.proofs.Resuming.{told_at}
use Rattle.out_resume.proofs.tell.Goals as goal

pub returns-in-Found : goal.returns-in-Found
returns-in-Found c = c.tell_found.ensures ∙ told_at _ _ End.Found c.in-Found.is

pub returns-in-None : goal.returns-in-None
returns-in-None c = told_at _ _ End.None c.in-None.is

pub returns-in-Full : goal.returns-in-Full
returns-in-Full c = told_at _ _ End.Full c.in-Full.is

pub returns-in-More : goal.returns-in-More
returns-in-More c = told_at _ _ End.More c.in-More.is

pub returns-in-Other : goal.returns-in-Other
returns-in-Other c = told_at _ _ (End.Other _) c.in-Other.is
