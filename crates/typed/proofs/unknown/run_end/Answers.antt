-- The goals of `run_end` that the search leaves.
use mathlib.Core.Path.{sym, ◌∙◌}
use Rattle.typed.proofs.Unknowns.{run-start, run_more, run-here, run-all}
use Rattle.typed.proofs.unknown.run_end.Goals as goal

pub loop-i-init : goal.loop-i-init
loop-i-init c = run-start c.args.text.now c.args.start c.requires

pub returns-then-not-is_name_byte : goal.returns-then-not-is_name_byte
returns-then-not-is_name_byte c = run-here c.loop-i.invariant (sym c.is_name_byte.ensures ∙ c.if-not-is_name_byte.true)

pub loop-i-preserved : goal.loop-i-preserved
loop-i-preserved c = run_more c.loop-i.invariant c.loop-i-test.true (sym c.is_name_byte.ensures ∙ c.if-not-is_name_byte.false)

pub returns : goal.returns
returns c = run-all c.loop-i.invariant c.loop-i-test.false
