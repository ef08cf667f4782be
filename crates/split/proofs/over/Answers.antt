-- `over` meets its contract: by whether there are two orders, and which is next.
use mathlib.Core.Path.{sym, ◌∙◌}
use borrow.Author.Tests.{not-true, not-false}
use Rattle.split.specs.Split.{after_in}
use Rattle.split.proofs.over.Goals as goal

pub returns-then-not-twice : goal.returns-then-not-twice
unfolding after_in
returns-then-not-twice c = let e = sym c.twice.ensures ∙ not-true _ c.if-not-twice.true-raw in rw e

pub returns-then-at : goal.returns-then-at
unfolding after_in
returns-then-at c = let e = sym c.twice.ensures ∙ not-false _ c.if-not-twice.false-raw in rw (e, c.if-at.true)

pub returns : goal.returns
unfolding after_in
returns c = let e = sym c.twice.ensures ∙ not-false _ c.if-not-twice.false-raw in rw (e, c.if-at.false)
