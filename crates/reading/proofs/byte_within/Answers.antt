-- `byte_within` meets its contract: the tests on the way to each return say which case of the rule holds.
use mathlib.Core.Logic.{inl, inr}
use borrow.Author.Tests.{lt-ltb, le-ltb, le-leb, lt-leb}
use Rattle.reading.specs.Reading.{byte}
use Rattle.reading.proofs.byte_within.Goals as goal

pub returns-then-file-at : goal.returns-then-file-at
unfolding byte
returns-then-file-at c = simp (le-ltb _ _ c.if-file-at.true)

pub returns-then-value-lo : goal.returns-then-value-lo
unfolding byte
returns-then-value-lo c =
    elim c.then-value-lo.either [
      | inl low ↦ simp (lt-ltb _ _ c.if-file-at.false, lt-leb _ _ low)
      | inr high ↦ simp (lt-ltb _ _ c.if-file-at.false, le-leb _ _ high.0, lt-leb _ _ high.1)
    ]

pub returns : goal.returns
unfolding byte
returns c = simp (lt-ltb _ _ c.if-file-at.false, le-leb _ _ c.if-value-lo.false, le-leb _ _ c.if-hi-value.false)
