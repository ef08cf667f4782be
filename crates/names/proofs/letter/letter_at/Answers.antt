-- `letter_at` meets its contract: the tests on the way to each return say which case of the rule holds.
use borrow.Author.Tests.{lt-ltb, le-ltb}
use mathlib.Core.Path.{sym, ◌∙◌}
use Rattle.reading.specs.Reading.{byte}
use Rattle.names.proofs.letter.letter_at.Goals as goal

pub returns-then-file-at : goal.returns-then-file-at
unfolding byte
returns-then-file-at c = simp (le-ltb _ _ c.if-file-at.true)

pub returns-then-not-fits_name : goal.returns-then-not-fits_name
unfolding byte
returns-then-not-fits_name c = simp (lt-ltb _ _ c.if-file-at.false, sym c.fits_name.ensures ∙ c.if-not-fits_name.true)

pub returns : goal.returns
unfolding byte
returns c = simp (lt-ltb _ _ c.if-file-at.false, sym c.fits_name.ensures ∙ c.if-not-fits_name.false)
