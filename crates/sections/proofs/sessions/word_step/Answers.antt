-- `word_step` meets its contract: the tests on the way to each return say which case of the rule holds.
use Prim.Native.Nat.{◌+◌, ◌≤◌, ◌<◌}
use lib.ListN.{length}
use native.Mathlib.Omega.{arith}
use borrow.Author.Tests.{lt-leb, le-leb}
use mathlib.Core.Path.{sym, ◌∙◌}
use Rattle.sections.specs.Sections.{eight_bytes}
use Rattle.sections.proofs.sessions.word_step.Goals as goal

pub returns-then-bytes_left-lt8 : goal.returns-then-bytes_left-lt8
unfolding eight_bytes
returns-then-bytes_left-lt8 c =
    let a = c.args in
    let short : length a.file.now < a.at + 8 = omega (arith, c.bytes_left.ensures) in
    simp (lt-leb _ _ short)

pub returns-then-not-is_clear : goal.returns-then-not-is_clear
unfolding eight_bytes
returns-then-not-is_clear c =
    let a = c.args in
    let long : a.at + 8 ≤ length a.file.now = omega (arith, c.bytes_left.ensures) in
    simp (le-leb _ _ long, sym c.word_at.ensures, sym c.is_clear.ensures ∙ c.if-not-is_clear.true)

pub returns : goal.returns
unfolding eight_bytes
returns c =
    let a = c.args in
    let long : a.at + 8 ≤ length a.file.now = omega (arith, c.bytes_left.ensures) in
    simp (le-leb _ _ long, sym c.word_at.ensures, sym c.is_clear.ensures ∙ c.if-not-is_clear.false)
