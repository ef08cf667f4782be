-- `number` gives the number of the reader's answer: only number 8 has an offset to add, which fits by what is required.
use native.Mathlib.Omega.{arith}
use mathlib.Core.Path.{◌≡◌, ap, ◌∙◌}
use Rattle.std.proofs.Common.{Err}
use Rattle.file.specs.declared.ReadError.{ReadError}
use Rattle.file.specs.declared.ReadError.TheVariants.{Broken}
use Rattle.file.specs.Reading.{said_read}
use Rattle.out_read.proofs.number.Goals as goal

pub overflow_cast-offset : goal.overflow_cast-offset
overflow_cast-offset c =
    let f : c.in-Err-Broken.field-0 ≡ Broken c.in-Err-Broken.offset = rw c.in-Err-Broken.is at c.in-Err-Broken.field-0-is in
    omega (arith, c.requires _ (ap said_read c.in-Err-Broken.is ∙ ap (λ (e : ReadError). said_read (Err e)) f))

pub returns-in-Ok : goal.returns-in-Ok
returns-in-Ok c = rw c.in-Ok.is

pub returns-in-Err-Broken : goal.returns-in-Err-Broken
returns-in-Err-Broken c =
    let f : c.in-Err-Broken.field-0 ≡ Broken c.in-Err-Broken.offset = rw c.in-Err-Broken.is at c.in-Err-Broken.field-0-is in
    rw (c.in-Err-Broken.is, f) c.refused_at.ensures
