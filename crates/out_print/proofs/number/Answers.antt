-- `number` gives the number of print's answer: only number 8 has an offset to add, which fits by what is required.
use native.Mathlib.Omega.{arith}
use mathlib.Core.Path.{◌≡◌, ap, ◌∙◌}
use Rattle.std.proofs.Common.{Err}
use Rattle.text.specs.declared.PrintError.{PrintError}
use Rattle.text.specs.declared.PrintError.TheVariants.{Broken}
use Rattle.text.specs.Print.{said_printed}
use Rattle.out_print.proofs.number.Goals as goal

pub overflow_cast-offset : goal.overflow_cast-offset
overflow_cast-offset c =
    let f : c.in-Err-Broken.field-0 ≡ Broken c.in-Err-Broken.offset = rw c.in-Err-Broken.is at c.in-Err-Broken.field-0-is in
    omega (arith, c.requires _ (ap said_printed c.in-Err-Broken.is ∙ ap (λ (e : PrintError). said_printed (Err e)) f))

pub returns-in-Err-Broken : goal.returns-in-Err-Broken
returns-in-Err-Broken c =
    let f : c.in-Err-Broken.field-0 ≡ Broken c.in-Err-Broken.offset = rw c.in-Err-Broken.is at c.in-Err-Broken.field-0-is in
    rw (c.in-Err-Broken.is, f) c.refused_at.ensures
