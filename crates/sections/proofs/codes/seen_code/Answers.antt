-- `seen_code` meets its contract: the library looks for the code as the rule does.
use mathlib.Core.Path.{◌≡◌, ap, ◌∙◌}
use Prim.Native.Nat.{ℕ, ◌+◌, ◌-◌}
use native.Mathlib.Omega.{arith}
use lib.Dec.{eqb}
use lib.ListN.{take, drop}
use Rattle.reading.specs.Reading.{is_in}
use Rattle.sections.proofs.CodeLaws.{any_is_in}
use Rattle.sections.proofs.codes.seen_code.Goals as goal

pub returns : goal.returns
returns c =
    let a = c.args in
    let k : a.from + a.count - a.from ≡ a.count = omega arith in
    c.contains.ensures.value ∙ any_is_in a.c _ ∙ ap (λ (n : ℕ). is_in eqb a.c (take n (drop a.from a.file.now))) k
