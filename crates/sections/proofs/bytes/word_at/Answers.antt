-- `word_at` meets its contract: the library reads the word from its eight bytes.
use mathlib.Core.Path.{◌≡◌, ap, ◌∙◌}
use Prim.Native.Nat.{ℕ, ◌+◌, ◌-◌}
use native.Mathlib.Omega.{arith}
use lib.ListN.{take, drop}
use Rattle.sections.specs.Sections.{number}
use Rattle.sections.proofs.Numbers.{low_first}
use Rattle.sections.proofs.bytes.word_at.Goals as goal

pub returns : goal.returns
returns c =
    let a = c.args in
    let e = c.copy_from_slice.ensures in
    let k : a.at + 8 - a.at ≡ 8 = omega arith in
    c.from_le_bytes.ensures ∙ low_first c.copy_from_slice.new.self e.len
    ∙ ap number (e.after ∙ ap (λ (n : ℕ). take n (drop a.at a.file.now)) k)
