-- `section` meets its contract: a section after its count, which is the first byte of the file.
use mathlib.Core.Path.{◌≡◌, ap, ◌∙◌}
use Prim.Native.Nat.{ℕ}
use native.Mathlib.Omega.{arith}
use mathlib.Core.List.{[]}
use lib.ListN.{length}
use Rattle.std.proofs.lemmas.Result.{err_from_is_err_and}
use Rattle.reading.specs.Reading.{each_item, step_of}
use Rattle.names.specs.Names.{name}
use Rattle.reading.proofs.Steps.{section-read, section-broken, byte-read, byte_next}
use Rattle.names.proofs.section.Goals as goal

pub returns-in_err-count : goal.returns-in_err-count
returns-in_err-count c =
    let p = err_from_is_err_and c.from_residual.result c.from_residual.ensures.1 in
    rw (p.1, p.2) (section-broken name _ 1 _ 0 c.in_err-count.ensures)

pub names_from-requires : goal.names_from-requires
names_from-requires c = let n = byte_next _ _ _ (byte-read _ c.in_ok-count.ensures) in omega (arith, n.0)

pub returns : goal.returns
returns c =
    let n = byte_next _ _ _ (byte-read _ c.in_ok-count.ensures) in
    let at : 1 ≡ c.in_ok-count.count.next = omega (arith, n.1) in
    section-read name _ 1 _ 0 _ c.in_ok-count.ensures
    (c.names_from.ensures ∙ ap (λ (p : ℕ). step_of length (each_item name c.in_ok-count.count.value [] c.args.file.now p)) at)
