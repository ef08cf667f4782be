-- `codes_section` meets its contract: a section after its count.
use native.Mathlib.Omega.{arith}
use Rattle.std.proofs.lemmas.Result.{err_from_is_err_and}
use Rattle.reading.proofs.Steps.{section-read, section-broken, byte-read, byte_next}
use Rattle.sections.proofs.codes.codes_section.Goals as goal

pub returns-in_err-count : goal.returns-in_err-count
returns-in_err-count c =
    let p = err_from_is_err_and c.from_residual.result c.from_residual.ensures.1 in
    rw (p.1, p.2) (section-broken _ _ 0 255 _ c.in_err-count.ensures)

pub codes_from-requires : goal.codes_from-requires
codes_from-requires c = let n = byte_next _ _ _ (byte-read _ c.in_ok-count.ensures) in omega (arith, n.0, n.1)

pub returns : goal.returns
returns c = section-read _ _ 0 255 _ _ c.in_ok-count.ensures c.codes_from.ensures
