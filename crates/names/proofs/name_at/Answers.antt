-- `name_at` meets its contract: the length byte, the letters, and the names before.
use mathlib.Core.Path.{sym, ◌∙◌}
use mathlib.Core.List.{[]}
use Rattle.std.proofs.lemmas.Result.{err_from_is_err_and}
use Rattle.names.proofs.Sections.{name-no-length, name-bad-letter, name-fits, name-twice, name_new}
use Rattle.names.proofs.name_at.Goals as goal

pub returns-in_err-n : goal.returns-in_err-n
returns-in_err-n c =
    let p = err_from_is_err_and c.from_residual.result c.from_residual.ensures.1 in
    rw (p.1, p.2) (name-no-length _ _ _ c.in_err-n.ensures)

pub returns-in_err-letters : goal.returns-in_err-letters
returns-in_err-letters c =
    let p = err_from_is_err_and c.from_residual-in_err-letters.result c.from_residual-in_err-letters.ensures.1 in
    rw (p.1, p.2) (name-bad-letter _ _ _ c.in_ok-n.ensures c.in_err-letters.ensures)

pub taken_name-requires : goal.taken_name-requires
taken_name-requires c = (c.requires, name-fits _ [] _ c.in_ok-n.ensures c.in_ok-letters.ensures)

pub returns-then-taken_name : goal.returns-then-taken_name
returns-then-taken_name c = name-twice _ _ _ c.in_ok-n.ensures c.in_ok-letters.ensures (sym c.taken_name.ensures ∙ c.if-taken_name.true)

pub returns : goal.returns
returns c = name_new _ _ _ c.in_ok-n.ensures c.in_ok-letters.ensures (sym c.taken_name.ensures ∙ c.if-taken_name.false)
