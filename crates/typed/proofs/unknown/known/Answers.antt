-- `known` meets its contract: a reserved word, or one of the names.
use Rattle.names.specs.Lookup.{names_by}
use Rattle.typed.proofs.Unknowns.{known-reserved, known-named}
use Rattle.typed.proofs.unknown.known.Goals as goal

pub returns-then-is_reserved : goal.returns-then-is_reserved
returns-then-is_reserved c = let a = c.args in known-reserved (names_by a.names.now) a.word.now c.if-is_reserved.true c.is_reserved.ensures

pub returns-else-is_reserved : goal.returns-else-is_reserved
returns-else-is_reserved c =
    let a = c.args in
    known-named (names_by a.names.now) a.word.now c.find.result c.if-is_reserved.false c.is_reserved.ensures c.find.ensures c.is_some.ensures
