-- `rows_of` meets its contract: each group of codes by its own function.
use native.Mathlib.Omega.{arith}
use borrow.Author.Rules.{rules}
use Rattle.operators.proofs.Groups.{in-unary, in-binary, in-neither}
use Rattle.rows.proofs.Candidates.{unary-told, binary-told, leaf-told}
use Rattle.rows.proofs.rows_of.Goals as goal

pub rows_of-requires : goal.rows_of-requires
rows_of-requires c = let f = c.operator_of-group in (search rules, search rules, in-unary _ f.result f.ensures c.in-Unary.is)

pub rows_of-requires-in-Binary : goal.rows_of-requires-in-Binary
rows_of-requires-in-Binary c = let f = c.operator_of-group in (search rules, search rules, in-binary _ f.result f.ensures c.in-Binary.is)

pub rows_of-requires-in-Neither : goal.rows_of-requires-in-Neither
rows_of-requires-in-Neither c =
    let f = c.operator_of-group in
    let none = in-neither _ f.result f.ensures c.in-Neither.is in
    (search rules, search rules, λ u. none.0 u.0 u.1, λ u. none.1 u.0 u.1)

pub returns-in-Unary : goal.returns-in-Unary
returns-in-Unary c =
    let a = c.args in
    let f = c.rows_of in
    let h = c.operator_of-group in
    unary-told a.r a.m a.masks.now a.words.now a.matrices.now a.code a.left.0 a.right.0 a.rows.now
    f.new.rows (omega arith) (omega arith) (omega arith)
    (in-unary _ h.result h.ensures c.in-Unary.is) f.result f.ensures

pub returns-in-Binary : goal.returns-in-Binary
returns-in-Binary c =
    let a = c.args in
    let f = c.rows_of-in-Binary in
    let h = c.operator_of-group in
    binary-told a.r a.m a.masks.now a.words.now a.matrices.now a.code a.left.0 a.right.0 a.rows.now
    f.new.rows (omega arith) (omega arith) (omega arith)
    (in-binary _ h.result h.ensures c.in-Binary.is) f.result f.ensures

pub returns-in-Neither : goal.returns-in-Neither
returns-in-Neither c =
    let a = c.args in
    let f = c.rows_of-in-Neither in
    let h = c.operator_of-group in
    let none = in-neither _ h.result h.ensures c.in-Neither.is in
    leaf-told a.r a.m a.masks.now a.words.now a.matrices.now a.code a.left.0 a.right.0 a.rows.now
    f.new.rows (omega arith) (omega arith) (omega arith)
    (λ u. none.0 u.0 u.1)
    (λ u. none.1 u.0 u.1) f.result f.ensures
