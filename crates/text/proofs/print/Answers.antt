-- `print` meets its contract: the names, the list, and then the text.
use Rattle.formula.specs.Kinds.{node_of, nodes}
use Rattle.text.proofs.Answers.{names-good, names-broken, prints-broken, prints-nine, passed-both}
use Rattle.text.proofs.print.Goals as goal

pub returns-in_err-count : goal.returns-in_err-count
returns-in_err-count c =
    let a = c.args in
    let e = c.in_err-count in
    prints-broken a.names.now (nodes a.codes.now a.lefts.now a.rights.now a.sizes.now) (node_of a.root) a.room.now e.field-0.0 _
    (names-broken a.names.now e.field-0.0 e.ensures) c.from_residual.ensures

pub returns-in_err-check : goal.returns-in_err-check
returns-in_err-check c =
    let a = c.args in
    let n = names-good a.names.now c.in_ok-count.count c.in_ok-count.ensures in
    let e = c.in_err-check in
    prints-nine a.names.now n.0 (nodes a.codes.now a.lefts.now a.rights.now a.sizes.now) (node_of a.root) a.room.now n.1 e.field-0.0 _
    e.ensures c.from_residual-in_err-check.ensures

pub print_passed-requires : goal.print_passed-requires
print_passed-requires c =
    let a = c.args in
    let n = names-good a.names.now c.in_ok-count.count c.in_ok-count.ensures in
    passed-both a.names.now n.0 (nodes a.codes.now a.lefts.now a.rights.now a.sizes.now) (node_of a.root) a.room.now n.1 c.in_ok-check.ensures
