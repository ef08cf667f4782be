-- `print_passed` meets its contract: the text in a room of its own, its length against the lent one's, and then the bytes.
use mathlib.Core.Path.{refl, sym}
use lib.Seq.{length-take-le}
use Rattle.formula.specs.Kinds.{node_of, nodes}
use Rattle.text.proofs.Answers.{printable, text-ends, prints-three, prints-text}
use Rattle.text.proofs.print_passed.Goals as goal

pub write-n-requires : goal.write-n-requires
write-n-requires c =
    let a = c.args in
    printable a.names.now (nodes a.codes.now a.lefts.now a.rights.now a.sizes.now) (node_of a.root) a.room.now c.requires

pub returns-then-room-n : goal.returns-then-room-n
returns-then-room-n c =
    let a = c.args in
    prints-three a.names.now (nodes a.codes.now a.lefts.now a.rights.now a.sizes.now) (node_of a.root) a.room.now c.requires refl
    c.write-n.ensures c.if-room-n.true

pub slice_bounds-whole-end : goal.slice_bounds-whole-end
slice_bounds-whole-end c =
    let a = c.args in
    text-ends a.names.now (nodes a.codes.now a.lefts.now a.rights.now a.sizes.now) (node_of a.root) a.room.now c.requires refl c.write-n.ensures

pub slice_bounds-put-end : goal.slice_bounds-put-end
slice_bounds-put-end c =
    let a = c.args in
    sym (length-take-le c.write-n.result _
    (text-ends a.names.now (nodes a.codes.now a.lefts.now a.rights.now a.sizes.now) (node_of a.root) a.room.now c.requires refl
    c.write-n.ensures))

pub returns : goal.returns
returns c =
    let a = c.args in
    prints-text a.names.now (nodes a.codes.now a.lefts.now a.rights.now a.sizes.now) (node_of a.root) a.room.now c.requires refl
    c.write-n.ensures c.if-room-n.false
    c.put.ensures
