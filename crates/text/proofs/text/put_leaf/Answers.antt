-- `put_leaf` meets its contract: a name out of the section, or a constant.
use mathlib.Core.Path.{◌≡◌, subst}
use mathlib.Core.List.{[]}
use Prim.Native.Nat.{ℕ}
use native.Mathlib.Omega.{arith}
use lib.ListN.{length, get_or}
use Rattle.formula.specs.Kinds.{node_of}
use Rattle.formula.proofs.Faults.{proposition-under, true-code}
use Rattle.names.specs.Names.{names_in}
use Rattle.names.proofs.Starts.{few-names}
use Rattle.writing.specs.Writing.{Wrote}
use Rattle.text.proofs.Printing.{proposition-text, false_text, true_text, known_written}
use Rattle.text.proofs.text.put_leaf.Goals as goal

pub put_name-requires : goal.put_name-requires
put_name-requires c =
    let a = c.args in
    let r = c.requires.1 in
    let few = few-names a.names.now r.good in
    let low = proposition-under (length (names_in a.names.now)) c.requires.0 _ (node_of a.node) r.fits c.if-node-eq-PROPOSITION.true in
    let e : c.from_left-p.result.0 ≡ a.node.left.0 = omega arith in
    (r.good, omega arith)

pub returns-then-node-eq-PROPOSITION : goal.returns-then-node-eq-PROPOSITION
returns-then-node-eq-PROPOSITION c = λ k.
    let a = c.args in
    let r = c.requires.1 in
    let few = few-names a.names.now r.good in
    let low = proposition-under (length (names_in a.names.now)) c.requires.0 _ (node_of a.node) r.fits c.if-node-eq-PROPOSITION.true in
    let e : c.from_left-p.result.0 ≡ a.node.left.0 = omega arith in
    let w = subst (λ (p : ℕ). Wrote a.room.now a.at (get_or (names_in a.names.now) p []) c.put_name.new.room
    c.put_name.result) e c.put_name.ensures in
    known_written a.names.now k (node_of a.node) (proposition-text a.names.now k (node_of a.node) c.if-node-eq-PROPOSITION.true) w

pub returns-then-node-eq-FALSE : goal.returns-then-node-eq-FALSE
returns-then-node-eq-FALSE c = λ k.
    let a = c.args in
    known_written a.names.now k (node_of a.node) (false_text a.names.now k (node_of a.node) c.if-node-eq-FALSE.true) c.put.ensures

pub returns : goal.returns
returns c = λ k.
    let a = c.args in
    known_written a.names.now k (node_of a.node) (true_text a.names.now k (node_of a.node)
    (true-code _ _ _ (node_of a.node) c.requires.1.fits c.requires.2 c.requires.3 c.if-node-eq-PROPOSITION.false
    c.if-node-eq-FALSE.false)) c.put-2.ensures
