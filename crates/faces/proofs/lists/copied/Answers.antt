-- What `copied` answers: as many nodes as are looked at are the list's.
use native.Mathlib.Omega.{arith}
use Rattle.nodes_in.specs.Arrays.{seen}
use Rattle.nodes_in.proofs.Filling.{as_many}
use Rattle.faces.proofs.lists.copied.Goals as goal

pub returns : goal.returns
returns c =
    let l = c.loop-i in
    let v = l.invariant in
    record { full = v.full; same = as_many c.args.nodes.now l.list l.i seen (omega arith) v.full v.same }
