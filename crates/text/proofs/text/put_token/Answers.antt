-- `put_token` meets its contract: the table's row has the token.
use mathlib.Core.Path.{sym}
use mathlib.Core.List.{[], ◌∷◌}
use lib.ListN.{take}
use lib.Seq.{length-take-le}
use Rattle.operators.proofs.Table.{token-fits}
use Rattle.text.specs.Text.{space}
use Rattle.writing.proofs.Writing.{wrote-both}
use Rattle.text.proofs.text.put_token.Goals as goal

pub slice_bounds-token-end : goal.slice_bounds-token-end
slice_bounds-token-end c = token-fits c.operator_of-operator.ensures

pub slice_bounds-put-end : goal.slice_bounds-put-end
slice_bounds-put-end c = let f = c.operator_of-operator in sym (length-take-le f.result.bytes f.result.token (token-fits f.ensures))

pub returns : goal.returns
returns c =
    let f = c.operator_of-operator in
    let o = f.result in
    (o, f.ensures, wrote-both (take o.bytes o.token) (space ∷ []) c.put-a.ensures c.put.ensures)
