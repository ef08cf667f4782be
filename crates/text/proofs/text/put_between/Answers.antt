-- `put_between` meets its contract.
use mathlib.Core.List.{[], ◌∷◌}
use Rattle.text.specs.Text.{space}
use Rattle.text.specs.Inner.{spaced}
use Rattle.writing.proofs.Writing.{wrote-both}
use Rattle.text.proofs.text.put_between.Goals as goal

pub returns : goal.returns
returns c =
    let t = c.put_token.ensures in
    (t.0, t.1, wrote-both (space ∷ []) (spaced t.0) c.put-a.ensures t.2)
