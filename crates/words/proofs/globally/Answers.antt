-- `words::globally` meets its contract: `!F!` on the places of the mask.
use Rattle.words.proofs.Operators.{globally-means}
use Rattle.words.proofs.globally.Goals as goal

pub returns : goal.returns
returns c =
    let s = c.args in
    globally-means s.x s.mask c.not.ensures c.finally.ensures c.not-2.ensures
