-- `words::release` meets its contract: `!(!x U !y)` on the places of the mask.
use Rattle.words.proofs.Operators.{release-means}
use Rattle.words.proofs.release.Goals as goal

pub returns : goal.returns
returns c =
    let s = c.args in
    release-means s.x s.y s.mask c.not.ensures c.not-2.ensures c.until.ensures c.not-3.ensures
