-- `put` meets its contract: what it writes is the packed node.
use mathlib.Core.Path.{refl}
use Rattle.descent.specs.Packed.{pack}
use Rattle.descent.proofs.nodes.put.Goals as goal

pub returns : goal.returns
unfolding pack
returns c = refl
