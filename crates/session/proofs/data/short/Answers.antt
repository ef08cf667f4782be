-- `short` meets its contract: its tests are made at once, and the product is small.
use native.Mathlib.Nat.{mul-le-mul}
use native.Mathlib.Omega.{arith}
use Rattle.session.proofs.DataLaws.{numbers-in, rooms-tested}
use Rattle.session.proofs.data.short.Goals as goal

pub overflow_mul-result : goal.overflow_mul-result
overflow_mul-result c = let w = numbers-in c.args.r c.args.m c.requires in omega (arith, mul-le-mul w.3 w.1)

pub returns : goal.returns
returns c = rooms-tested c.args.r c.args.m c.args.marks c.args.lengths c.args.words
