-- `outside` meets its contract: its tests are made at once.
use Rattle.session.proofs.DataLaws.{numbers-tested}
use Rattle.session.proofs.data.outside.Goals as goal

pub returns : goal.returns
returns c = numbers-tested c.args.r c.args.m
