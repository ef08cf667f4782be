-- `unread` meets its contract: each refusal has its lines.
use Rattle.suspicion.proofs.Answered.{unread-wrote}
use Rattle.suspicion.proofs.unread.Goals as goal

pub pointed-requires : goal.pointed-requires
pointed-requires c =
    c.requires.stops _ c.in-Stops.is

pub pointed-requires-in-Unknown : goal.pointed-requires-in-Unknown
pointed-requires-in-Unknown c =
    c.requires.unknown _ c.in-Unknown.is

pub returns-in-Broken : goal.returns-in-Broken
returns-in-Broken c =
    unread-wrote c.args.typed.now c.in-Broken.is c.refused_at.ensures

pub returns-in-Stops : goal.returns-in-Stops
returns-in-Stops c =
    unread-wrote c.args.typed.now c.in-Stops.is c.pointed.ensures

pub returns-in-Unknown : goal.returns-in-Unknown
returns-in-Unknown c =
    unread-wrote c.args.typed.now c.in-Unknown.is c.pointed-in-Unknown.ensures

pub returns-in-Refused : goal.returns-in-Refused
returns-in-Refused c =
    unread-wrote c.args.typed.now c.in-Refused.is (rw c.from.ensures at c.refused.ensures)
