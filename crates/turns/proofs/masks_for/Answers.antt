-- `masks_for` meets its contract: what `masks_of` leaves in a room of zeros.
use Rattle.turns.proofs.masks_for.Goals as goal

pub returns : goal.returns
returns c =
    let w = c.masks_of in
    record { long = w.auto.masks; done = w.result; answer = w.ensures }
