-- `unanswered` gives 8 or 3: what the core decides with no room lent.
use native.Mathlib.Omega.{arith}
use Rattle.out_read.proofs.Reading.{read_fits, unanswered}
use Rattle.out_read.proofs.unanswered.Goals as goal

pub number-requires : goal.number-requires
number-requires c = read_fits _ _ _ c.read-answer.ensures

pub returns : goal.returns
returns c =
    rw c.number.ensures (unanswered _ (λ i. omega
    (arith, c.type_inv.file i)) _
    c.read-answer.ensures)
