-- `put_digits` meets its contract, by how many digits there may be: one fewer with each call.
use Rattle.writing.proofs.+put_digits.Given as goal

abbrev pub decreases-put_digits : goal.decreases-put_digits
decreases-put_digits l = l.most
