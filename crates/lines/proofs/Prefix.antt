-- What is reported of a byte string's first 4,451 bytes is what the contract says of the whole: a caller need not read further.
-- Assumes nothing.
use mathlib.Core.Path.{subst}
use mathlib.Core.List.{List}
use Prim.Native.Nat.{ℕ}
use lib.ListN.{take}
use Rattle.file.specs.Format.{Parts}
use Rattle.reading.specs.Reading.{Got}
use Rattle.file.proofs.Prefix.{first-bytes-decide}
use Rattle.lines.specs.Bench.{Says, LinesOf}

pub first-bytes-lines : (file : List ℕ) (room : ℕ) (old : List ℕ) (r : ℕ) (new : List ℕ) → LinesOf (take 4451 file) room old r new → LinesOf file room old r new
first-bytes-lines file room old r new w =
    record {
      lines = w.lines;
      says = subst (λ (g : Got Parts). Says g room w.lines) (first-bytes-decide file) w.says;
      long = w.long;
      holds = w.holds;
    }
