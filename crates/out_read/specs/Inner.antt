-- What private functions of this crate promise each other. No public contract cites this.
-- Assumes nothing.
use Rattle.std.specs.Prelude.{ℕ}
use Rattle.file.specs.Format.{Parts}
use Rattle.reading.specs.Reading.{Got, got, bad}
use Rattle.out.specs.Out.{broken_at}

abbrev pub read_unanswered : Got Parts → ℕ
read_unanswered (bad o) = broken_at o
read_unanswered (got p next) = 3
