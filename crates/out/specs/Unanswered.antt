-- Where `out` is too short: how the private functions of the crates above speak of a call that can't answer. No public contract cites this.
-- Assumes nothing.
use Rattle.std.specs.Prelude.{◌≡◌, ℕ, ◌^◌, ◌<◌}
use Rattle.rules.specs.Refusals.{Row}
use Rattle.rules.specs.Answers.{Said}
use Rattle.reading.specs.Reading.{broken}
use Rattle.out.specs.Out.{broken_at}

-- what comes before 3 decides, and else 3
abbrev pub no_answer : Row
no_answer = record { number = 3; given = Unit {0} }

-- number 8's offset is small
abbrev pub OffsetFits : Said → Type 0
OffsetFits s = (o : ℕ) → s ≡ broken o → broken_at o < 2 ^ 32
