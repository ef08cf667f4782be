-- `of_file` meets its contract: the reader hands out a good file's parts, and a broken one has the bench's line.
use mathlib.Core.Path.{◌≡◌}
use native.Mathlib.Omega.{arith}
use Rattle.std.proofs.Common.{Ok}
use Rattle.file.specs.declared.Parts.{Parts as Numbers}
use Rattle.file.specs.Reading.{Lent, lent, said_read, read_after, read_of}
use Rattle.file.proofs.Numbers.{Bytes}
use Rattle.lines.proofs.Handed.{blank, blank-wide, Handed, handed, same}
use Rattle.lines.specs.Bench.{bench_room}
use Rattle.explanation.proofs.Outcomes.{good-explained, broken-explained}
use Rattle.explanation.proofs.of_file.Goals as goal
use Rattle.explanation.proofs.of_file.Goals.{After-read-read}

-- the file is one of bytes
bytes : (d : After-read-read) → Bytes d.args.file.now
bytes d i = omega (arith, d.type_inv.file i)

-- what the reader leaves in the arrays
left : After-read-read → Lent
left d = let l = d.read-read.new in lent l.marks l.lengths l.words l.unary l.binary

ran : (d : After-read-read)
    → read_after (said_read d.read-read.result) (left d).marks (left d).lengths (left d).words (left d).unary (left d).binary
    ≡ read_of d.args.file.now blank
unfolding blank left
ran d = d.read-read.ensures

-- a good file's parts, and where they are
here : (d : After-read-read) {k : Numbers} → d.read-read.result ≡ Ok k
    → Handed d.args.file.now (bytes d) blank blank-wide
    d.read-read.result (left d).marks (left d).lengths (left d).words (left d).unary (left d).binary (ran d) k.sessions k.propositions k.names k.unary k.binary k.constants k.bound
here d e =
    handed d.args.file.now (bytes d) blank blank-wide
    d.read-read.result (left d).marks (left d).lengths (left d).words (left d).unary (left d).binary (ran d) e

pub slice_bounds-marks-end : goal.slice_bounds-marks-end
unfolding left
slice_bounds-marks-end c = (here (goal.at.slice_bounds-marks-end c).After-read-read c.in-Ok.is).all-marks.there

pub slice_bounds-searched-end : goal.slice_bounds-searched-end
unfolding left
slice_bounds-searched-end c = (here (goal.at.slice_bounds-searched-end c).After-read-read c.in-Ok.is).all-marks.long

pub slice_bounds-lengths-end : goal.slice_bounds-lengths-end
unfolding left
slice_bounds-lengths-end c = (here (goal.at.slice_bounds-lengths-end c).After-read-read c.in-Ok.is).all-lengths.there

pub slice_bounds-searched-end-in-Ok : goal.slice_bounds-searched-end-in-Ok
unfolding left
slice_bounds-searched-end-in-Ok c = (here (goal.at.slice_bounds-searched-end-in-Ok c).After-read-read c.in-Ok.is).all-lengths.long

pub overflow_mul-words : goal.overflow_mul-words
overflow_mul-words c = omega (arith, (here (goal.at.overflow_mul-words c).After-read-read c.in-Ok.is).small)

pub slice_bounds-words-end : goal.slice_bounds-words-end
unfolding left
slice_bounds-words-end c = (here (goal.at.slice_bounds-words-end c).After-read-read c.in-Ok.is).all_words.there

pub slice_bounds-searched-end-in-Ok-2 : goal.slice_bounds-searched-end-in-Ok-2
unfolding left
slice_bounds-searched-end-in-Ok-2 c = (here (goal.at.slice_bounds-searched-end-in-Ok-2 c).After-read-read c.in-Ok.is).all_words.long

pub slice_bounds-unary-end : goal.slice_bounds-unary-end
unfolding left
slice_bounds-unary-end c = (here (goal.at.slice_bounds-unary-end c).After-read-read c.in-Ok.is).all-unary.there

pub slice_bounds-searched-end-in-Ok-3 : goal.slice_bounds-searched-end-in-Ok-3
unfolding left
slice_bounds-searched-end-in-Ok-3 c = (here (goal.at.slice_bounds-searched-end-in-Ok-3 c).After-read-read c.in-Ok.is).all-unary.long

pub slice_bounds-binary-end : goal.slice_bounds-binary-end
unfolding left
slice_bounds-binary-end c = (here (goal.at.slice_bounds-binary-end c).After-read-read c.in-Ok.is).all-binary.there

pub slice_bounds-searched-end-in-Ok-4 : goal.slice_bounds-searched-end-in-Ok-4
unfolding left
slice_bounds-searched-end-in-Ok-4 c = (here (goal.at.slice_bounds-searched-end-in-Ok-4 c).After-read-read c.in-Ok.is).all-binary.long

pub searched-requires : goal.searched-requires
unfolding left
searched-requires c =
    let d = (goal.at.searched-requires c).After-read-read in
    let h = here (goal.at.searched-requires c).After-read-read c.in-Ok.is in (
      (
        h.parts,
        h.good,
        same c.args.file.now (bytes d) blank blank-wide
            c.read-read.result (left d).marks (left d).lengths (left d).words (left d).unary (left d).binary (ran d) h bench_room,
      ),
      omega arith,
    )

pub returns-in-Ok : goal.returns-in-Ok
unfolding left
returns-in-Ok c =
    let d = (goal.at.returns-in-Ok c).After-read-read in
    good-explained c.args.file.now (bytes d) blank blank-wide
    c.read-read.result (left d).marks (left d).lengths (left d).words (left d).unary (left d).binary (ran d) (here d c.in-Ok.is) c.searched.ensures

pub returns-in-Err : goal.returns-in-Err
returns-in-Err c =
    let d = (goal.at.returns-in-Err c).After-read-read in
    broken-explained c.args.file.now (bytes d) blank blank-wide
    c.read-read.result (left d).marks (left d).lengths (left d).words (left d).unary (left d).binary (ran d) c.in-Err.is c.bench.ensures
