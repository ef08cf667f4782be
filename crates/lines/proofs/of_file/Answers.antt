-- `of_file` meets its contract: the reader hands out a good file's parts, there is room for all of them, and the search has its lines.
use mathlib.Core.Path.{◌≡◌, ap, ◌∙◌}
use native.Mathlib.Omega.{arith}
use Rattle.std.proofs.Common.{Ok, Err}
use Rattle.file.specs.declared.Parts.{Parts as Numbers}
use Rattle.file.specs.declared.ReadError.{ReadError}
use Rattle.file.specs.declared.ReadError.TheVariants.{Broken, Room}
use Rattle.file.specs.Reading.{Lent, lent, said_read, read_after, read_of}
use Rattle.file.proofs.Numbers.{Bytes}
use Rattle.lines.proofs.Handed.{blank, blank-wide, Handed, handed, given_by, good-lines, broken-lines, never-room}
use Rattle.lines.proofs.of_file.Goals as goal
use Rattle.lines.proofs.of_file.Goals.{After-read-read}

-- the file is one of bytes
bytes : (d : After-read-read) → Bytes d.args.file.now
bytes d i = omega (arith, d.type_inv.file i)

-- what the reader leaves in the arrays
left : After-read-read → Lent
left d = let l = d.read-read.new in lent l.marks l.lengths l.words l.unary l.binary

ran : (d : After-read-read)
    → read_after (said_read d.read-read.result) (left d).marks (left d).lengths (left d).words (left d).unary (left d).binary
    ≡ read_of d.args.file.now blank
unfolding blank left
ran d = d.read-read.ensures

-- a good file's parts, and where they are
here : (d : After-read-read) {k : Numbers} → d.read-read.result ≡ Ok k
    → Handed d.args.file.now (bytes d) blank blank-wide
    d.read-read.result (left d).marks (left d).lengths (left d).words (left d).unary (left d).binary (ran d) k.sessions k.propositions k.names k.unary k.binary k.constants k.bound
here d e =
    handed d.args.file.now (bytes d) blank blank-wide
    d.read-read.result (left d).marks (left d).lengths (left d).words (left d).unary (left d).binary (ran d) e

pub slice_bounds-searched-end : goal.slice_bounds-searched-end
slice_bounds-searched-end c = (here (goal.at.slice_bounds-searched-end c).After-read-read c.in-Ok.is).names-long

pub slice_bounds-marks-end : goal.slice_bounds-marks-end
unfolding left
slice_bounds-marks-end c = (here (goal.at.slice_bounds-marks-end c).After-read-read c.in-Ok.is).all-marks.there

pub slice_bounds-searched-end-in-Ok : goal.slice_bounds-searched-end-in-Ok
unfolding left
slice_bounds-searched-end-in-Ok c = (here (goal.at.slice_bounds-searched-end-in-Ok c).After-read-read c.in-Ok.is).all-marks.long

pub slice_bounds-lengths-end : goal.slice_bounds-lengths-end
unfolding left
slice_bounds-lengths-end c = (here (goal.at.slice_bounds-lengths-end c).After-read-read c.in-Ok.is).all-lengths.there

pub slice_bounds-searched-end-in-Ok-2 : goal.slice_bounds-searched-end-in-Ok-2
unfolding left
slice_bounds-searched-end-in-Ok-2 c = (here (goal.at.slice_bounds-searched-end-in-Ok-2 c).After-read-read c.in-Ok.is).all-lengths.long

pub overflow_mul-words : goal.overflow_mul-words
overflow_mul-words c = omega (arith, (here (goal.at.overflow_mul-words c).After-read-read c.in-Ok.is).small)

pub slice_bounds-words-end : goal.slice_bounds-words-end
unfolding left
slice_bounds-words-end c = (here (goal.at.slice_bounds-words-end c).After-read-read c.in-Ok.is).all_words.there

pub slice_bounds-searched-end-in-Ok-3 : goal.slice_bounds-searched-end-in-Ok-3
unfolding left
slice_bounds-searched-end-in-Ok-3 c = (here (goal.at.slice_bounds-searched-end-in-Ok-3 c).After-read-read c.in-Ok.is).all_words.long

pub slice_bounds-unary-end : goal.slice_bounds-unary-end
unfolding left
slice_bounds-unary-end c = (here (goal.at.slice_bounds-unary-end c).After-read-read c.in-Ok.is).all-unary.there

pub slice_bounds-searched-end-in-Ok-4 : goal.slice_bounds-searched-end-in-Ok-4
unfolding left
slice_bounds-searched-end-in-Ok-4 c = (here (goal.at.slice_bounds-searched-end-in-Ok-4 c).After-read-read c.in-Ok.is).all-unary.long

pub slice_bounds-binary-end : goal.slice_bounds-binary-end
unfolding left
slice_bounds-binary-end c = (here (goal.at.slice_bounds-binary-end c).After-read-read c.in-Ok.is).all-binary.there

pub slice_bounds-searched-end-in-Ok-5 : goal.slice_bounds-searched-end-in-Ok-5
unfolding left
slice_bounds-searched-end-in-Ok-5 c = (here (goal.at.slice_bounds-searched-end-in-Ok-5 c).After-read-read c.in-Ok.is).all-binary.long

pub searched-requires : goal.searched-requires
unfolding left
searched-requires c =
    let d = (goal.at.searched-requires c).After-read-read in (
      given_by c.args.file.now (bytes d) blank blank-wide
          c.read-read.result (left d).marks (left d).lengths (left d).words (left d).unary (left d).binary
          (ran d) (here d c.in-Ok.is) c.args.room,
      omega arith,
    )

pub returns-in-Ok : goal.returns-in-Ok
unfolding left
returns-in-Ok c =
    let d = (goal.at.returns-in-Ok c).After-read-read in
    good-lines c.args.file.now (bytes d) blank blank-wide
    c.read-read.result (left d).marks (left d).lengths (left d).words (left d).unary (left d).binary
    (ran d) (here d c.in-Ok.is) c.args.room c.searched.ensures

pub returns-in-Err-Broken : goal.returns-in-Err-Broken
returns-in-Err-Broken c =
    let d = (goal.at.returns-in-Err-Broken c).After-read-read in
    let f : c.in-Err-Broken.field-0 ≡ Broken c.in-Err-Broken.at = rw c.in-Err-Broken.is at c.in-Err-Broken.field-0-is in
    broken-lines c.args.file.now (bytes d) blank blank-wide
    c.read-read.result (left d).marks (left d).lengths (left d).words (left d).unary (left d).binary
    (ran d) c.args.room (c.in-Err-Broken.is ∙ ap (λ (e : ReadError). Err e) f) (omega arith) c.broken.ensures

pub returns-in-Err-Room : goal.returns-in-Err-Room
returns-in-Err-Room c =
    let d = (goal.at.returns-in-Err-Room c).After-read-read in
    let f : c.in-Err-Room.field-0 ≡ Room = rw c.in-Err-Room.is at c.in-Err-Room.field-0-is in
    absurd (never-room c.args.file.now (bytes d) blank blank-wide
    c.read-read.result (left d).marks (left d).lengths (left d).words (left d).unary (left d).binary (ran d)
    (c.in-Err-Room.is ∙ ap (λ (e : ReadError). Err e) f))
