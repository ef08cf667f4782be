-- `read` meets its contract: the judging pass, the rooms, and then the writing pass.
use native.Mathlib.Omega.{arith}
use Rattle.std.proofs.lemmas.Result.{err_from_is_err_and}
use Rattle.file.proofs.Outcome.{KnownBy, known, known-bad, refused, no_room, written, product}
use Rattle.file.proofs.read.Goals as goal
use Rattle.file.proofs.read.Goals.{In_ok-parts}

told : (c : In_ok-parts) → KnownBy c.args.file.now c.in_ok-parts.parts
told c = known c.args.file.now (λ i. omega (arith, c.type_inv.file i)) c.in_ok-parts.ensures

pub returns-in_err-parts : goal.returns-in_err-parts
returns-in_err-parts c =
    let p = err_from_is_err_and c.from_residual.result c.from_residual.ensures.1 in
    rw (p.1, p.2) (refused _ _ _ _ _ _ (known-bad c.args.file.now (λ i. omega (arith, c.type_inv.file i)) c.in_err-parts.ensures))

pub overflow_mul-parts : goal.overflow_mul-parts
overflow_mul-parts c = omega (arith, product _ (told (goal.at.overflow_mul-parts c).In_ok-parts))

pub fill_sessions-codes-requires : goal.fill_sessions-codes-requires
fill_sessions-codes-requires c =
    let f = c.enough.ensures.fits c.if-not-enough.false in
    let k = told (goal.at.fill_sessions-codes-requires c).In_ok-parts in
    (k.narrow, f.0, f.1, f.2, omega (arith, k.room))

pub fill_codes-requires : goal.fill_codes-requires
fill_codes-requires c =
    let f = c.enough.ensures.fits c.if-not-enough.false in
    let k = told (goal.at.fill_codes-requires c).In_ok-parts in
    (f.3, f.4, omega (arith, k.room, c.fill_sessions-codes.ensures.0))

pub returns-then-not-enough : goal.returns-then-not-enough
returns-then-not-enough c = let k = told (goal.at.returns-then-not-enough c).In_ok-parts in no_room _ _ _ _ _ _ k c.enough.ensures c.if-not-enough.true

pub returns : goal.returns
returns c =
    let s = c.fill_sessions-codes.ensures in
    let q = c.fill_codes.ensures in
    let f = c.enough.ensures.fits c.if-not-enough.false in
    let k = told (goal.at.returns c).In_ok-parts in
    rw (s.1, s.2, s.3, q.0, q.1, s.0) (written _ _ _ _ _ _ k f.0 f.1 f.2 f.3 f.4)
