-- `fill` meets its contract: each piece is read behind those before it, and a reader that gives none has none. A read that fails takes none.
use Rattle.std.proofs.Common.{rules, arith}
use Rattle.std.proofs.KnownBytes.{Consumes-nil}
use Rattle.std.proofs.lemmas.Result.{err_from_is_err_and}
use Rattle.whole_input.proofs.Pieces.{more, empty, kept}
use Rattle.whole_input.proofs.fill.Goals as goal

pub loop-at-init : goal.loop-at-init
loop-at-init g c = (omega arith, Consumes-nil _)

pub loop-at-preserved : goal.loop-at-preserved
loop-at-preserved g c =
    let read-so-far = c.loop-at.invariant in
    let piece = c.in_ok-n.ensures in
    (search rules, more _ _ _ c.loop-at.at c.in_ok-n.n _ _ _ read-so-far.0 piece.bound.0 read-so-far.1 piece.bytes.0)

pub returns-then-n-eq0-clause-ok : goal.returns-then-n-eq0-clause-ok
returns-then-n-eq0-clause-ok g c =
    let read-so-far = c.loop-at.invariant in
    let piece = c.in_ok-n.ensures in
    record {
      within = search rules;
      taken = empty _ _ _ c.loop-at.at c.in_ok-n.n _ _ _ read-so-far.0 piece.bound.0 c.if-n-eq0.true read-so-far.1 piece.bytes.0;
      ended = λ _. piece.bytes.1 c.if-n-eq0.true (omega arith);
    }

pub returns-clause-ok : goal.returns-clause-ok
returns-clause-ok g c = record { within = c.loop-at.invariant.0; taken = c.loop-at.invariant.1; ended = search rules }

pub returns-in_err-n-clause-err : goal.returns-in_err-n-clause-err
returns-in_err-n-clause-err g c =
    let left = kept _ _ _ c.loop-at.at _ _ _ c.loop-at.invariant.0 c.loop-at.invariant.1 c.in_err-n.ensures.bytes in
    let failed = err_from_is_err_and c.from_residual.result c.from_residual.ensures.1 in
    rw failed.1 left
