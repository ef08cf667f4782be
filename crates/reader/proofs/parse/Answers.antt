-- `parse` meets its contract: each return is a law of `Answering`.
use native.Mathlib.Omega.{arith}
use Prim.Native.Nat.{ℕ}
use lib.ListN.{replicate, length-replicate}
use Rattle.std.proofs.lemmas.Result.{err_from_is_err_and}
use Rattle.reader.specs.Parsing.{columns}
use Rattle.reader.proofs.Answering.{answer-refused, answer-short, enough, answer-taken}
use Rattle.reader.proofs.parse.Goals as goal

pub returns-in_err-n : goal.returns-in_err-n
returns-in_err-n c =
    let p = err_from_is_err_and c.from_residual.result c.from_residual.ensures.1 in
    rw (p.1, p.2) (answer-refused c.args.names.now c.args.text.now (columns c.args.codes.now c.args.lefts.now c.args.rights.now c.args.sizes.now)
    (replicate 4096 0) c.judge.new.scratch c.in_err-n.field-0.0
    c.in_err-n.ensures (omega (arith, length-replicate {A = ℕ} 4096 0)))

pub returns-then-room-n : goal.returns-then-room-n
returns-then-room-n c = answer-short c.args.names.now c.args.text.now (columns c.args.codes.now c.args.lefts.now c.args.rights.now c.args.sizes.now) _ _ c.in_ok-n.ensures (omega
    (arith, c.if-room-n.true))

pub write-requires : goal.write-requires
write-requires c = enough c.args.names.now c.args.text.now (columns c.args.codes.now c.args.lefts.now c.args.rights.now c.args.sizes.now) _ _ c.in_ok-n.ensures (omega arith) (omega
    (arith, c.if-room-n.false))

pub returns : goal.returns
returns c = answer-taken c.args.names.now c.args.text.now (columns c.args.codes.now c.args.lefts.now c.args.rights.now c.args.sizes.now) _ _ c.in_ok-n.ensures (omega arith) (omega
    (arith, c.if-room-n.false)) c.write.ensures
