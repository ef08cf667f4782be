-- `pass` meets its contract: no word's byte, a known word, or an unknown one.
use mathlib.Core.Path.{subst}
use Prim.Native.Nat.{◌-◌}
use native.Mathlib.Omega.{arith}
use lib.ListN.{take, drop}
use Rattle.names.specs.Lookup.{names_by}
use Rattle.typed.specs.Inner.{KnownIs}
use Rattle.typed.proofs.Unknowns.{pass-other, pass-known, pass-unknown}
use Rattle.typed.proofs.unknown.pass.Goals as goal

pub returns-then-end-i : goal.returns-then-end-i
returns-then-end-i c =
    pass-other c.args.text.now (names_by c.args.names.now) c.args.i c.run_end-end.result c.run_end-end.ensures c.if-end-i.true c.requires

pub slice_bounds-known-count : goal.slice_bounds-known-count
slice_bounds-known-count c = omega (arith, c.run_end-end.ensures.forward)

pub slice_bounds-known-start : goal.slice_bounds-known-start
slice_bounds-known-start c = omega (arith, c.run_end-end.ensures.forward)

pub slice_bounds-known-end : goal.slice_bounds-known-end
slice_bounds-known-end c = omega (arith, c.run_end-end.ensures.within)

pub returns-then-known : goal.returns-then-known
returns-then-known c =
    let r = c.run_end-end in
    let a = c.args in
    let names = names_by a.names.now in
    pass-known a.text.now names a.i r.result r.ensures (omega (arith, r.ensures.forward, c.if-end-i.false))
    (subst (KnownIs names (take (r.result - a.i) (drop a.i a.text.now))) c.if-known.true c.known.ensures)

pub returns : goal.returns
returns c =
    let r = c.run_end-end in
    let a = c.args in
    let names = names_by a.names.now in
    pass-unknown a.text.now names a.i r.result r.ensures (omega (arith, r.ensures.forward, c.if-end-i.false))
    (subst (KnownIs names (take (r.result - a.i) (drop a.i a.text.now))) c.if-known.false c.known.ensures)
