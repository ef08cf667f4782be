-- `keep` meets its contract: where the place is there, four stores and the matrix.
use mathlib.Core.Path.{refl}
use native.Mathlib.Omega.{arith}
use Rattle.rules.specs.Limits.{most_sessions}
use Rattle.leaves.proofs.Products.{at_most}
use Rattle.table.proofs.keep.Goals as goal

pub bounds-codes-at : goal.bounds-codes-at
bounds-codes-at c = let f = rw c.if-fits.true at c.fits.ensures in omega arith

pub bounds-lefts-at : goal.bounds-lefts-at
bounds-lefts-at c = let f = rw c.if-fits.true at c.fits.ensures in omega arith

pub bounds-rights-at : goal.bounds-rights-at
bounds-rights-at c = let f = rw c.if-fits.true at c.fits.ensures in omega arith

pub bounds-sizes-at : goal.bounds-sizes-at
bounds-sizes-at c = let f = rw c.if-fits.true at c.fits.ensures in omega arith

pub overflow_mul-at : goal.overflow_mul-at
overflow_mul-at c =
    let f = rw c.if-fits.true at c.fits.ensures in let a =
    c.args in omega
    (arith, at_most a.place.0 65535 a.r most_sessions (omega arith) (omega arith))

pub put-requires : goal.put-requires
put-requires c = let f = rw c.if-fits.true at c.fits.ensures in (record { sessions-in = f.sessions-in; there = f.rows-there }, f.matrix-in)

pub returns-then-fits : goal.returns-then-fits
returns-then-fits c =
    let f = rw c.if-fits.true at c.fits.ensures
    in (
      record {
        sessions-in = f.sessions-in;
        rows-there = f.rows-there;
        codes-in = f.codes-in;
        lefts_in = f.lefts_in;
        rights-in = f.rights-in;
        sizes-in = f.sizes-in;
        matrix-in = f.matrix-in;
      },
      rw c.put.ensures,
    )

pub returns : goal.returns
returns c =
    let g = rw c.if-fits.false at c.fits.ensures in (
      λ a. g (record {
        sessions-in = a.sessions-in;
        rows-there = a.rows-there;
        codes-in = a.codes-in;
        lefts_in = a.lefts_in;
        rights-in = a.rights-in;
        sizes-in = a.sizes-in;
        matrix-in = a.matrix-in;
      }),
      refl,
    )
