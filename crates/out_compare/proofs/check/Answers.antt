-- `check` meets its contract: each test that is met is the first row that is given.
use mathlib.Core.Logic.{inl, inr}
use native.Mathlib.Omega.{arith}
use Rattle.out_compare.proofs.Comparing.{gives_one, gives-out, gives-words, gives-matrices, gives_none}
use Rattle.out_compare.proofs.check.Goals as goal

pub returns-then-r-lt1 : goal.returns-then-r-lt1
returns-then-r-lt1 c = let a = c.args in gives_one a.r a.place a.matrices a.words a.out (inl (omega arith))

pub returns-then-r-gt-SESSIONS : goal.returns-then-r-gt-SESSIONS
returns-then-r-gt-SESSIONS c = let a = c.args in gives_one a.r a.place a.matrices a.words a.out (inr (omega arith))

pub returns-then-out-lt-OUT_WORDS : goal.returns-then-out-lt-OUT_WORDS
returns-then-out-lt-OUT_WORDS c = let a = c.args in gives-out a.r a.place a.matrices a.words a.out (omega arith) (omega arith) (omega arith)

pub returns-then-words-r : goal.returns-then-words-r
returns-then-words-r c = let a = c.args in gives-words a.r a.place a.matrices a.words a.out (omega arith) (omega arith) (omega arith) (omega arith)

pub returns-then-matrices-r : goal.returns-then-matrices-r
returns-then-matrices-r c = let a = c.args in gives-matrices a.r a.place a.matrices a.words a.out (omega arith) (omega arith) (omega arith) c.if-matrices-r.true

pub returns : goal.returns
returns c =
    let a = c.args in gives_none a.r a.place a.matrices a.words a.out (omega arith)
    (omega arith) (omega arith) (omega arith) c.if-matrices-r.false
