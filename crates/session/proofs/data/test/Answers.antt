-- `test` meets its contract: the tests go through the rows in their order, each over all sessions.
use mathlib.Core.Path.{subst}
use mathlib.Core.Logic.{◌⊎◌}
use mathlib.Core.Bool.{true, false}
use Prim.Native.Nat.{◌*◌, ◌<◌}
use lib.ListN.{length}
use Rattle.session.specs.Data.{outside_numbers}
use Rattle.session.specs.Inner.{AllUpTo, AllClear}
use Rattle.session.proofs.DataLaws.{is-1, is-3, is-4, is-5, is-6, is-0, rooms_in, up-to-is}
use Rattle.session.proofs.data.test.Goals as goal
use Rattle.session.proofs.data.test.Goals.{Else-outside, Else-short, Else-not-all_up_to, Else-not-all_clear}

numbers : (c : Else-outside) → let a = c.args in (outside_numbers a.r a.m).given → ⊥
numbers c = rw c.if-outside.false at c.outside.ensures

-- past the second, the slices are long enough
rooms : (c : Else-short) → let a = c.args in
    (length a.marks.now < a.r) ⊎ (length a.lengths.now < a.r) ⊎ (length a.words.now < a.m * a.r) → ⊥
rooms c = rw c.if-short.false at c.short.ensures

-- past the test of lengths, none is above 64
short : (c : Else-not-all_up_to) → let a = c.args in AllUpTo a.lengths.now a.r 64 true
short c =
    let a = c.args in
    let enough : (length a.marks.now < a.r) ⊎ (length a.lengths.now < a.r) ⊎ (length a.words.now < a.m * a.r) → ⊥ = rw c.if-short.false at c.short.ensures in
    up-to-is a.lengths.now a.r 64 true (rooms_in _ _ _ _ _ enough).1 (rw c.if-not-all_up_to.false at c.all_up_to.ensures)

-- past the test of words, all are well formed
clear : (c : Else-not-all_clear) → let a = c.args in AllClear a.lengths.now a.words.now a.r a.m true
clear c =
    let a = c.args in
    subst (AllClear a.lengths.now a.words.now a.r a.m) c.if-not-all_clear.false c.all_clear.ensures

pub returns-then-outside : goal.returns-then-outside
returns-then-outside c =
    let a = c.args in
    is-1 a.r a.m a.marks.now a.lengths.now a.words.now (rw c.if-outside.true at c.outside.ensures)

pub short-requires : goal.short-requires
short-requires c = numbers (goal.at.short-requires c).Else-outside

pub returns-then-short : goal.returns-then-short
returns-then-short c =
    let a = c.args in
    is-3 a.r a.m a.marks.now a.lengths.now a.words.now (numbers (goal.at.returns-then-short c).Else-outside) (rw c.if-short.true at c.short.ensures)

pub returns-then-not-all_up_to : goal.returns-then-not-all_up_to
returns-then-not-all_up_to c =
    let a = c.args in
    let d = goal.at.returns-then-not-all_up_to c in
    is-4 a.r a.m a.marks.now a.lengths.now a.words.now (numbers d.Else-outside) (rooms d.Else-short)
    (up-to-is a.lengths.now a.r 64 false (rooms_in _ _ _ _ _ (rooms d.Else-short)).1 (rw c.if-not-all_up_to.true at c.all_up_to.ensures))

pub all_clear-requires : goal.all_clear-requires
all_clear-requires c =
    let d = goal.at.all_clear-requires c in
    let w = rooms_in _ _ _ _ _ (rooms d.Else-short) in
    (w.1, w.2, short d.Else-not-all_up_to)

pub returns-then-not-all_clear : goal.returns-then-not-all_clear
returns-then-not-all_clear c =
    let a = c.args in
    let d = goal.at.returns-then-not-all_clear c in
    is-5 a.r a.m a.marks.now a.lengths.now a.words.now (numbers d.Else-outside) (rooms d.Else-short) (short d.Else-not-all_up_to)
    (subst (AllClear a.lengths.now a.words.now a.r a.m) c.if-not-all_clear.true c.all_clear.ensures)

pub returns-then-not-all_up_to-2 : goal.returns-then-not-all_up_to-2
returns-then-not-all_up_to-2 c =
    let a = c.args in
    let d = goal.at.returns-then-not-all_up_to-2 c in
    is-6 a.r a.m a.marks.now a.lengths.now a.words.now (numbers d.Else-outside) (rooms d.Else-short) (short d.Else-not-all_up_to) (clear d.Else-not-all_clear)
    (up-to-is a.marks.now a.r 1 false (rooms_in _ _ _ _ _ (rooms d.Else-short)).0 (rw c.if-not-all_up_to-2.true at c.all_up_to-2.ensures))

pub returns : goal.returns
returns c =
    let a = c.args in
    let d = goal.at.returns c in
    is-0 a.r a.m a.marks.now a.lengths.now a.words.now (numbers d.Else-outside) (rooms d.Else-short) (short d.Else-not-all_up_to) (clear d.Else-not-all_clear)
    (up-to-is a.marks.now a.r 1 true (rooms_in _ _ _ _ _ (rooms d.Else-short)).0 (rw c.if-not-all_up_to-2.false at c.all_up_to-2.ensures))
