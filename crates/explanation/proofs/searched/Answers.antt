-- `searched` meets its contract: a formula found passes the check, and else the bench's lines stand.
use mathlib.Core.Path.{◌≡◌, ap, ◌∙◌}
use Rattle.std.specs.Prelude.{Ok}
use Rattle.formula.specs.declared.kinds.Node.{Node}
use Rattle.counting.specs.declared.Counts.{Counts}
use Rattle.search.specs.declared.SearchAnswer.{SearchAnswer}
use Rattle.search.specs.declared.SearchAnswer.TheVariants.{Found, None, Full}
use Rattle.walk.specs.Input.{Input, input_of}
use Rattle.search.specs.Table.{Cols, cols}
use Rattle.search.specs.Search.{Searched}
use Rattle.lines.specs.Bench.{bench_room}
use Rattle.lines.proofs.Searching.{FoundAt, blank, blank-roomy}
use Rattle.lines.proofs.Answered.{codes-in, codes-part, lefts_in, lefts-part, rights-in, rights-part, sizes-in, sizes-part}
use Rattle.explanation.proofs.Outcomes.{this, found-passes, found-stands, none-stands, full-stands, never-refused}
use Rattle.explanation.proofs.searched.Goals as goal
use Rattle.explanation.proofs.searched.Goals.{After-search-answer, In-Ok-Found}

-- what the search is given
input : After-search-answer → Input
input d =
    let a = d.args in
    input_of a.r a.m a.bound bench_room a.constants a.marks.now a.lengths.now a.words.now a.unary.now a.binary.now

-- what it leaves in the table
left : After-search-answer → Cols
left d = let l = d.search-answer.new in cols l.codes l.lefts l.rights l.sizes l.matrices

ran : (d : After-search-answer) → Searched (input d) blank d.search-answer.result (left d)
unfolding blank input left
ran d = d.search-answer.ensures

-- what the search answers where a formula is found
answer : (c : In-Ok-Found) → c.search-answer.result ≡ Ok (Found c.in-Ok-Found.root c.in-Ok-Found.counts)
answer c =
    let f : c.in-Ok-Found.field-0 ≡ Found c.in-Ok-Found.root c.in-Ok-Found.counts = rw c.in-Ok-Found.is at c.in-Ok-Found.field-0-is in
    c.in-Ok-Found.is ∙ ap (λ (a : SearchAnswer). Ok a) f

-- the formula found, and the table that it stands in
here : (d : After-search-answer) (root : Node) (counts : Counts) → d.search-answer.result ≡ Ok (Found root counts)
    → FoundAt d.requires.0.0 d.requires.0.1 bench_room blank blank-roomy (left d) root counts
unfolding input
here d root counts e =
    this d.args.file.now (input d) d.requires.0.0 d.requires.0.1 d.requires.0.2 blank blank-roomy (left d) d.search-answer.result (ran d) e

pub slice_bounds-codes-end : goal.slice_bounds-codes-end
unfolding left
slice_bounds-codes-end c = let e = goal.at.slice_bounds-codes-end c in codes-in (here e.After-search-answer _ _ (answer e.In-Ok-Found))

pub slice_bounds-reported-end : goal.slice_bounds-reported-end
unfolding left
slice_bounds-reported-end c = let e = goal.at.slice_bounds-reported-end c in codes-part (here e.After-search-answer _ _ (answer e.In-Ok-Found))

pub slice_bounds-lefts-end : goal.slice_bounds-lefts-end
unfolding left
slice_bounds-lefts-end c = let e = goal.at.slice_bounds-lefts-end c in lefts_in (here e.After-search-answer _ _ (answer e.In-Ok-Found))

pub slice_bounds-reported-end-in-Ok-Found : goal.slice_bounds-reported-end-in-Ok-Found
unfolding left
slice_bounds-reported-end-in-Ok-Found c = let e = goal.at.slice_bounds-reported-end-in-Ok-Found c in lefts-part (here e.After-search-answer _ _ (answer e.In-Ok-Found))

pub slice_bounds-rights-end : goal.slice_bounds-rights-end
unfolding left
slice_bounds-rights-end c = let e = goal.at.slice_bounds-rights-end c in rights-in (here e.After-search-answer _ _ (answer e.In-Ok-Found))

pub slice_bounds-reported-end-in-Ok-Found-2 : goal.slice_bounds-reported-end-in-Ok-Found-2
unfolding left
slice_bounds-reported-end-in-Ok-Found-2 c = let e = goal.at.slice_bounds-reported-end-in-Ok-Found-2 c in rights-part (here e.After-search-answer _ _ (answer e.In-Ok-Found))

pub slice_bounds-sizes-end : goal.slice_bounds-sizes-end
unfolding left
slice_bounds-sizes-end c = let e = goal.at.slice_bounds-sizes-end c in sizes-in (here e.After-search-answer _ _ (answer e.In-Ok-Found))

pub slice_bounds-reported-end-in-Ok-Found-3 : goal.slice_bounds-reported-end-in-Ok-Found-3
unfolding left
slice_bounds-reported-end-in-Ok-Found-3 c = let e = goal.at.slice_bounds-reported-end-in-Ok-Found-3 c in sizes-part (here e.After-search-answer _ _ (answer e.In-Ok-Found))

pub reported-requires : goal.reported-requires
unfolding input left
reported-requires c =
    let e = answer (goal.at.reported-requires c).In-Ok-Found in
    let d = (goal.at.reported-requires c).After-search-answer in
    (found-passes c.args.file.now (input d) c.requires.0.0 c.requires.0.1 c.requires.0.2 (here d _ _ e), c.requires.1)

pub returns-in-Ok-Found : goal.returns-in-Ok-Found
unfolding input left
returns-in-Ok-Found c =
    let e = answer (goal.at.returns-in-Ok-Found c).In-Ok-Found in
    let d = (goal.at.returns-in-Ok-Found c).After-search-answer in
    found-stands c.args.file.now (input d) c.requires.0.0 c.requires.0.1 c.requires.0.2 (here d _ _ e) c.reported.ensures

pub returns-in-Ok-None : goal.returns-in-Ok-None
unfolding input
returns-in-Ok-None c =
    let d = (goal.at.returns-in-Ok-None c).After-search-answer in
    let f : c.in-Ok-None.field-0 ≡ None c.in-Ok-None.field-0-0 = rw c.in-Ok-None.is at c.in-Ok-None.field-0-is in
    none-stands c.args.file.now (input d) c.requires.0.0 c.requires.0.1 c.requires.0.2 blank blank-roomy (left d) c.search-answer.result (ran d)
    (c.in-Ok-None.is ∙ ap (λ (a : SearchAnswer). Ok a) f) c.bench.ensures

pub returns-in-Ok-Full : goal.returns-in-Ok-Full
unfolding input
returns-in-Ok-Full c =
    let d = (goal.at.returns-in-Ok-Full c).After-search-answer in
    let f : c.in-Ok-Full.field-0 ≡ Full c.in-Ok-Full.field-0-0 c.in-Ok-Full.field-0-1 = rw c.in-Ok-Full.is at c.in-Ok-Full.field-0-is in
    full-stands c.args.file.now (input d) c.requires.0.0 c.requires.0.1 c.requires.0.2 blank blank-roomy (left d) c.search-answer.result (ran d)
    (c.in-Ok-Full.is ∙ ap (λ (a : SearchAnswer). Ok a) f) c.bench-in-Ok-Full.ensures

pub returns-in-Err : goal.returns-in-Err
unfolding input
returns-in-Err c =
    let d = (goal.at.returns-in-Err c).After-search-answer in absurd
    (never-refused c.args.file.now (input d) c.requires.0.0 c.requires.0.1 c.requires.0.2 blank blank-roomy (left d) c.search-answer.result (ran d) c.in-Err.is)
