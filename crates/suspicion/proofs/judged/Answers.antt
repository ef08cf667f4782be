-- `judged` meets its contract: the reader's answer has its lines, by the check where a formula is read.
use mathlib.Core.Path.{◌≡◌, sym}
use Prim.Native.Nat.{ℕ}
use lib.Seq.{length-take-le}
use Rattle.std.proofs.Common.{Ok, Err}
use mathlib.Core.Path.{subst}
use Rattle.std.proofs.Common.{Result}
use Rattle.reader.specs.declared.ParseError.{ParseError}
use Rattle.reader.specs.Parsing.{Columns, columns, said_parsed, Parses}
use Rattle.suspicion.specs.Suspicion.{roomy}
use Rattle.suspicion.proofs.Typed.{Few, few-nodes, unread}
use Rattle.suspicion.proofs.Answered.{nodes-judged, unread-judged}
use Rattle.suspicion.proofs.judged.Goals as goal
use Rattle.suspicion.proofs.judged.Goals.{After-parse-parsed}

-- what the reader leaves in the arrays
left : After-parse-parsed → Columns
left d = let l = d.parse-parsed.new in columns l.codes l.lefts l.rights l.sizes

ran : (d : After-parse-parsed) → Parses d.args.names.now d.args.typed.now roomy (left d) (said_parsed d.parse-parsed.result)
unfolding left
ran d = d.parse-parsed.ensures

-- the same of the answer that it is
was : (d : After-parse-parsed) (r : Result ℕ ParseError) → d.parse-parsed.result ≡ r → Parses d.args.names.now d.args.typed.now roomy (left d) (said_parsed r)
was d r e = subst (λ (q : Result ℕ ParseError). Parses d.args.names.now d.args.typed.now roomy (left d) (said_parsed q)) e (ran d)

-- the nodes that are read
here : (d : After-parse-parsed) (n : ℕ) → d.parse-parsed.result ≡ Ok n → Few d.args.names.now d.args.typed.now roomy (left d) n
here d n e = few-nodes d.args.names.now d.args.typed.now roomy (left d) (was d (Ok n) e)

pub slice_bounds-codes-end : goal.slice_bounds-codes-end
unfolding left
slice_bounds-codes-end c = (here (goal.at.slice_bounds-codes-end c).After-parse-parsed _ c.in-Ok.is).codes-in

pub slice_bounds-checked-end : goal.slice_bounds-checked-end
unfolding left
slice_bounds-checked-end c = sym (length-take-le _ _ (here (goal.at.slice_bounds-checked-end c).After-parse-parsed _ c.in-Ok.is).codes-in)

pub slice_bounds-lefts-end : goal.slice_bounds-lefts-end
unfolding left
slice_bounds-lefts-end c = (here (goal.at.slice_bounds-lefts-end c).After-parse-parsed _ c.in-Ok.is).lefts_in

pub slice_bounds-checked-end-in-Ok : goal.slice_bounds-checked-end-in-Ok
unfolding left
slice_bounds-checked-end-in-Ok c = sym (length-take-le _ _ (here (goal.at.slice_bounds-checked-end-in-Ok c).After-parse-parsed _ c.in-Ok.is).lefts_in)

pub slice_bounds-rights-end : goal.slice_bounds-rights-end
unfolding left
slice_bounds-rights-end c = (here (goal.at.slice_bounds-rights-end c).After-parse-parsed _ c.in-Ok.is).rights-in

pub slice_bounds-checked-end-in-Ok-2 : goal.slice_bounds-checked-end-in-Ok-2
unfolding left
slice_bounds-checked-end-in-Ok-2 c = sym (length-take-le _ _ (here (goal.at.slice_bounds-checked-end-in-Ok-2 c).After-parse-parsed _ c.in-Ok.is).rights-in)

pub slice_bounds-sizes-end : goal.slice_bounds-sizes-end
unfolding left
slice_bounds-sizes-end c = (here (goal.at.slice_bounds-sizes-end c).After-parse-parsed _ c.in-Ok.is).sizes-in

pub slice_bounds-checked-end-in-Ok-3 : goal.slice_bounds-checked-end-in-Ok-3
unfolding left
slice_bounds-checked-end-in-Ok-3 c = sym (length-take-le _ _ (here (goal.at.slice_bounds-checked-end-in-Ok-3 c).After-parse-parsed _ c.in-Ok.is).sizes-in)

pub overflow_sub-n : goal.overflow_sub-n
overflow_sub-n c = (here (goal.at.overflow_sub-n c).After-parse-parsed _ c.in-Ok.is).some

pub unread-requires : goal.unread-requires
unread-requires c =
    let d = (goal.at.unread-requires c).After-parse-parsed in
    unread d.args.names.now d.args.typed.now roomy (left d) (was d (Err c.in-Err.error) c.in-Err.is)

pub returns-in-Ok : goal.returns-in-Ok
unfolding left
returns-in-Ok c = nodes-judged _ _ _ (was (goal.at.returns-in-Ok c).After-parse-parsed (Ok c.in-Ok.n) c.in-Ok.is) c.checked.ensures

pub returns-in-Err : goal.returns-in-Err
returns-in-Err c = unread-judged _ _ _ c.in-Err.error (was (goal.at.returns-in-Err c).After-parse-parsed (Err c.in-Err.error) c.in-Err.is) c.unread.ensures
