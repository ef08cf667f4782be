-- `is_reserved` meets its contract: `any` looks for the name in the table as the rule does.
use borrow.Author.Rules.{rules}
use borrow.Author.Tests.{tests}
use Rattle.std.proofs.lemmas.Iterator.{YieldsList-from_slice}
use Rattle.std.proofs.lemmas.Iterator.Search.{any_from_yields_List}
use Rattle.spelling.specs.Reserved.{reserved}
use Rattle.spelling.specs.Spelling.{same_bytes}
use Rattle.spelling.proofs.reserved.is_reserved.Goals as goal

pub returns : goal.returns
unfolding reserved
returns c =
    any_from_yields_List (λ word. same_bytes c.args.name.now word.now) _ _ _ c.any.ensures.ran (YieldsList-from_slice _ c.iter.ensures.rest)
    (λ x b q k. search (rules, tests))
