-- `say_next` says a space and then the number's text: where that fails, a front of both is said.
use Rattle.std.proofs.Common.{[], ◌∷◌, ◌∙◌}
use Rattle.stored.proofs.Fronts.{behind}
use Rattle.stored.proofs.say_next.Goals as goal

pub returns-clause-err : goal.returns-clause-err
returns-clause-err g c =
    behind c.put-2.result _ _ _ (32 ∷ []) _ _ (c.as_bytes.ensures.value ∙ c.format.ensures.text) c.in_ok-put.ensures.said c.put-2.ensures.err
