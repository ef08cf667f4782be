-- `put` meets its contract: the words of both parts, in their order.
use mathlib.Core.Path.{ap, ◌∙◌}
use mathlib.Core.List.{List}
use Prim.Native.Nat.{ℕ}
use Rattle.out.specs.Out.{written, in_order}
use Rattle.state_words.specs.Words.{last_words}
use Rattle.state_words.proofs.Done.{state-short, state-long}
use Rattle.state_words.proofs.put.Goals as goal

pub returns-then-words-lt-STATE_WORDS : goal.returns-then-words-lt-STATE_WORDS
returns-then-words-lt-STATE_WORDS c = state-short _ _ c.if-words-lt-STATE_WORDS.true

pub returns : goal.returns
returns c =
    let a = c.args in
    let first = c.put_first.ensures in
    let rest = c.put_rest.ensures in
    state-long a.state a.words.now _ c.if-words-lt-STATE_WORDS.false rest.0
    (rest.1 ∙ ap (λ (ws : List ℕ). written (in_order 8 (last_words a.state.end a.state.root a.state.counts.dropped)) ws) first)
