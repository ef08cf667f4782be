-- `check` meets its contract: the tests go through the rows in their order.
use mathlib.Core.Path.{◌≡◌}
use mathlib.Core.Logic.{inl, inr}
use Rattle.std.specs.Prelude.{Err}
use Rattle.std.proofs.Common.{rules}
use Rattle.std.proofs.lemmas.Result.{err_from_is_err_and}
use Rattle.rules.specs.declared.refusal.Refusal.TheVariants.{Numbers}
use Rattle.rules.proofs.Refusals.{refusal-positive}
use Rattle.checks.proofs.Decide.{one-outside, inside-by, numbers-alone, is_one, is-two, no-room, is-data, is-seven, is_zero, numbers-in}
use Rattle.checks.proofs.check.Goals as goal

pub returns-then-eq : goal.returns-then-eq
returns-then-eq c =
    let e : c.test-data.result ≡ Err Numbers = search rules in rw e (is_one _ _ (one-outside _ (rw e at c.test-data.ensures)))

pub returns-then-not-settings_good : goal.returns-then-not-settings_good
returns-then-not-settings_good c =
    is-two _ _ (inside-by _ c.test-data.ensures (search (rules, numbers-alone))) c.if-not-settings_good.ensures

pub has_room-requires : goal.has_room-requires
has_room-requires c =
    ((numbers-in _ _ (inside-by _ c.test-data.ensures (search (rules, numbers-alone)))).1, c.if-not-settings_good.ensures.3)

pub returns-then-not-has_room : goal.returns-then-not-has_room
returns-then-not-has_room c =
    no-room _ _ (inside-by _ c.test-data.ensures (search (rules, numbers-alone))) c.if-not-settings_good.ensures c.if-not-has_room.ensures

pub returns-in_err-data : goal.returns-in_err-data
returns-in_err-data c =
    let p = err_from_is_err_and c.from_residual.result c.from_residual.ensures.1 in
    rw (p.1, p.2)
    (is-data _ _ (inside-by _ c.test-data.ensures (search (rules, numbers-alone))) c.if-not-settings_good.ensures c.if-not-has_room.ensures _
    (rw c.in_err-data.was at c.test-data.ensures) (refusal-positive _))

pub returns-then-not-codes_good : goal.returns-then-not-codes_good
returns-then-not-codes_good c =
    is-seven _ _ (inside-by _ c.test-data.ensures (search (rules, numbers-alone))) c.if-not-settings_good.ensures c.if-not-has_room.ensures
    (rw c.in_ok-data.was at c.test-data.ensures) (inl c.if-not-codes_good.ensures)

pub returns-then-not-codes_good-2 : goal.returns-then-not-codes_good-2
returns-then-not-codes_good-2 c =
    is-seven _ _ (inside-by _ c.test-data.ensures (search (rules, numbers-alone))) c.if-not-settings_good.ensures c.if-not-has_room.ensures
    (rw c.in_ok-data.was at c.test-data.ensures) (inr c.if-not-codes_good-2.ensures)

pub returns : goal.returns
returns c =
    is_zero _ _ (inside-by _ c.test-data.ensures (search (rules, numbers-alone))) c.if-not-settings_good.ensures c.if-not-has_room.ensures
    (rw c.in_ok-data.was at c.test-data.ensures) c.if-not-codes_good.ensures c.if-not-codes_good-2.ensures
