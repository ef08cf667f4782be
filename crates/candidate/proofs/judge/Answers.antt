-- `judge` meets its contract: what its callees answered, in their order.
use mathlib.Core.Path.{refl, sym, ◌∙◌}
use native.Mathlib.Omega.{arith}
use Rattle.candidate.proofs.Judging.{repeats, fresh, out-of-room, in-room}
use Rattle.candidate.proofs.judge.Goals as goal

pub returns-then-agrees : goal.returns-then-agrees
returns-then-agrees c =
    record { filled = c.rows_of.result; made = c.rows_of.ensures; tests = (sym c.agrees.ensures ∙ c.if-agrees.true, refl) }

pub returns-then-is_some : goal.returns-then-is_some
returns-then-is_some c =
    record {
      filled = c.rows_of.result;
      made = c.rows_of.ensures;
      tests = (sym c.agrees.ensures ∙ c.if-agrees.false, repeats c.known_at.result (sym c.is_some.ensures ∙ c.if-is_some.true) c.known_at.ensures, refl);
    }

pub returns-then-no_place : goal.returns-then-no_place
returns-then-no_place c =
    record {
      filled = c.rows_of.result;
      made = c.rows_of.ensures;
      tests = (
        sym c.agrees.ensures ∙ c.if-agrees.false,
        fresh c.known_at.result (sym c.is_some.ensures ∙ c.if-is_some.false) c.known_at.ensures,
        out-of-room _ _ _ c.if-no_place.true c.no_place.ensures,
        refl,
      );
    }

pub overflow_cast-kept : goal.overflow_cast-kept
overflow_cast-kept c =
    let w = in-room _ _ _ c.if-no_place.false c.no_place.ensures in
    omega (arith, w)

pub returns : goal.returns
returns c =
    let w = in-room _ _ _ c.if-no_place.false c.no_place.ensures in
    record {
      filled = c.rows_of.result;
      made = c.rows_of.ensures;
      tests = (
        sym c.agrees.ensures ∙ c.if-agrees.false,
        fresh c.known_at.result (sym c.is_some.ensures ∙ c.if-is_some.false) c.known_at.ensures,
        w.0,
        w.1,
        (c.keep.result, c.keep.ensures),
      );
    }
