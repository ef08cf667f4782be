-- `by_code` meets its contract: each operator by its own loop.
use mathlib.Core.Path.{◌≡◌, refl, sym}
use mathlib.Core.List.{List}
use Prim.Native.Nat.{ℕ, ◌≤◌, ◌<◌}
use native.Mathlib.Omega.{arith}
use borrow.Author.Rules.{rules}
use Rattle.sequence.specs.Operators.{Unary, unary_code}
use Rattle.sequence.proofs.Groups.{not-unary}
use lib.ListN.{length}
use Rattle.loops.specs.Loops.{Filled, UnaryAt, UnaryOver}
use Rattle.loops.proofs.Filling.{filled-as}
use Rattle.loops.proofs.unary.by_code.Goals as goal

-- an operator's rows, where every slice has them and each word is the operator's, are those of its code
told : {r code : ℕ} {masks x old new : List ℕ} {P : ℕ → ℕ → Type 0} (op : Unary) → unary_code op ≡ code → r ≤ length masks → r ≤ length x → r ≤ length old
    → ((j w : ℕ) → j < r → P j w → UnaryAt op masks x j w) → Filled r old P new → UnaryOver r masks x code old new
told op e m a b one f = record {
  did = λ _. filled-as (λ j w l p. (op, e, one j w l p)) f;
  stays = λ n. absurd (n record { masks-there = m; x-there = a; rows-there = b; operator = (op, e) });
}

pub returns-then-masks-r : goal.returns-then-masks-r
returns-then-masks-r c = record { did = λ a. absurd (omega (arith, a.masks-there)); stays = λ n. refl }

pub returns-then-x-r : goal.returns-then-x-r
returns-then-x-r c = record { did = λ a. absurd (omega (arith, a.x-there)); stays = λ n. refl }

pub returns-then-rows-r : goal.returns-then-rows-r
returns-then-rows-r c = record { did = λ a. absurd (omega (arith, a.rows-there)); stays = λ n. refl }

pub returns-in-0 : goal.returns-in-0
returns-in-0 c = told Unary.not (sym c.in-0.is) (omega arith) (omega arith) (omega arith) (λ j w l p. search rules) c.fill.ensures

pub returns-in-1 : goal.returns-in-1
returns-in-1 c = told Unary.weak_next (sym c.in-1.is) (omega arith) (omega arith) (omega arith) (λ j w l p. search rules) c.fill-in-1.ensures

pub returns-in-2 : goal.returns-in-2
returns-in-2 c = told Unary.strong_next (sym c.in-2.is) (omega arith) (omega arith) (omega arith) (λ j w l p. search rules) c.fill-in-2.ensures

pub returns-in-3 : goal.returns-in-3
returns-in-3 c = told Unary.finally (sym c.in-3.is) (omega arith) (omega arith) (omega arith) (λ j w l p. search rules) c.fill-in-3.ensures

pub returns-in-4 : goal.returns-in-4
returns-in-4 c = told Unary.globally (sym c.in-4.is) (omega arith) (omega arith) (omega arith) (λ j w l p. search rules) c.fill-in-4.ensures

pub returns-in_default : goal.returns-in_default
returns-in_default c = record { did = λ a. absurd (not-unary _ (omega arith) a.operator.0 a.operator.1); stays = λ n. refl }
