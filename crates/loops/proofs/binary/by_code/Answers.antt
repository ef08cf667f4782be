-- `by_code` meets its contract: each operator by its own loop.
use mathlib.Core.Path.{◌≡◌, refl, sym}
use mathlib.Core.List.{List}
use Prim.Native.Nat.{ℕ, ◌≤◌, ◌<◌}
use native.Mathlib.Omega.{arith}
use lib.ListN.{length}
use borrow.Author.Rules.{rules}
use Rattle.words.specs.Word as word
use Rattle.sequence.specs.Operators.{Binary, binary_code}
use Rattle.sequence.proofs.Groups.{not-binary}
use Rattle.loops.specs.Loops.{Filled, BinaryAt, BinaryOver}
use Rattle.loops.proofs.Filling.{filled-as}
use Rattle.loops.proofs.binary.by_code.Goals as goal

-- an operator's rows, where every slice has them and each word is the operator's, are those of its code
told : {r code : ℕ} {masks x y old new : List ℕ} {P : ℕ → ℕ → Type 0} (op : Binary) → binary_code op ≡ code → r ≤ length masks → r ≤ length x → r ≤ length y
    → r ≤ length old → ((j w : ℕ) → j < r → P j w → BinaryAt op masks x y j w) → Filled r old P new → BinaryOver r masks x y code old new
told op e m a b d one f = record {
  did = λ _. filled-as (λ j w l p. (op, e, one j w l p)) f;
  stays = λ n. absurd (n record { masks-there = m; x-there = a; y-there = b; rows-there = d; operator = (op, e) });
}

pub returns-then-masks-r : goal.returns-then-masks-r
returns-then-masks-r c = record { did = λ a. absurd (omega (arith, a.masks-there)); stays = λ n. refl }

pub returns-then-x-r : goal.returns-then-x-r
returns-then-x-r c = record { did = λ a. absurd (omega (arith, a.x-there)); stays = λ n. refl }

pub returns-then-y-r : goal.returns-then-y-r
returns-then-y-r c = record { did = λ a. absurd (omega (arith, a.y-there)); stays = λ n. refl }

pub returns-then-rows-r : goal.returns-then-rows-r
returns-then-rows-r c = record { did = λ a. absurd (omega (arith, a.rows-there)); stays = λ n. refl }

pub returns-in-5 : goal.returns-in-5
returns-in-5 c = told Binary.or (sym c.in-5.is) (omega arith) (omega arith) (omega arith) (omega arith) (λ j w l p. search rules) c.fill.ensures

pub returns-in-6 : goal.returns-in-6
returns-in-6 c = told Binary.and (sym c.in-6.is) (omega arith) (omega arith) (omega arith) (omega arith) (λ j w l p. search rules) c.fill-in-6.ensures

pub returns-in-7 : goal.returns-in-7
returns-in-7 c = told Binary.until (sym c.in-7.is) (omega arith) (omega arith) (omega arith) (omega arith) (λ j w l p. search rules) c.fill-in-7.ensures

-- the search for a release goes as far as the bits
pub returns-in-8 : goal.returns-in-8
unfolding word.bit
returns-in-8 c = told Binary.release (sym c.in-8.is) (omega arith) (omega arith) (omega arith) (omega arith) (λ j w l p. search rules) c.fill-in-8.ensures

pub returns-in-9 : goal.returns-in-9
returns-in-9 c = told Binary.implies (sym c.in-9.is) (omega arith) (omega arith) (omega arith) (omega arith) (λ j w l p. search rules) c.fill-in-9.ensures

pub returns-in-10 : goal.returns-in-10
returns-in-10 c = told Binary.equiv (sym c.in-10.is) (omega arith) (omega arith) (omega arith) (omega arith) (λ j w l p. search rules) c.fill-in-10.ensures

pub returns-in_default : goal.returns-in_default
returns-in_default c = record { did = λ a. absurd (not-binary _ (λ h. omega arith) a.operator.0 a.operator.1); stays = λ n. refl }
