-- `codes_good` meets its contract: the codes passed are in their group, and none is repeated.
use Rattle.std.proofs.Common.{◌≡◌, Bool, List, ℕ, ◌≤◌, ◌<◌, length, get_or}
use Rattle.operators.specs.Table.{GroupIs}
use Rattle.settings.proofs.codes_good.Given as goal

-- the first n codes are good
pub record GoodBelow (unary : Bool) (codes : List ℕ) (n : ℕ) : Type 0 where
  pub inside : n ≤ length codes
  pub in_group : (o : ℕ) → o < n → GroupIs unary (get_or codes o 0)
  pub once : (p q : ℕ) → p < q → q < n → get_or codes p 0 ≡ get_or codes q 0 → ⊥

abbrev pub invariant-loop-i : goal.invariant-loop-i
invariant-loop-i l = GoodBelow l.unary l.codes l.i
