-- `taken_name` meets its contract: a reserved word, or else one of the names before.
use mathlib.Core.Path.{◌≡◌, sym, ◌∙◌}
use mathlib.Core.Bool.{Bool}
use mathlib.Core.List.{List}
use Prim.Native.Nat.{ℕ, ◌+◌, ◌-◌}
use native.Mathlib.Omega.{arith}
use lib.ListN.{take, drop}
use Rattle.reading.specs.Reading.{is_in}
use Rattle.reading.proofs.Lists.{or-on, or-stop}
use Rattle.names.specs.Reserved.{reserved}
use Rattle.names.specs.Names.{same_bytes}
use Rattle.names.proofs.reserved.taken_name.Goals as goal

cut : (file : List ℕ) (at n : ℕ) {b : Bool} → is_in same_bytes (take (at + n - at) (drop at file)) reserved ≡ b → is_in same_bytes (take n (drop at file)) reserved ≡ b
cut file at n e = let k : at + n - at ≡ n = omega arith in rw k at e

pub returns-then-is_reserved : goal.returns-then-is_reserved
returns-then-is_reserved c = let a = c.args in sym (or-stop _ (cut a.file.now a.at a.n (sym c.is_reserved.ensures ∙ c.if-is_reserved.true)))

pub returns : goal.returns
returns c =
    let a = c.args in
    c.known_name.ensures ∙ sym (or-on _ (cut a.file.now a.at a.n (sym c.is_reserved.ensures ∙ c.if-is_reserved.false)))
