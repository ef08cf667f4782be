-- `put` writes the words that the answer names: one store a word, in their order.
use native.Mathlib.Omega.{arith}
use mathlib.Core.Path.{◌≡◌, refl}
use mathlib.Core.List.{List}
use Prim.Native.Nat.{ℕ}
use lib.ListN.{length-set}
use Rattle.std.proofs.Common.{Err}
use Rattle.file.specs.declared.ReadError.{ReadError}
use Rattle.file.specs.declared.ReadError.TheVariants.{Broken, Room}
use Rattle.file.specs.Reading.{said_read}
use Rattle.out.specs.Out.{written, said_words}
use Rattle.out_read.proofs.put.Goals as goal

pub bounds-out-1 : goal.bounds-out-1
bounds-out-1 c = simp length-set (omega arith)

pub bounds-out-2 : goal.bounds-out-2
bounds-out-2 c = simp length-set (omega arith)

pub bounds-out-3 : goal.bounds-out-3
bounds-out-3 c = simp length-set (omega arith)

pub bounds-out-4 : goal.bounds-out-4
bounds-out-4 c = simp length-set (omega arith)

pub bounds-out-5 : goal.bounds-out-5
bounds-out-5 c = simp length-set (omega arith)

pub bounds-out-6 : goal.bounds-out-6
bounds-out-6 c = simp length-set (omega arith)

-- a refusal names no words
none-said : (e : ReadError) (out : List ℕ) → out ≡ written (said_words (said_read (Err e))) out
none-said (Broken o) out = refl
none-said Room out = refl

pub returns-in_default : goal.returns-in_default
returns-in_default c = rw c.in_default.is (none-said c.in_default.field-0 _)

pub returns : goal.returns
returns c = rw c.in-Ok.is
