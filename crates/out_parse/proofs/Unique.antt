-- Uniqueness: any two results that the contract of `parse` allows for the same input are equal, number, lent slices and `out`.
-- Assumes nothing.
use mathlib.Core.Path.{◌≡◌, sym, ap, ◌∙◌}
use mathlib.Core.List.{List}
use Prim.Native.Nat.{ℕ}
use Rattle.std.proofs.Common.{Result}
use Rattle.reader.specs.declared.ParseError.{ParseError}
use Rattle.reader.specs.Parsing.{Columns, said_parsed}
use Rattle.out.specs.Out.{written, returned_of, said_words}
use Rattle.out_parse.specs.Parse.{ParseDone}
use Rattle.out_parse.proofs.Parsing.{same-parsed}

pub parse-done-unique : (names text : List ℕ) (lent : Columns) (old : List ℕ) (k l : ℕ) (u v : Columns) (x y : List ℕ)
    → ParseDone names text lent old k u x → ParseDone names text lent old l v y → (k ≡ l) × (u ≡ v) × (x ≡ y)
parse-done-unique names text lent old k l u v x y p q =
    let e = same-parsed names text lent old p q in (
      p.number ∙ ap (λ (w : Result ℕ ParseError). returned_of (said_parsed w)) e.0 ∙ sym q.number,
      e.1,
      p.words ∙ ap (λ (w : Result ℕ ParseError). written (said_words (said_parsed w)) old) e.0 ∙ sym q.words,
    )
