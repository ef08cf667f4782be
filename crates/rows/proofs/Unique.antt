-- Any two results that a contract of this crate allows for the same input are equal.
-- Assumes nothing.
use mathlib.Core.Path.{◌≡◌, sym, ◌∙◌}
use mathlib.Core.Bool.{Bool, true, false}
use mathlib.Core.List.{List}
use Prim.Native.Nat.{ℕ}
use Rattle.words.proofs.At.{means-unique}
use Rattle.formula.specs.Formula.{proposition, constant}
use Rattle.rows.specs.Rows.{RowIs, RowsAnswer}
use Rattle.loops.proofs.Unique.{filled-unique, told-unique}
use Rattle.rows.proofs.Candidates.{unary-is, binary-is, leaf-is}

row-unique : {r m : ℕ} {masks words matrices : List ℕ} {code left right j w w' : ℕ}
    → RowIs r m masks words matrices code left right j w → RowIs r m masks words matrices code left right j w' → w ≡ w'
row-unique (RowIs.unary o e p) q = means-unique p (unary-is o e q)
row-unique (RowIs.binary o e p) q = means-unique p (binary-is o e q)
row-unique {left = left} (RowIs.proposition e p) q = p ∙ sym (leaf-is (proposition left) e q)
row-unique (RowIs.none e p) q = p ∙ sym (leaf-is (constant false) e q)
row-unique (RowIs.all e p) q = means-unique p (leaf-is (constant true) e q)

pub rows-unique : (r m : ℕ) (masks words matrices : List ℕ) (code left right : ℕ) (old new new' : List ℕ) (b b' : Bool)
    → RowsAnswer r m masks words matrices code left right old new b → RowsAnswer r m masks words matrices code left right old new' b' → (b ≡ b') × (new ≡ new')
rows-unique r m masks words matrices code left right old new new' b b' p q =
    told-unique _ _ old (λ x y f g. filled-unique (λ j w w' s t. row-unique s t) f g) b b' new new' p q
