-- Uniqueness: any two results that the contract of `search` allows for the same input are equal, number, lent slices and `out`.
-- Assumes nothing.
use mathlib.Core.Path.{◌≡◌, sym, ap, ◌∙◌}
use Rattle.std.specs.Prelude.{Ok}
use mathlib.Core.List.{List}
use Prim.Native.Nat.{ℕ}
use native.Mathlib.Decide.{ℕ_discrete}
use Rattle.rules.proofs.Refusals.{decided-unique}
use Rattle.walk.specs.Input.{Input}
use Rattle.search.specs.declared.SearchAnswer.{SearchAnswer}
use Rattle.table.specs.Slices.{Cols}
use Rattle.search.proofs.Promises.{search-unique}
use Rattle.out.specs.Out.{written}
use Rattle.out_search.specs.Search.{search_words, SearchDone}

pub search-done-unique : (i : Input) (t : Cols) (old : List ℕ) (k l : ℕ) (u v : Cols) (x y : List ℕ) → SearchDone i t old k u x → SearchDone i t old l v y
    → (k ≡ l) × (u ≡ v) × (x ≡ y)
search-done-unique i t old k l u v x y p q =
    let n = decided-unique _ k l p.number q.number in
    elim (ℕ_discrete k 0) [
      | yes e ↦
          let a = p.passed e in
          let b = q.passed (sym n ∙ e) in
          let s = search-unique i t (Ok a.0) (Ok b.0) u v a.1 b.1 in
          let same : a.0 ≡ b.0 = cc s.0 in
          (n, s.1, a.2 ∙ ap (λ (w : SearchAnswer). written (search_words w) old) same ∙ sym b.2)
      | no e ↦
          let a = p.refused e in
          let b = q.refused (λ z. e (n ∙ z)) in
          (n, a.0 ∙ sym b.0, a.1 ∙ sym b.1)
    ]
