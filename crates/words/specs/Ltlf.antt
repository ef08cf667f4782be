-- LTL on finite traces, position by position (document 01, "Sequences and their reading"; De Giacomo and Vardi 2013).
-- A reading says of each position whether a formula holds there; n is the trace's length, and an operator is read at a position i below n. The empty
-- trace is read at 0 by the same clauses (document 02, E4), so nothing here is special about length 0.
-- Assumes nothing.
use Rattle.std.specs.Prelude.{◌↔◌, ◌⊎◌, ℕ, ◌+◌, ◌≤◌, ◌<◌}

abbrev pub Reading : Type 1
Reading = ℕ → Type 0

-- "`!`, `|`, `&`, `->`, `<->` act position by position."
abbrev pub Not : Reading → Reading
Not f i = f i → ⊥

abbrev pub Or : Reading → Reading → Reading
Or f g i = f i ⊎ g i

abbrev pub And : Reading → Reading → Reading
And f g i = f i × g i

abbrev pub Implies : Reading → Reading → Reading
Implies f g i = f i → g i

abbrev pub Equiv : Reading → Reading → Reading
Equiv f g i = f i ↔ g i

-- "`X[!]` f holds at i if i+1 < n and f holds at i+1."
abbrev pub StrongNext : ℕ → Reading → Reading
StrongNext n f i = (i + 1 < n) × f (i + 1)

-- "`X` f holds at i if i+1 = n or f holds at i+1.": where i+1 < n, f holds at i+1. For i below n it is the same (`next-below`), and so the empty trace
-- is read too
abbrev pub WeakNext : ℕ → Reading → Reading
WeakNext n f i = i + 1 < n → f (i + 1)

-- "`F` f: f holds at some j, i <= j < n."
abbrev pub Finally : ℕ → Reading → Reading
Finally n f i = (j : ℕ) × (i ≤ j) × (j < n) × f j

-- "`G` f: at every such j."
abbrev pub Globally : ℕ → Reading → Reading
Globally n f i = (j : ℕ) → i ≤ j → j < n → f j

-- "f `U` g: g holds at some j, i <= j < n, and f at every k, i <= k < j."
abbrev pub Until : ℕ → Reading → Reading → Reading
Until n f g i = (j : ℕ) × (i ≤ j) × (j < n) × g j × ((k : ℕ) → i ≤ k → k < j → f k)

-- "f `R` g: for every j, i <= j < n, g holds at j or f holds at some k, i <= k < j."
abbrev pub Release : ℕ → Reading → Reading → Reading
Release n f g i = (j : ℕ) → i ≤ j → j < n → g j ⊎ ((k : ℕ) × (i ≤ k) × (k < j) × f k)

-- "A session accepts a formula if .. the formula holds at 0.", by 02 at every length. A recorded session, a sequence and a row of a matrix accept by this
abbrev pub AcceptsAt : Reading → Type 0
AcceptsAt f = f 0
