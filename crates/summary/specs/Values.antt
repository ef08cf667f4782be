-- What the report says of a formula on a session: the first snapshot where it holds, the first where it doesn't, and at how many it holds.
-- Assumes nothing.
use Rattle.std.specs.Prelude.{◌≡◌, ◌⊎◌, ℕ, zero, suc, ◌<◌, Option, Some, None}
use Rattle.words.specs.Ltlf.{Reading}
use Rattle.summary.specs.declared.values.Summary.{Summary}

-- "the first snapshot where it holds": the least of n positions at which f holds; ""Never" is a case of its own"
abbrev pub LeastIn : ℕ → Reading → Option ℕ → Type 0
LeastIn n f None = (p : ℕ) → p < n → f p → ⊥
LeastIn n f (Some q) = (q < n) × f q × ((p : ℕ) → p < q → f p → ⊥)

-- "at how many it holds": of n positions, c have f
abbrev pub CountIn : ℕ → Reading → ℕ → Type 0
CountIn zero f c = c ≡ 0
CountIn (suc n) f c = (f n × ((b : ℕ) × (c ≡ suc b) × CountIn n f b)) ⊎ ((f n → ⊥) × CountIn n f c)

-- where f doesn't hold
abbrev pub Fails : Reading → Reading
Fails f p = f p → ⊥

-- "the first snapshot where it holds, the first where it doesn't, and at how many it holds": of n snapshots; "an empty session says never to both
-- with count 0" is this at n = 0
pub record Summed (n : ℕ) (f : Reading) (s : Summary) : Type 0 where
  pub holds : LeastIn n f s.holds
  pub fails : LeastIn n (Fails f) s.fails
  pub count : CountIn n f s.count
