-- The cut walk: before the next candidate of a size, over to the next size, one candidate more, at the end.
-- Assumes nothing.
use mathlib.Core.Path.{◌≡◌, refl, ap, ◌∙◌}
use mathlib.Core.List.{List, [], ◌∷◌}
use Prim.Native.Nat.{ℕ, zero, suc, ◌-◌, ◌≤◌, ◌<◌}
use native.Mathlib.Omega.{arith}
use lib.ListN.{length, take, drop}
use borrow.Author.Tests.{lt-ltb, le-ltb}
use Rattle.walk.specs.Walk.{Candidate, Ending, none, Tally, tally, WalkState, going, ended, layer, consider}
use Rattle.walk.specs.Cut.{Cut, more, over, settle, start, step, turn}
use Rattle.walk.specs.Input.{Input, offer}
use Rattle.walk.specs.Kept.{Table, begun, go_on}

-- the cut walk at size s after j of its candidates
abbrev pub settled_cut : Input → ℕ → ℕ → WalkState (List ℕ) → Cut (List ℕ)
settled_cut i s j st = settle (offer i) i.room i.bound (suc i.bound - s) s j st

module _ (i : Input) where
  at-end : (d s j : ℕ) (e : Ending) (k : Table) (n : Tally) → settle (offer i) i.room i.bound d s j (ended e k n) ≡ over e k n
  unfolding settle
  at-end zero s j e k n = refl
  at-end (suc d) s j e k n = refl

  -- an ended walk is at its end
  pub settled-over : (s j : ℕ) (e : Ending) (k : Table) (n : Tally) → settled_cut i s j (ended e k n) ≡ over e k n
  settled-over s j e k n = at-end (suc i.bound - s) s j e k n

  before : (d s j : ℕ) (k : Table) (n : Tally) → 1 ≤ d → j < length (layer (offer i) s k) → settle (offer i) i.room i.bound d s j (going k n) ≡ more s j k n
  unfolding settle
  before zero s j k n h l = absurd (omega arith)
  before (suc d) s j k n h l = rw (lt-ltb j (length (layer (offer i) s k)) l)

  -- a candidate of the size is next
  pub settled-more : (s j : ℕ) (k : Table) (n : Tally) → s ≤ i.bound → j < length (layer (offer i) s k) → settled_cut i s j (going k n) ≡ more s j k n
  settled-more s j k n h l = before (suc i.bound - s) s j k n (omega arith) l

  passes : (d e s j : ℕ) (k : Table) (n : Tally) → d ≡ suc e → length (layer (offer i) s k) ≤ j
      → settle (offer i) i.room i.bound d s j (going k n) ≡ settle (offer i) i.room i.bound e (suc s) 0 (going k n)
  unfolding settle
  passes d e s j k n f l = rw (f, le-ltb j (length (layer (offer i) s k)) l)

  -- a size is done, and another is left
  pub settled-next : (s j : ℕ) (k : Table) (n : Tally) → s < i.bound → length (layer (offer i) s k) ≤ j → settled_cut i s j (going k n) ≡ settled_cut i (suc s) 0 (going k n)
  settled-next s j k n h l =
      passes (suc i.bound - s) (i.bound - s) s j k n (omega arith) l
      ∙ ap (λ (d : ℕ). settle (offer i) i.room i.bound d (suc s) 0 (going k n)) (let e : i.bound - s ≡ suc i.bound - suc s = omega arith in e)

  nothing_left : (e s : ℕ) (k : Table) (n : Tally) → e ≡ 0 → settle (offer i) i.room i.bound e s 0 (going k n) ≡ over none k n
  unfolding settle
  nothing_left e s k n f = rw f

  -- the last size is done
  pub settled-none : (s j : ℕ) (k : Table) (n : Tally) → s ≡ i.bound → length (layer (offer i) s k) ≤ j → settled_cut i s j (going k n) ≡ over none k n
  settled-none s j k n h l =
      passes (suc i.bound - s) (i.bound - s) s j k n (omega arith) l ∙ nothing_left (i.bound - s) (suc s) k n (omega arith)

  -- a candidate is tried
  pub one-step : (s j : ℕ) (k : Table) (n : Tally) (x : Candidate (List ℕ)) → take 1 (drop j (layer (offer i) s k)) ≡ x ∷ []
      → step (offer i) i.room i.bound (more s j k n) ≡ settled_cut i s (suc j) (consider (offer i) i.room (going k n) x)
  unfolding step
  one-step s j k n x e = rw e

  pub turn_one : (a b : ℕ) (c : Cut (List ℕ)) → a ≡ suc b → go_on i a c ≡ go_on i b (step (offer i) i.room i.bound c)
  unfolding turn
  turn_one a b c e = rw e

  pub turn-none : (a : ℕ) (c : Cut (List ℕ)) → a ≡ 0 → go_on i a c ≡ c
  unfolding turn
  turn-none a c e = rw e

  -- the end stays
  pub turn-over : (a : ℕ) (e : Ending) (k : Table) (n : Tally) → go_on i a (over e k n) ≡ over e k n
  unfolding turn step
  turn-over zero e k n = refl
  turn-over (suc a) e k n = turn-over a e k n

  -- nothing is tried
  pub begun-is : begun i ≡ settled_cut i 1 0 (going [] (tally 0 0))
  unfolding start
  begun-is = ap (λ (d : ℕ). settle (offer i) i.room i.bound d 1 0 (going [] (tally 0 0))) (let e : i.bound ≡ suc i.bound - 1 = omega arith in e)
