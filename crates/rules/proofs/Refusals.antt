-- The laws of the decision list: it decides one number, and lists decide one after the other.
-- Assumes nothing.
use mathlib.Core.Path.{◌≡◌, refl, sym, ap, ◌∙◌, subst}
use mathlib.Core.Bool.{true≢false}
use mathlib.Core.Logic.{inl, inr}
use mathlib.Core.List.{List, [], ◌∷◌, ◌++◌}
use Prim.Native.Nat.{ℕ, zero, suc, ◌<◌}
use native.Mathlib.Omega.{arith}
use lib.Dec.{lit<}
use lib.ListN.{get_or}
use Rattle.std.specs.Prelude.{Result, Ok, Err, IsErr, IsErrAnd}
use Rattle.rules.specs.declared.refusal.Refusal.{Refusal}
use Rattle.rules.specs.declared.refusal.Refusal.TheVariants.{Numbers, Settings, Room, Length, Bit, Mark, Code, Nodes, Unequal, Large, State}
use Rattle.rules.specs.Refusals.{Row, Decided, first_of, refusal_number}

pub decided-unique : (rows : List Row) (a b : ℕ) → Decided rows a → Decided rows b → a ≡ b
unfolding Decided
decided-unique [] a b p q = p ∙ sym q
decided-unique (row ∷ rows) a b (inl p) (inl q) = p.1 ∙ sym q.1
decided-unique (row ∷ rows) a b (inl p) (inr q) = absurd (q.0 p.0)
decided-unique (row ∷ rows) a b (inr p) (inl q) = absurd (p.0 q.0)
decided-unique (row ∷ rows) a b (inr p) (inr q) = decided-unique rows a b p.1 q.1

-- no row has the number 0
abbrev pub Numbered : List Row → Type 0
Numbered [] = Unit {0}
Numbered (row ∷ rows) = (0 < row.number) × Numbered rows

pub first_some : (a b : ℕ) → 0 < a → first_of a b ≡ a
first_some zero b h = absurd (omega arith)
first_some (suc a) b h = refl

-- two lists, one before the other
pub decided-both : (rows more : List Row) (a b : ℕ) → Numbered rows → Decided rows a → Decided more b → Decided (rows ++ more) (first_of a b)
unfolding Decided
decided-both [] more a b n p q = rw p q
decided-both (row ∷ rows) more a b n (inl p) q = inl (p.0, first_some a b (subst (λ (k : ℕ). 0 < k) (sym p.1) n.0) ∙ p.1)
decided-both (row ∷ rows) more a b n (inr p) q = inr (p.0, decided-both rows more a b n.1 p.1 q)

-- of which the first gives nothing
pub decided-later : (rows more : List Row) (k : ℕ) → Numbered rows → Decided rows 0 → Decided more k → Decided (rows ++ more) k
decided-later rows more k n d e = decided-both rows more 0 k n d e

-- a number that is decided stays, whatever comes after
pub decided-early : (rows more : List Row) (a : ℕ) → Decided rows a → (a ≡ 0 → ⊥) → Decided (rows ++ more) a
unfolding Decided
decided-early [] more a d n = absurd (n d)
decided-early (row ∷ rows) more a (inl p) n = inl p
decided-early (row ∷ rows) more a (inr p) n = inr (p.0, decided-early rows more a p.1 n)

-- a row decides by itself
pub decided-given : (row : Row) → row.given → Decided (row ∷ []) row.number
unfolding Decided
decided-given row h = inl (h, refl)

pub decided-not : (row : Row) → (row.given → ⊥) → Decided (row ∷ []) 0
unfolding Decided
decided-not row h = inr (h, refl)

-- where the list decides 0, no row is given
pub decided-none : (row : Row) (rows : List Row) → Numbered (row ∷ rows) → Decided (row ∷ rows) 0 → (row.given → ⊥) × Decided rows 0
unfolding Decided
decided-none row rows n (inl p) = absurd (omega (arith, n.0, p.1))
decided-none row rows n (inr p) = p

-- ---- the refusals

-- no refusal has the number 0
pub refusal-positive : (refusal : Refusal) → 0 < refusal_number refusal
refusal-positive Numbers = lit< tt
refusal-positive Settings = lit< tt
refusal-positive Room = lit< tt
refusal-positive Length = lit< tt
refusal-positive Bit = lit< tt
refusal-positive Mark = lit< tt
refusal-positive Code = lit< tt
refusal-positive Nodes = lit< tt
refusal-positive Unequal = lit< tt
refusal-positive Large = lit< tt
refusal-positive State = lit< tt

-- and no two have one number: the refusal of a number
numbered : ℕ → Refusal
numbered k = get_or (State ∷ Numbers ∷ Settings ∷ Room ∷ Length ∷ Bit ∷ Mark ∷ Code ∷ State ∷ Nodes ∷ Unequal ∷ State ∷ Large ∷ []) k State

numbered-back : (refusal : Refusal) → numbered (refusal_number refusal) ≡ refusal
unfolding numbered
numbered-back Numbers = refl
numbered-back Settings = refl
numbered-back Room = refl
numbered-back Length = refl
numbered-back Bit = refl
numbered-back Mark = refl
numbered-back Code = refl
numbered-back Nodes = refl
numbered-back Unequal = refl
numbered-back Large = refl
numbered-back State = refl

pub refusal-one : (a b : Refusal) → refusal_number a ≡ refusal_number b → a ≡ b
refusal-one a b e = sym (numbered-back a) ∙ ap numbered e ∙ numbered-back b

-- a refusal that is decided stays, whatever comes after
pub refused-early : (rows more : List Row) (refusal : Refusal) → Decided rows (refusal_number refusal) → Decided (rows ++ more) (refusal_number refusal)
refused-early rows more refusal d = decided-early rows more _ d (λ e. omega (arith, refusal-positive refusal))

-- what `?` hands up of it
pub handed-up : {A : Type 0} (r : Result A Refusal) (refusal : Refusal) → IsErr r × IsErrAnd r (λ e. e ≡ refusal) → r ≡ Err refusal
handed-up (Ok a) refusal h = absurd (true≢false (sym h.0))
handed-up (Err e) refusal h = ap Err h.1
