-- From all 64 places to a session's length n: where the mask holds just the snapshots below n and the words are well formed, what an operator
-- means over the mask is its reading at length n, at the places of a formula's word. No word is looked at here, only what it means.
-- Assumes nothing.
use mathlib.Core.Logic.{inl, inr, ⊎_elim}
use Prim.Native.Nat.{ℕ, ◌+◌, ◌≤◌, ◌<◌}
use native.Mathlib.Nat.{eq-or-lt_of_le}
use native.Mathlib.Decide.{dec_lt}
use native.Mathlib.Omega.{arith}
use Rattle.words.specs.Ltlf.{Reading, Or, And, StrongNext, WeakNext, Finally, Globally, Until, Release}
use Rattle.words.specs.Masked.{PlacesOn, WeakNextOn, FinallyOn, GloballyOn, UntilOn, ReleaseOn}
use Rattle.words.specs.Word.{width, At, WfComputed, places, Means}
use Rattle.words.specs.Promises.{NextBelow}
use Rattle.words.proofs.At.{at-below, means}

-- the mask of n snapshots
abbrev pub Mask : ℕ → ℕ → Type 0
Mask n m = Means width m (λ i. i < n)

cut : {n r : ℕ} {f g : Reading} → n ≤ width → Means width r f → ((i : ℕ) → f i → (i < places n) × g i) → ((i : ℕ) → i < places n → g i → f i) → Means n r g
cut s p to from = means s (λ i h. to i ((p.holds i (at-below p.wf i h)).0 h)) (λ i h q. (p.holds i (omega arith)).1 (from i h q))

module _ {n m : ℕ} (s : n ≤ width) (k : Mask n m) where
  on : (i : ℕ) → i < n → At m i
  on i h = (k.holds i (omega arith)).1 h

  off : (i : ℕ) → At m i → i < n
  off i h = (k.holds i (at-below k.wf i h)).0 h

  -- the places over the mask are those of a formula's word
  pub placed : (i : ℕ) → i < places n → PlacesOn (At m) i
  placed i h = elim (dec_lt i n) [ yes l ↦ inl (on i l) | no l ↦ inr (omega arith) ]

  pub place : (i : ℕ) → PlacesOn (At m) i → i < places n
  place i p = ⊎_elim (λ q. let l = off i q in omega arith) (λ e. omega arith) p

  -- true, `!`, `->`, `<->`: place by place
  pub places-cut : {r : ℕ} {g : Reading} → Means width r (PlacesOn (At m)) → ((i : ℕ) → g i) → Means n r g
  places-cut p all = cut s p (λ i t. (place i t, all i)) (λ i h q. placed i h)

  pub masked-cut : {r : ℕ} (g : Reading) → Means width r (And (PlacesOn (At m)) g) → Means n r g
  masked-cut g p = cut s p (λ i t. (place i t.0, t.1)) (λ i h q. (placed i h, q))

  pub weak-next-cut : (x : ℕ) {r : ℕ} → Means width r (WeakNextOn (At m) (At x)) → Means n r (WeakNext n (At x))
  weak-next-cut x p =
      cut s p (λ i t. (place i t.0, λ l. (t.1 (omega arith, on (i + 1) l)).1)) (λ i h t. (placed i h, λ q. (q.0, t (off (i + 1) q.1))))

  pub finally-cut : (x : ℕ) {r : ℕ} → Means width r (FinallyOn (At m) (At x)) → Means n r (Finally n (At x))
  finally-cut x p =
      cut s p (λ i t. let l = off t.0 t.3.0 in (omega arith, (t.0, t.1, l, t.3.1))) (λ i h t. (t.0, t.1, omega arith, (on t.0 t.2, t.3)))

  pub until-cut : (x y : ℕ) {r : ℕ} → Means width r (UntilOn (At m) (At x) (At y)) → Means n r (Until n (At x) (At y))
  until-cut x y p =
      cut s p (λ i t. let l = off t.0 t.3.0 in (omega arith, (t.0, t.1, l, t.3.1, t.4)))
      (λ i h t. (t.0, t.1, omega arith, (on t.0 t.2, t.3), t.4))

  pub globally-cut : (x : ℕ) {r : ℕ} → Means width r (GloballyOn (At m) (At x)) → Means n r (Globally n (At x))
  globally-cut x p =
      cut s p (λ i t. (place i t.0, λ j l h. t.1 j l (omega arith) (on j h))) (λ i h t. (placed i h, λ j l w q. t j l (off j q)))

  pub release-cut : (x y : ℕ) {r : ℕ} → Means width r (ReleaseOn (At m) (At x) (At y)) → Means n r (Release n (At x) (At y))
  release-cut x y p =
      cut s p
      (λ i t. (place i t.0, λ j l h. ⊎_elim (λ q. inl (q (on j h))) (λ q. inr (q.0, q.1, q.2, q.3 (inl (on q.0 (omega arith))))) (t.1 j l (omega arith))))
      (λ i h t. (placed i h, λ j l w. elim (dec_lt j n) [ yes b ↦ ⊎_elim (λ q. inl (λ e. q)) (λ q. inr (q.0, q.1, q.2, λ e. q.3)) (t j l b) | no b ↦ inl (λ e. absurd (b (off j e))) ]))

-- `|`, `&`, `X[!]` need no mask: a well-formed word holds at no other place
module _ {n x : ℕ} (w : WfComputed n x) where
  pub strong-next-cut : {r : ℕ} → Means width r (StrongNext width (At x)) → Means n r (StrongNext n (At x))
  strong-next-cut p =
      cut (omega (arith, w.short)) p (λ i t. let l = at-below w (i + 1) t.1 in (omega arith, (omega arith, t.1))) (λ i h t. (omega (arith, w.short), t.1))

module _ {n x y : ℕ} (w : WfComputed n x) (u : WfComputed n y) where
  pub or-cut : {r : ℕ} → Means width r (Or (At x) (At y)) → Means n r (Or (At x) (At y))
  or-cut p = cut (omega (arith, w.short)) p (λ i t. (⊎_elim (at-below w i) (at-below u i) t, t)) (λ i h t. t)

  pub and_cut : {r : ℕ} → Means width r (And (At x) (At y)) → Means n r (And (At x) (At y))
  and_cut p = cut (omega (arith, w.short)) p (λ i t. (at-below w i t.0, t)) (λ i h t. t)

-- ---- `X` below the length is 01's

pub next-below : NextBelow
next-below n f i h = (
  λ t. ⊎_elim inl (λ l. inr (t l)) (eq-or-lt_of_le {n = i + 1} {m = n} (omega arith)),
  λ t l. ⊎_elim (λ e. absurd (omega arith)) (λ p. p) t,
)
