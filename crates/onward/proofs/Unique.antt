-- `seek` has one answer: of two ways over the ends of sizes one is not longer than the other, for the longer one passes over a size where the shorter one stays.
-- Assumes nothing.
use mathlib.Core.Path.{◌≡◌, refl, sym, ap, ap₂, ◌∙◌, subst}
use mathlib.Core.List.{List}
use Prim.Native.Nat.{ℕ, suc, ◌≤◌, ◌<◌}
use native.Mathlib.Omega.{arith}
use native.Mathlib.Decide.{dec_le}
use Rattle.split.specs.declared.Candidate.{Candidate}
use Rattle.std.specs.Prelude.{Option, None}
use Rattle.order.specs.Size.{Layer, layer_of}
use Rattle.order.specs.Steps.{Steps}
use Rattle.order.proofs.Rest.{steps-unique}
use Rattle.state.specs.declared.State.{State}
use Rattle.state.specs.declared.End.{End}
use Rattle.state.proofs.Ends.{dec_more}
use Rattle.onward.specs.declared.Seen.{Seen}
use Rattle.onward.specs.Onward.{begin_state, starts_at, Over, Seeks}

module _ (m bound constants : ℕ) (sizes unary binary : List ℕ) (from : State) (starts : List ℕ) where
  abbrev Way : State → List ℕ → Type 0
  Way at begun = Over m bound constants sizes unary binary from starts at begun

  abbrev layer_from : State → List ℕ → Layer
  layer_from at begun = layer_of at.size begun m constants unary binary

  -- how many sizes are passed over
  unfoldable passed : {at : State} {begun : List ℕ} → Way at begun → ℕ
  passed Over.here = 0
  passed (Over.on o step h) = suc (passed o)

  same_way : {a b : State} {s t : List ℕ} (x : Way a s) (y : Way b t) → passed x ≡ passed y → (a ≡ b) × (s ≡ t)
  unfolding passed
  same_way Over.here Over.here e = (refl, refl)
  same_way Over.here (Over.on o step h) e = absurd (omega (arith, e))
  same_way (Over.on o step h) Over.here e = absurd (omega (arith, e))
  same_way (Over.on o step h) (Over.on p step' h') e =
      let (f, g) = same_way o p (omega (arith, e)) in
      let k = ap (λ (x : State). starts_at sizes x.counts.kept) f in
      (ap₂ (λ (x : State) (l : List ℕ). begin_state l x) f k, k)

  -- a size that is passed over
  record Passed (n : ℕ) : Type 0 where
    at : State
    begun : List ℕ
    way : Way at begun
    long : passed way ≡ n
    ended : Steps (layer_from at begun) at.at None
    below : at.size < bound

  passed_over : {b : State} {t : List ℕ} (y : Way b t) (n : ℕ) → n < passed y → Passed n
  unfolding passed
  passed_over Over.here n l = absurd (omega arith)
  passed_over (Over.on {at} {begun} o step h) n l = elim (dec_le (passed o) n) [
    | yes z ↦ record { at = at; begun = begun; way = o; long = omega arith; ended = step; below = h }
    | no z ↦ passed_over o n (omega arith)
  ]

  -- where a way stays
  abbrev Stays : State → List ℕ → Type 0
  Stays at begun = Steps (layer_from at begun) at.at None → at.size < bound → ⊥

  not-longer : {a b : State} {s t : List ℕ} (x : Way a s) (y : Way b t) → Stays a s → passed y ≤ passed x
  not-longer {a} {b} {s} {t} x y w = elim (dec_le (passed y) (passed x)) [
    | yes h ↦ h
    | no h ↦
        let p = passed_over y (passed x) (omega arith) in
        let (e, f) = same_way p.way x p.long in
        absurd (w (subst (λ (v : State). Steps (layer_from v s) v.at None) e (subst (λ (l : List ℕ). Steps (layer_from p.at l) p.at.at None) f p.ended))
        (subst (λ (v : State). v.size < bound) e p.below))
  ]

  one_way : {a b : State} {s t : List ℕ} (x : Way a s) (y : Way b t) → Stays a s → Stays b t → (a ≡ b) × (s ≡ t)
  one_way x y w z = same_way x y (omega (arith, not-longer x y w, not-longer y x z))

  -- TWO ANSWERS OF `seek` ARE ONE
  module _ {s t : List ℕ} {seen other : Seen} (v : Seeks m bound constants sizes unary binary from starts s seen)
      (w : Seeks m bound constants sizes unary binary from starts t other) where
    stays_at : {l : List ℕ} {x : Seen} → Seeks m bound constants sizes unary binary from starts l x → from.end ≡ End.More → Stays x.state l
    stays_at u e step h = let z = u.last e (steps-unique (u.step_is e) step) in omega arith

    pub seek-unique : (s ≡ t) × (seen ≡ other)
    seek-unique = elim (dec_more from.end) [
      | yes e ↦
          let (a, b) = one_way (v.goes e) (w.goes e) (stays_at v e) (stays_at w e) in
          let f = subst (λ (x : State). Steps (layer_from x t) x.at seen.step) a (subst (λ (l : List ℕ). Steps (layer_from seen.state l) seen.state.at seen.step) b (v.step_is e)) in
          (b, ap₂ (λ (x : State) (y : Option Candidate). record { state = x; step = y }) a (steps-unique f (w.step_is e)))
      | no o ↦ ((v.stays o).1 ∙ sym (w.stays o).1, (v.stays o).0 ∙ sym (w.stays o).0)
    ]
