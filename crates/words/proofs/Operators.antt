-- What each operator's word means at all 64 places, for any words and any mask: `|`, `&` and `!` act place by place, the doubling shifts
-- look 64 places ahead, and `G` and `R` are the duals that the code computes.
-- Assumes nothing.
use mathlib.Core.Path.{◌≡◌, sym, ap, ◌∙◌, subst}
use mathlib.Core.Logic.{◌↔◌, ◌⊎◌, inl, inr, ⊎_elim}
use Prim.Native.Nat.{ℕ, ◌+◌, ◌-◌, ◌/◌, ◌^◌, ◌≤◌, ◌<◌}
use native.Mathlib.Omega.{arith}
use lib.Bits.{bit_and, bit_or, bit_xor, xor_lt}
use Rattle.words.specs.Ltlf.{Reading, Not, Or, And, Implies, Equiv, StrongNext, Finally, Until}
use Rattle.words.specs.Masked.{PlacesOn, NotOn, FinallyOn, GloballyOn, UntilOn, ReleaseOn}
use Rattle.words.specs.Word.{width, bit, At, Wf, Means}
use Rattle.words.proofs.Bits.{bit-lt, bit-first, bit-shr, bit-xor}
use Rattle.words.proofs.At.{at-or-not, find, at-or, or_left, or_right, at-and, and_at, at-not, at-below, wf-lt, lt-wf, means}
use Rattle.words.proofs.Doubling.{some_first, some-double, All, Reach, all_first, all-double, reach-first, reach-double, reach-stop}

-- a word has its 64 places
pub wide : {x : ℕ} → x < 2 ^ width → Wf width x
wide l = lt-wf (omega arith) l

-- ---- place by place

pub or-means : {x y : ℕ} → Wf width x → Wf width y → Means width (bit_or x y) (Or (At x) (At y))
or-means {x} {y} w u =
    means w.short (λ i h. let p = at-or x y i h in (⊎_elim (at-below w i) (at-below u i) p, p)) (λ i h p. ⊎_elim (or_left x y i) (or_right x y i) p)

pub and-means : {x y : ℕ} → Wf width x → Wf width y → Means width (bit_and x y) (And (At x) (At y))
and-means {x} {y} w u = means w.short (λ i h. let p = at-and x y i h in (at-below w i p.0, p)) (λ i h p. and_at x y i p.0 p.1)

-- the places over a mask: `m | 1`
pub places-means : {m : ℕ} → Wf width m → Means width (bit_or m 1) (PlacesOn (At m))
places-means {m} w = means w.short (λ i h. to i (at-or m 1 i h)) (λ i h p. ⊎_elim (or_left m 1 i) (λ e. or_right m 1 i (subst (At 1) (sym e) (bit-first 1))) p)
  where
    to : (i : ℕ) → At m i ⊎ At 1 i → (i < width) × PlacesOn (At m) i
    to i (inl p) = (at-below w i p, inl p)
    to i (inr p) = let l = at-below (lt-wf {n = 1} {x = 1} (omega arith) (omega arith)) i p in (omega arith, inr (omega arith))

-- a word v that holds where f does, cut to places p
masked : (v : ℕ) {p : ℕ} {g f : Reading} → Means width p g → ((i : ℕ) → i < width → At v i ↔ f i) → Means width (bit_and v p) (And g f)
masked v {p} k e =
    means k.wf.short (λ i h. let t = at-and v p i h in let l = at-below k.wf i t.1 in (l, ((k.holds i l).0 t.1, (e i l).0 t.0)))
    (λ i h t. and_at v p i ((e i h).1 t.1) ((k.holds i h).1 t.0))

-- `!x` on the machine
abbrev pub inverse : ℕ → ℕ
inverse x = (2 ^ width - 1) - x

at-inverse : {x : ℕ} → Wf width x → (i : ℕ) → i < width → At (inverse x) i ↔ Not (At x) i
at-inverse {x} w i h = at-not width x i h (wf-lt w)

-- over the places p of whatever reading g
pub not-means : {x p : ℕ} {g : Reading} → Wf width x → Means width p g → Means width (bit_and (inverse x) p) (And g (Not (At x)))
not-means {x} w v = masked (inverse x) v (at-inverse w)

-- `!v | w`, where v holds where f does and w where g does
at-implies : {v w : ℕ} {f g : Reading} → Means width v f → Means width w g → (i : ℕ) → i < width → At (bit_or (inverse v) w) i ↔ Implies f g i
at-implies {v} {w} a b i h = (
  λ t p. ⊎_elim (λ q. absurd ((at-inverse a.wf i h).0 q ((a.holds i h).1 p))) (b.holds i h).0 (at-or (inverse v) w i t),
  λ t. ⊎_elim (λ p. or_right (inverse v) w i ((b.holds i h).1 (t ((a.holds i h).0 p)))) (λ p. or_left (inverse v) w i ((at-inverse a.wf i h).1 p)) (at-or-not v i),
)

-- a word means what it holds
itself : {x : ℕ} → Wf width x → Means width x (At x)
itself w = record { wf = w; holds = λ i h. (λ p. p, λ p. p) }

pub implies-means : {x y p : ℕ} {g : Reading} → Wf width x → Wf width y → Means width p g
    → Means width (bit_and (bit_or (inverse x) y) p) (And g (Implies (At x) (At y)))
implies-means {x} {y} w u v = masked (bit_or (inverse x) y) v (at-implies (itself w) (itself u))

pub equiv-means : {x y p : ℕ} {g : Reading} → Wf width x → Wf width y → Means width p g
    → Means width (bit_and (inverse (bit_xor x y)) p) (And g (Equiv (At x) (At y)))
equiv-means {x} {y} w u v = masked (inverse (bit_xor x y)) v (λ i h. iff i (at-inverse (wide (xor_lt width x y (wf-lt w) (wf-lt u))) i h))
  where
    iff : (i : ℕ) → At (inverse (bit_xor x y)) i ↔ Not (At (bit_xor x y)) i → At (inverse (bit_xor x y)) i ↔ Equiv (At x) (At y) i
    iff i e = (λ h. same (e.0 h), λ f. e.1 (λ t. apart f t (at-or-not x i) (at-or-not y i)))
      where
        same : Not (At (bit_xor x y)) i → Equiv (At x) (At y) i
        same h = (λ p. omega (arith, bit-xor x y i, bit-lt y i), λ p. omega (arith, bit-xor x y i, bit-lt x i))

        apart : Equiv (At x) (At y) i → At (bit_xor x y) i → At x i ⊎ (At x i → ⊥) → At y i ⊎ (At y i → ⊥) → ⊥
        apart f t (inl p) q = omega (arith, bit-xor x y i, f.0 p)
        apart f t (inr p) (inl q) = p (f.1 q)
        apart f t (inr p) (inr q) = omega (arith, bit-xor x y i, bit-lt x i, bit-lt y i)

-- ---- the next place

at_next : (x i : ℕ) → At (x / 2 ^ 1) i ↔ At x (i + 1)
at_next x i =
    let e : bit (x / 2 ^ 1) i ≡ bit x (i + 1) = bit-shr x 1 i ∙ ap (bit x) (omega arith) in
    (λ h. sym e ∙ h, λ h. e ∙ h)

pub strong-next-means : {x : ℕ} → Wf width x → Means width (x / 2 ^ 1) (StrongNext width (At x))
strong-next-means {x} w =
    means w.short (λ i h. let p = (at_next x i).0 h in let l = at-below w (i + 1) p in (omega arith, (l, p)))
    (λ i h t. (at_next x i).1 t.1)

pub weak-next-means : {x m p : ℕ} {g : Reading} → Wf width x → Wf width m → Means width p g
    → Means width (bit_and (bit_or (inverse (m / 2 ^ 1)) (x / 2 ^ 1)) p) (And g (Implies (StrongNext width (At m)) (StrongNext width (At x))))
weak-next-means {x} {m} w v k = masked (bit_or (inverse (m / 2 ^ 1)) (x / 2 ^ 1)) k (at-implies (strong-next-means v) (strong-next-means w))

-- ---- the doubling shifts, to 64 places

-- one step of `finally`
abbrev smear : ℕ → ℕ → ℕ
smear d v = bit_or v (v / 2 ^ d)

abbrev pub finally_word : ℕ → ℕ
finally_word x = smear 32 (smear 16 (smear 8 (smear 4 (smear 2 (smear 1 x)))))

ahead : {x : ℕ} → Wf width x → Means width (finally_word x) (Finally width (At x))
ahead {x} w =
    let s₁ = some-double 1 _ (some_first x) in
    let s₂ = some-double 2 _ s₁ in
    let s₃ = some-double 4 _ s₂ in
    let s₄ = some-double 8 _ s₃ in
    let s₅ = some-double 16 _ s₄ in
    let s₆ = some-double 32 _ s₅ in
    means w.short
    (λ i h. let t = (s₆ i).0 h in let l = at-below w t.0 t.3 in (omega arith, (t.0, t.1, l, t.3)))
    (λ i h t. (s₆ i).1 (t.0, t.1, omega arith, t.3))

-- of what is cut to the mask
pub finally-means : {x m : ℕ} → Wf width x → Wf width m → Means width (finally_word (bit_and x m)) (FinallyOn (At m) (At x))
finally-means {x} {m} w v = let p = ahead (and-means w v).wf in record {
  wf = p.wf;
  holds = λ i h. (
    λ t. let s = (p.holds i h).0 t in let b = at-and x m s.0 s.3 in (s.0, s.1, s.2, (b.1, b.0)),
    λ s. (p.holds i h).1 (s.0, s.1, s.2, and_at x m s.0 s.3.1 s.3.0),
  );
}

-- one step of `until` on its two words
abbrev meet : ℕ → ℕ → ℕ
meet d v = bit_and v (v / 2 ^ d)

abbrev reach : ℕ → ℕ → ℕ → ℕ
reach d v w = bit_or w (bit_and v (w / 2 ^ d))

abbrev pub until_word : ℕ → ℕ → ℕ
until_word x y =
    let v₁ = meet 1 x in
    let w₁ = reach 1 x y in
    let v₂ = meet 2 v₁ in
    let w₂ = reach 2 v₁ w₁ in
    let v₃ = meet 4 v₂ in
    let w₃ = reach 4 v₂ w₂ in
    let v₄ = meet 8 v₃ in
    let w₄ = reach 8 v₃ w₃ in
    let v₅ = meet 16 v₄ in
    let w₅ = reach 16 v₄ w₄ in
    reach 32 v₅ w₅

-- the two words of `until` once the distance is d: v has the runs of x that are d long, and w what reaches y within d
pub record Doubled (x y d v w : ℕ) : Type 0 where
  pub run : (i : ℕ) → At v i ↔ All (At x) d i
  pub reached : (i : ℕ) → At w i ↔ Reach (At x) (At y) d i

pub doubled-first : {x y : ℕ} → Doubled x y 1 x y
doubled-first {x} {y} = record { run = all_first x; reached = reach-first y }

pub doubled-next : {x y : ℕ} (d : ℕ) {v w : ℕ} → Doubled x y d v w → Doubled x y (d + d) (meet d v) (reach d v w)
doubled-next d s = record { run = all-double d _ s.run; reached = reach-double d _ _ s.run s.reached }

-- within 64 places all is reached
reached-means : (x y d w : ℕ) → Wf width y → width ≤ d → ((i : ℕ) → At w i ↔ Reach (At x) (At y) d i) → Means width w (Until width (At x) (At y))
reached-means x y d w u l e =
    means u.short
    (λ i h. let t = (e i).0 h in let b = at-below u t.0 t.3 in (omega arith, (t.0, t.1, b, t.3, t.4)))
    (λ i h t. (e i).1 (t.0, t.1, omega arith, t.3, t.4))

pub until-whole : {x y d v w : ℕ} → Wf width y → width ≤ d → Doubled x y d v w → Means width w (Until width (At x) (At y))
until-whole {x} {y} {d} {v} {w} u l s = reached-means x y d w u l s.reached

-- and so it is where no run is left
pub until-stopped : {x y d v w : ℕ} → Wf width y → d ≤ width → v ≡ 0 → Doubled x y d v w → Means width w (Until width (At x) (At y))
until-stopped {x} {y} {d} {v} {w} u l e s = reached-means x y width w u (omega arith) (reach-stop d width v w e s.run s.reached l)

-- of a right word that is cut to the mask
pub until-on : (x y m : ℕ) {r : ℕ} → Means width r (Until width (At x) (At (bit_and y m))) → Means width r (UntilOn (At m) (At x) (At y))
until-on x y m p = record {
  wf = p.wf;
  holds = λ i h. (
    λ t. let s = (p.holds i h).0 t in let b = at-and y m s.0 s.3 in (s.0, s.1, s.2, (b.1, b.0), s.4),
    λ s. (p.holds i h).1 (s.0, s.1, s.2, and_at y m s.0 s.3.1 s.3.0, s.4),
  );
}

pub until-means : {x y m : ℕ} → Wf width x → Wf width y → Wf width m → Means width (until_word x (bit_and y m)) (UntilOn (At m) (At x) (At y))
until-means {x} {y} {m} w u v =
    until-on x y m (until-whole (and-means u v).wf (omega arith)
    (doubled-next 32 (doubled-next 16 (doubled-next 8 (doubled-next 4 (doubled-next 2 (doubled-next 1 doubled-first)))))))

-- ---- the duals: `!F!` and `!(!x U !y)` on the places of a mask

module _ (x m : ℕ) {a : ℕ} (inv : Means width a (NotOn (At m) (At x))) where
  -- a place that the negation leaves out is one where x holds
  left_out : (i : ℕ) → i < width → (At a i → ⊥) → PlacesOn (At m) i → At x i
  left_out i h p q = ⊎_elim (λ t. t) (λ t. absurd (p ((inv.holds i h).1 (q, t)))) (at-or-not x i)

  pub globally-means : {b r : ℕ} → Means width b (FinallyOn (At m) (At a)) → Means width r (NotOn (At m) (At b))
      → Means width r (GloballyOn (At m) (At x))
  globally-means f g = record {
    wf = g.wf;
    holds = λ i h. (
      λ t. let p = (g.holds i h).0 t in (p.0, λ j l k q. left_out j k (λ s. p.1 ((f.holds i h).1 (j, l, k, (q, s)))) (inl q)),
      λ t. (g.holds i h).1 (t.0, λ q. let s = (f.holds i h).0 q in let n = (inv.holds s.0 s.2).0 s.3.1 in n.1 (t.1 s.0 s.1 s.2 s.3.0)),
    );
  }

-- from i on, within the places of a mask, and up to a j at which y fails, x held at some place: or else the negations would run up to j
pub release-means : (x y m : ℕ) {a b u r : ℕ} → Means width a (NotOn (At m) (At x)) → Means width b (NotOn (At m) (At y))
    → Means width u (UntilOn (At m) (At a) (At b)) → Means width r (NotOn (At m) (At u))
    → Means width r (ReleaseOn (At m) (At x) (At y))
release-means x y m {a} {b} {u} {r} na nb f g = record { wf = g.wf; holds = λ i h. (to i h, from i h) }
  where
    to : (i : ℕ) → i < width → At r i → ReleaseOn (At m) (At x) (At y) i
    to i h t =
        let p = (g.holds i h).0 t in
        (p.0, λ j l k. ⊎_elim (λ e. ⊎_elim (λ q. inr (held p.1 j l k q e)) (λ q. inl (λ n. absurd (q n))) (at-or-not m j)) (λ e. inl (λ q. left_out y m nb j k e (inl q))) (at-or-not b j))
      where
        held : (At u i → ⊥) → (j : ℕ) → i ≤ j → j < width → At m j → At b j → (k : ℕ) × (i ≤ k) × (k < j) × Implies (PlacesOn (At m)) (At x) k
        held e j l k o q = ⊎_elim (λ s. (s.0, s.1, omega arith, left_out x m na s.0 (omega arith) s.3))
            (λ s. absurd (e ((f.holds i h).1 (j, l, k, (o, q), λ n c d. ⊎_elim (λ p. p) (λ p. absurd (s n c (omega arith) p)) (at-or-not a n)))))
            (find (Not (At a)) (λ n. ⊎_elim (λ p. inr (λ e. e p)) (λ p. inl p) (at-or-not a n)) (j - i) i)

    from : (i : ℕ) → i < width → ReleaseOn (At m) (At x) (At y) i → At r i
    from i h t = (g.holds i h).1 (
      t.0,
      λ q. let s = (f.holds i h).0 q in let n = (nb.holds s.0 s.2).0 s.3.1 in
          ⊎_elim (λ p. n.1 (p s.3.0)) (λ p. let o = (na.holds p.0 (omega arith)).0 (s.4 p.0 p.1 p.2) in o.1 (p.3 o.0)) (t.1 s.0 s.1 s.2),
    )
