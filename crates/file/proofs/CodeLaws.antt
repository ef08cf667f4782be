-- Codes and settings: what the rule reads is good, its bytes stand there, and a good one is read.
-- Assumes nothing.
use mathlib.Core.Path.{◌≡◌, refl, subst}
use mathlib.Core.Bool.{true}
use mathlib.Core.List.{List, [], ◌∷◌, ◌++◌, flat_map}
use Prim.Native.Nat.{ℕ, ◌+◌, ◌≤◌}
use native.Mathlib.Omega.{arith}
use Rattle.rules.specs.Limits.{most_size}
use Rattle.reading.specs.Reading.{one, section, got, byte, within}
use Rattle.file.specs.Format.{GoodUnary, GoodBinary}
use Rattle.file.specs.Offence.{is_unary, is_binary, Settings, settings}
use Rattle.reading.proofs.Spans.{Spans, both, first, second}
use Rattle.reading.proofs.Lists.{within_low, within-high, within-is}
use Rattle.reading.proofs.Readers.{got-value, got-next, in-turn, byte-sound, byte-complete}
use Rattle.sections.proofs.CodeLaws.{unary-in, unary-at, binary-in, binary-at, New}

-- ---- codes

pub unary_good : (before : List ℕ) (c : ℕ) → New is_unary before c → GoodUnary before c
unary_good before c n = (unary-at c n.0, n.1)

pub good-unary : (before : List ℕ) (c : ℕ) → GoodUnary before c → New is_unary before c
good-unary before c g = (subst (λ (x : ℕ). is_unary x ≡ true) g.0.1 (unary-in g.0.0), g.1)

pub binary-good : (before : List ℕ) (c : ℕ) → New is_binary before c → GoodBinary before c
binary-good before c n = (binary-at c n.0, n.1)

pub good-binary : (before : List ℕ) (c : ℕ) → GoodBinary before c → New is_binary before c
good-binary before c g = (subst (λ (x : ℕ). is_binary x ≡ true) g.0.1 (binary-in g.0.0), g.1)

-- ---- settings

-- good settings: "B .. or the constants mark (0 or 1) wrong" is 2
pub record Set (s : Settings) : Type 0 where
  pub constants : s.constants ≤ 1
  pub some : 1 ≤ s.bound
  pub low : s.bound ≤ most_size

abbrev pub settings_bytes : Settings → List ℕ
settings_bytes s = section one (s.constants ∷ s.bound ∷ [])

module _ (file : List ℕ) where
  pub settings-sound : (at : ℕ) (s : Settings) (next : ℕ) → settings file at ≡ got s next → Set s × Spans file at (settings_bytes s) next
  unfolding settings flat_map
  settings-sound at s next e =
      let t = in-turn (byte (within 2 2) file at) _ e in
      let k = byte-sound (within 2 2) file at t.2 in
      let u = in-turn (byte (within 0 1) file t.1) _ t.3 in
      let c = byte-sound (within 0 1) file t.1 u.2 in
      let v = in-turn (byte (within 1 most_size) file u.1) _ u.3 in
      let b = byte-sound (within 1 most_size) file u.1 v.2 in
      let two : t.0 ≡ 2 = omega (arith, within_low 2 2 t.0 k.0, within-high 2 2 t.0 k.0) in
      let is : record { constants = u.0; bound = v.0 } ≡ s = got-value v.3 in
      let n : v.1 ≡ next = got-next v.3 in
      let good : Set (record { constants = u.0; bound = v.0 }) =
      record { constants = within-high 0 1 u.0 c.0; some = within_low 1 most_size v.0 b.0; low = within-high 1 most_size v.0 b.0 } in
      let count = subst (λ (x : ℕ). Spans file at (one x) t.1) two k.1 in
      let spans = both file (one 2) (one u.0 ++ one v.0) count (both file (one u.0) (one v.0) c.1 b.1) in
      (subst Set is good, subst (λ (x : Settings). Spans file at (settings_bytes x) next) is (subst (λ (x : ℕ). Spans file at (settings_bytes (record { constants = u.0; bound = v.0 })) x) n spans))

  pub settings-complete : (at : ℕ) (s : Settings) (next : ℕ) → Set s → Spans file at (settings_bytes s) next → settings file at ≡ got s next
  unfolding settings flat_map
  settings-complete at s next g r =
      let a = second file (one 2) (one s.constants ++ one s.bound) r in
      let b = second file (one s.constants) (one s.bound) a in
      rw (
        byte-complete (within 2 2) file at 2 refl (first file (one 2) (one s.constants ++ one s.bound) r),
        byte-complete (within 0 1) file (at + 1) s.constants (within-is 0 1 s.constants (omega arith) g.constants) (first file (one s.constants) (one s.bound) a),
        byte-complete (within 1 most_size) file (at + 1 + 1) s.bound (within-is 1 most_size s.bound g.some g.low) b,
      )
