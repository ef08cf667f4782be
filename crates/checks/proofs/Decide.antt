-- The refusals in their order: the session's number for its data, with the search's own rows among them.
-- Assumes nothing.
use mathlib.Core.Path.{◌≡◌, refl, sym, ap, subst}
use mathlib.Core.Logic.{◌⊎◌, inl, inr, ⊎_elim}
use mathlib.Core.Bool.{true, false}
use mathlib.Core.List.{List, [], ◌∷◌, ◌++◌}
use Prim.Native.Nat.{ℕ, ◌*◌, ◌≤◌, ◌<◌}
use native.Mathlib.Omega.{arith}
use native.Mathlib.Decide.{dec_le}
use lib.ListN.{length}
use Rattle.rules.specs.Limits.{most_sessions, most_propositions}
use Rattle.std.specs.Prelude.{Result, Ok, Err}
use Rattle.rules.specs.declared.refusal.Refusal.{Refusal}
use Rattle.rules.specs.declared.refusal.Refusal.TheVariants.{Numbers}
use Rattle.rules.specs.Refusals.{Row, Decided, number_of}
use Rattle.rules.proofs.Refusals.{decided-early, refusal-one}
use Rattle.session.specs.Data.{outside_numbers, too_short, too_long, bit_above, mark_wrong, data_rows}
use Rattle.session.specs.Recording.{Recording}
use Rattle.walk.specs.Input.{Input}
use Rattle.table.specs.Slices.{Cols}
use Rattle.checks.specs.Refusals.{setting_wrong, no_room, code_wrong, search_rows}
use Rattle.settings.specs.Settings.{GoodCodes, BadCodes, SettingsTold}
use Rattle.settings.proofs.Unique.{settings-right}
use Rattle.checks.specs.Inner.{RoomTold}

pub le_of_not_lt : {a b : ℕ} → (b < a → ⊥) → a ≤ b
le_of_not_lt {a} {b} f = elim (dec_le a b) [
  | yes h ↦ h
  | no h ↦ absurd (f (omega arith))
]

-- ---- lists of rows

-- none of the rows is given
abbrev pub NoneOf : List Row → Type 0
NoneOf [] = Unit {0}
NoneOf (row ∷ rows) = (row.given → ⊥) × NoneOf rows

abbrev Numbered : List Row → Type 0
Numbered [] = Unit {0}
Numbered (row ∷ rows) = (0 ≡ row.number → ⊥) × Numbered rows

none_of : (rows : List Row) → Numbered rows → Decided rows 0 → NoneOf rows
unfolding Decided
none_of [] h d = tt
none_of (row ∷ rows) h (inl d) = absurd (h.0 d.1)
none_of (row ∷ rows) h (inr d) = (d.0, none_of rows h.1 d.1)

behind : (rows others : List Row) (n : ℕ) → NoneOf rows → Decided others n → Decided (rows ++ others) n
unfolding Decided
behind [] others n h d = d
behind (row ∷ rows) others n h d = inr (h.0, behind rows others n h.1 d)

first : (row : Row) (rows : List Row) → row.given → Decided (row ∷ rows) row.number
unfolding Decided
first row rows g = inl (g, refl)

past : (row : Row) (rows : List Row) (n : ℕ) → (row.given → ⊥) → Decided rows n → Decided (row ∷ rows) n
unfolding Decided
past row rows n f d = inr (f, d)

zero-none : Decided [] 0
unfolding Decided
zero-none = refl

-- whether the data's slices are too short
short_or_not : (rec : Recording) → (too_short rec).given ⊎ ((too_short rec).given → ⊥)
short_or_not rec = elim (dec_le rec.sessions (length rec.marks)) [
  | no m ↦ inl (inl (omega arith))
  | yes m ↦ (elim (dec_le rec.sessions (length rec.lengths)) [
    | no l ↦ inl (inr (inl (omega arith)))
    | yes l ↦ (elim (dec_le (rec.propositions * rec.sessions) (length rec.words)) [
      | no w ↦ inl (inr (inr (omega arith)))
      | yes w ↦ inr (⊎_elim (λ x. omega arith) (⊎_elim (λ x. omega arith) (λ x. omega arith)))
    ])
  ])
]

-- ---- the tests' answers as rows

module _ (i : Input) where
  pub settings-fine : SettingsTold i.bound i.room i.constants true → (setting_wrong i).given → ⊥
  settings-fine w = settings-right _ _ _ w

  pub room-fine : (t : Cols) → RoomTold i.recording.sessions i.room t true → (no_room i t).given → ⊥
  room-fine t w = ⊎_elim (λ x. omega (arith, w.0)) (λ x. ⊎_elim (λ y. omega (arith, w.1)) (λ y. ⊎_elim (λ z. omega (arith, w.2))
      (λ z. ⊎_elim (λ u. omega (arith, w.3)) (λ u. omega (arith, w.4)) z) y) x)

  codes-bad : BadCodes true i.unary ⊎ BadCodes false i.binary → (code_wrong i).given
  codes-bad (inl (inl (o, h, f))) = inl (o, h, λ op e. f (op, e))
  codes-bad (inl (inr w)) = inr (inl w)
  codes-bad (inr (inl (o, h, f))) = inr (inr (inl (o, h, λ op e. f (op, e))))
  codes-bad (inr (inr w)) = inr (inr (inr w))

  pub codes-fine : GoodCodes true i.unary → GoodCodes false i.binary → (code_wrong i).given → ⊥
  codes-fine u b = ⊎_elim (λ w. let g = u.in_group w.0 w.1 in w.2 g.0 g.1)
      (λ x. ⊎_elim (λ w. u.once w.0 w.1 w.2 w.3 w.4)
      (λ y. ⊎_elim (λ w. let g = b.in_group w.0 w.1 in w.2 g.0 g.1) (λ w. b.once w.0 w.1 w.2 w.3 w.4) y) x)

-- ---- the first row of the data, by the number that they decide

module _ (rec : Recording) where
  pub one-outside : Decided (data_rows rec) 1 → (outside_numbers rec.sessions rec.propositions).given
  unfolding Decided
  one-outside (inl d) = d.0
  one-outside (inr (f, inl d)) = absurd (omega (arith, d.1))
  one-outside (inr (f, inr (g, inl d))) = absurd (omega (arith, d.1))
  one-outside (inr (f, inr (g, inr (h, inl d)))) = absurd (omega (arith, d.1))
  one-outside (inr (f, inr (g, inr (h, inr (l, inl d))))) = absurd (omega (arith, d.1))
  one-outside (inr (f, inr (g, inr (h, inr (l, inr (o, e)))))) = absurd (omega arith)

  pub inside-by : {k : ℕ} → Decided (data_rows rec) k → (k ≡ 1 → ⊥) → (outside_numbers rec.sessions rec.propositions).given → ⊥
  unfolding Decided
  inside-by d n g = ⊎_elim (λ t. n t.1) (λ t. t.0 g) d

-- the number 1 is that of one refusal alone
pub numbers-alone : (answer : Result (Unit {0}) Refusal) → number_of answer ≡ 1 → answer ≡ Err Numbers
numbers-alone (Ok a) e = absurd (omega arith)
numbers-alone (Err refusal) e = ap Err (refusal-one refusal Numbers e)

-- ---- the search's rows

module _ (i : Input) (t : Cols) where
  abbrev numbers : Row
  numbers = outside_numbers i.recording.sessions i.recording.propositions

  abbrev short : Row
  short = too_short i.recording

  abbrev rest : List Row
  rest = too_long i.recording ∷ bit_above i.recording ∷ mark_wrong i.recording ∷ []

  pub is_one : numbers.given → Decided (search_rows i t) 1
  is_one g = first numbers _ g

  module _ (inside : numbers.given → ⊥) where
    pub is-two : SettingsTold i.bound i.room i.constants false → Decided (search_rows i t) 2
    is-two g = past numbers _ 2 inside (first (setting_wrong i) _ g)

    module _ (good : SettingsTold i.bound i.room i.constants true) where
      past_two : (n : ℕ) → Decided (short ∷ no_room i t ∷ (rest ++ (code_wrong i ∷ []))) n → Decided (search_rows i t) n
      past_two n e = past numbers _ n inside (past (setting_wrong i) _ n (settings-fine i good) e)

      -- short data are refused with the same number
      pub no-room : RoomTold i.recording.sessions i.room t false → Decided (search_rows i t) 3
      no-room g = past_two 3 (elim (short_or_not i.recording) [ inl s ↦ first short _ s | inr f ↦ past short _ 3 f (first (no_room i t) _ g) ])

      module _ (room : RoomTold i.recording.sessions i.room t true) where
        rows-from : (n : ℕ) → (short.given × (n ≡ 3)) ⊎ ((short.given → ⊥) × Decided (rest ++ (code_wrong i ∷ [])) n) → Decided (search_rows i t) n
        rows-from n (inl (s, e)) = subst (Decided (search_rows i t)) (sym e) (past_two 3 (first short _ s))
        rows-from n (inr (f, d)) = past_two n (past short _ n f (past (no_room i t) _ n (room-fine i t room) d))

        pub is-data : (n : ℕ) → Decided (data_rows i.recording) n → 0 < n → Decided (search_rows i t) n
        unfolding Decided
        is-data n (inl d) z = absurd (inside d.0)
        is-data n (inr (f, inl d)) z = rows-from n (inl d)
        is-data n (inr (f, inr d)) z = rows-from n (inr (d.0, decided-early rest (code_wrong i ∷ []) n d.1 (λ e. omega arith)))

        module _ (fine : Decided (data_rows i.recording) 0) where
          data-none : NoneOf (short ∷ rest)
          data-none = (none_of (data_rows i.recording) (λ q. omega arith, (λ q. omega arith, (λ q. omega arith, (λ q. omega arith, (λ q. omega arith, tt))))) fine).1

          pub is-seven : BadCodes true i.unary ⊎ BadCodes false i.binary → Decided (search_rows i t) 7
          is-seven w = rows-from 7 (inr (data-none.0, behind rest (code_wrong i ∷ []) 7 data-none.1 (first (code_wrong i) _ (codes-bad i w))))

          pub is_zero : GoodCodes true i.unary → GoodCodes false i.binary → Decided (search_rows i t) 0
          is_zero u b = rows-from 0 (inr (data-none.0, behind rest (code_wrong i ∷ []) 0 data-none.1 (past (code_wrong i) [] 0 (codes-fine i u b) zero-none)))

-- where the numbers are in range
pub numbers-in : (r m : ℕ) → ((outside_numbers r m).given → ⊥) → (1 ≤ r) × (r ≤ most_sessions) × (1 ≤ m) × (m ≤ most_propositions)
numbers-in r m f = (
  le_of_not_lt λ h. f (inl (inl h)),
  le_of_not_lt λ h. f (inl (inr h)),
  le_of_not_lt λ h. f (inr (inl h)),
  le_of_not_lt λ h. f (inr (inr h)),
)

-- where the whole list decides 0, no row is given
pub none-given : (i : Input) (t : Cols) → Decided (search_rows i t) 0 → NoneOf (search_rows i t)
none-given i t d =
    none_of (search_rows i t)
    (λ q. omega arith, (λ q. omega arith, (λ q. omega arith, (λ q. omega arith, (λ q. omega arith, (λ q. omega arith, (λ q. omega arith, (λ q. omega arith, tt)))))))) d
