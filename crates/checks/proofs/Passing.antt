-- Input that passes the checks: no row is given of it, and the rows look at nothing beyond what is read.
-- Assumes nothing.
use mathlib.Core.Path.{◌≡◌, refl, sym, ap, ◌∙◌, subst}
use mathlib.Core.Logic.{◌⊎◌, inl, inr, ⊎_elim}
use mathlib.Core.Bool.{true, false}
use mathlib.Core.List.Memᴰ
use mathlib.Core.List.{List, [], ◌∷◌}
use Prim.Native.Nat.{ℕ, zero, suc, ◌+◌, ◌*◌, ◌≤◌, ◌<◌}
use native.Mathlib.Omega.{arith}
use lib.ListN.{length, get_or}
use Rattle.words.specs.Word.{width, At}
use Rattle.words.proofs.At.{not_at}
use Rattle.rules.specs.Limits.{most_sessions, most_propositions}
use Rattle.sequence.specs.Operators.{Unary, Binary, unary_code, binary_code}
use Rattle.rules.specs.Refusals.{Row, Decided}
use Rattle.session.specs.Data.{outside_numbers, too_short, too_long, bit_above, mark_wrong}
use Rattle.rules.specs.Lists.{◌∈◌}
use Rattle.session.specs.Recording.{length_of, mark_of, word_of}
use Rattle.walk.specs.Input.{Input, Passes, Once}
use Rattle.walk.specs.Promises.{AgreeWhereRead}
use Rattle.walk.proofs.Same.{inside}
use Rattle.table.specs.Slices.{Cols}
use Rattle.checks.specs.Refusals.{setting_wrong, no_room, code_wrong, search_rows}
use Rattle.checks.specs.Promises.{RoomThere, PassesWhole, DataThere, DecidedSame}
use Rattle.settings.specs.Settings.{GoodCodes}
use Rattle.checks.proofs.Codes.{unary-or, binary-or, at_position, good-once}
use Rattle.checks.proofs.Decide.{NoneOf, none-given, numbers-in, le_of_not_lt, settings-fine, room-fine, codes-fine}

-- ---- no row is given

decided-zero : (rows : List Row) → NoneOf rows → Decided rows 0
unfolding Decided
decided-zero [] h = refl
decided-zero (row ∷ rows) h = inr (h.0, decided-zero rows h.1)

pub at_in : (l : List ℕ) (p : ℕ) → p < length l → get_or l p 0 ∈ l
at_in [] p h = absurd (omega arith)
at_in (x ∷ l) zero h = Memᴰ.head refl
at_in (x ∷ l) (suc p) h = Memᴰ.tail (at_in l p (omega arith))

pub once-at : (l : List ℕ) → Once l → (p q : ℕ) → p < q → q < length l → get_or l p 0 ≡ get_or l q 0 → ⊥
once-at [] w p q h l e = omega arith
once-at (x ∷ l) w p zero h m e = omega arith
once-at (x ∷ l) w zero (suc q) h m e = w.0 (subst (λ (y : ℕ). y ∈ l) (sym e) (at_in l q (omega arith)))
once-at (x ∷ l) w (suc p) (suc q) h m e = once-at l w.1 p q (omega arith) (omega arith) e

module _ (i : Input) (t : Cols) where
  pub not-refused : Passes i → RoomThere i t → Decided (search_rows i t) 0
  not-refused ok room = decided-zero (search_rows i t) (
    ⊎_elim
        (⊎_elim (λ h. omega (arith, ok.sessions-in.0)) (λ h. omega (arith, ok.sessions-in.1)))
        (⊎_elim (λ h. omega (arith, ok.propositions-in.0)) (λ h. omega (arith, ok.propositions-in.1))),
    (
      settings-fine i (ok.bound-in.0, ok.bound-in.1, ok.room_in.0, ok.room_in.1, ⊎_elim (λ e. omega arith) (λ e. omega arith) ok.constants-in),
      (
        ⊎_elim (λ h. omega (arith, ok.marks-there)) (⊎_elim (λ h. omega (arith, ok.lengths-there)) (λ h. omega (arith, ok.words-there))),
        (
          room-fine i t (room.codes, room.lefts, room.rights, room.sizes, room.matrices),
          (
            λ (j, h, l). omega (arith, ok.short j h),
            (
              λ (j, h, p, l, b, m, w). omega (arith, (ok.well-formed j p h l).clear b m),
              (λ (j, h, l). ⊎_elim (λ e. omega arith) (λ e. omega arith) (ok.marks-in j h), (codes-fine i unary binary, tt)),
            ),
          ),
        ),
      ),
    ),
  )
    where
      unary : GoodCodes true i.unary
      unary = record { in_group = λ o h. ok.unary-in _ (at_in i.unary o h); once = once-at i.unary ok.unary-once }

      binary : GoodCodes false i.binary
      binary = record { in_group = λ o h. ok.binary-in _ (at_in i.binary o h); once = once-at i.binary ok.binary-once }

  pub room-there : Decided (search_rows i t) 0 → RoomThere i t
  room-there d = record {
    codes = le_of_not_lt λ h. none.1.1.1.0 (inl h);
    lefts = le_of_not_lt λ h. none.1.1.1.0 (inr (inl h));
    rights = le_of_not_lt λ h. none.1.1.1.0 (inr (inr (inl h)));
    sizes = le_of_not_lt λ h. none.1.1.1.0 (inr (inr (inr (inl h))));
    matrices = le_of_not_lt λ h. none.1.1.1.0 (inr (inr (inr (inr h))));
  }
    where
      none : NoneOf (search_rows i t)
      none = none-given i t d

-- ---- the input passes

bit-or : (n : ℕ) → n ≤ 1 → (n ≡ 0) ⊎ (n ≡ 1)
bit-or zero h = inl refl
bit-or (suc zero) h = inr refl
bit-or (suc (suc n)) h = absurd (omega arith)

module _ (i : Input) (t : Cols) (d : Decided (search_rows i t) 0) where
  given : NoneOf (search_rows i t)
  given = none-given i t d

  numbers : (1 ≤ i.recording.sessions) × (i.recording.sessions ≤ most_sessions) × (1 ≤ i.recording.propositions) × (i.recording.propositions ≤ most_propositions)
  numbers = numbers-in i.recording.sessions i.recording.propositions given.0

  unary-op : (o : ℕ) → o < length i.unary → (op : Unary) × (unary_code op ≡ get_or i.unary o 0)
  unary-op o h = ⊎_elim (λ w. w) (λ f. absurd (given.1.1.1.1.1.1.1.0 (inl (o, h, f)))) (unary-or (get_or i.unary o 0))

  binary-op : (o : ℕ) → o < length i.binary → (op : Binary) × (binary_code op ≡ get_or i.binary o 0)
  binary-op o h = ⊎_elim (λ w. w) (λ f. absurd (given.1.1.1.1.1.1.1.0 (inr (inr (inl (o, h, f)))))) (binary-or (get_or i.binary o 0))

  unary_good : GoodCodes true i.unary
  unary_good = record { in_group = unary-op; once = λ p q h l e. given.1.1.1.1.1.1.1.0 (inr (inl (p, q, h, l, e))) }

  binary-good : GoodCodes false i.binary
  binary-good = record { in_group = binary-op; once = λ p q h l e. given.1.1.1.1.1.1.1.0 (inr (inr (inr (p, q, h, l, e)))) }

  short : (j : ℕ) → j < i.recording.sessions → length_of i.recording j ≤ width
  short j h = le_of_not_lt λ l. given.1.1.1.1.0 (j, h, l)

  -- where none is, the input passes the walk's checks
  pub search-passes : Passes i
  search-passes = record {
    sessions-in = (numbers.0, numbers.1);
    propositions-in = (numbers.2, numbers.3);
    bound-in = (le_of_not_lt λ h. given.1.0 (inl (inl h)), le_of_not_lt λ h. given.1.0 (inl (inr h)));
    room_in = (le_of_not_lt λ h. given.1.0 (inr (inl (inl h))), le_of_not_lt λ h. given.1.0 (inr (inl (inr h))));
    constants-in = bit-or i.constants (le_of_not_lt λ h. given.1.0 (inr (inr h)));
    marks-there = le_of_not_lt λ h. given.1.1.0 (inl h);
    lengths-there = le_of_not_lt λ h. given.1.1.0 (inr (inl h));
    words-there = le_of_not_lt λ h. given.1.1.0 (inr (inr h));
    well-formed = λ j p h l. record {
      short = short j h;
      clear = λ b m. not_at (word_of i.recording j p) b (λ w. given.1.1.1.1.1.0 (j, h, p, l, b, m, w));
    };
    short = short;
    marks-in = λ j h. bit-or (mark_of i.recording j) (le_of_not_lt λ l. given.1.1.1.1.1.1.0 (j, h, l));
    unary-in = λ c m. let (o, h, e) = at_position i.unary c 0 m in let (op, q) = unary-op o h in (op, q ∙ e);
    unary-once = good-once i.unary unary_good.once;
    binary-in = λ c m. let (o, h, e) = at_position i.binary c 0 m in let (op, q) = binary-op o h in (op, q ∙ e);
    binary-once = good-once i.binary binary-good.once;
  }

pub passes-whole : PassesWhole
passes-whole i t = (λ d. (search-passes i t d, room-there i t d), λ w. not-refused i t w.0 w.1)

-- ---- what is beyond is not looked at

-- the rows of two lists are given alike
abbrev Alike : List Row → List Row → Type 0
Alike [] [] = Unit {0}
Alike [] (y ∷ ys) = ⊥
Alike (x ∷ xs) [] = ⊥
Alike (x ∷ xs) (y ∷ ys) = (x.number ≡ y.number) × (x.given → y.given) × (y.given → x.given) × Alike xs ys

decided-alike : (xs ys : List Row) (n : ℕ) → Alike xs ys → Decided xs n → Decided ys n
unfolding Decided
decided-alike [] [] n w d = d
decided-alike [] (y ∷ ys) n w d = absurd w
decided-alike (x ∷ xs) [] n w d = absurd w
decided-alike (x ∷ xs) (y ∷ ys) n w (inl d) = inl (w.1 d.0, d.1 ∙ w.0)
decided-alike (x ∷ xs) (y ∷ ys) n w (inr d) = inr (λ g. d.0 (w.2 g), decided-alike xs ys n w.3 d.1)

-- each row's facts, from one input to the other
module _ (i j : Input) (s : AgreeWhereRead i j) (t : Cols) where
  numbers-too : (outside_numbers i.recording.sessions i.recording.propositions).given → (outside_numbers j.recording.sessions j.recording.propositions).given
  numbers-too g = rw (s.sessions, s.propositions) at g

  settings-too : (setting_wrong i).given → (setting_wrong j).given
  settings-too g = rw (s.bound, s.room, s.constants) at g

  room-too : (no_room i t).given → (no_room j t).given
  room-too g = rw (s.room, s.sessions) at g

  long-too : (too_long i.recording).given
      → (too_long j.recording).given
  long-too (p, h, l) = (p, omega (arith, s.sessions), omega (arith, s.lengths p h))

  bits-too : (bit_above i.recording).given
      → (bit_above j.recording).given
  bits-too (q, h, p, l, b, m, w) = (
    q,
    omega (arith, s.sessions),
    p,
    omega (arith, s.propositions),
    b,
    omega (arith, s.lengths q h),
    subst (λ (x : ℕ). At x b)
        (s.words (q * i.recording.propositions + p) (inside i.recording.propositions i.recording.sessions q p h l)
        ∙ ap (λ (x : ℕ). get_or j.recording.words (q * x + p) 0) s.propositions) w,
  )

  marks-too : (mark_wrong i.recording).given
      → (mark_wrong j.recording).given
  marks-too (p, h, l) = (p, omega (arith, s.sessions), omega (arith, s.marks p h))

  codes-too : (code_wrong i).given → (code_wrong j).given
  codes-too g = rw (s.unary, s.binary) at g

agree-sym : (i j : Input) → AgreeWhereRead i j → AgreeWhereRead j i
agree-sym i j s = record {
  sessions = sym s.sessions;
  propositions = sym s.propositions;
  bound = sym s.bound;
  room = sym s.room;
  constants = sym s.constants;
  unary = sym s.unary;
  binary = sym s.binary;
  marks = λ p h. sym (s.marks p (omega (arith, s.sessions)));
  lengths = λ p h. sym (s.lengths p (omega (arith, s.sessions)));
  words = λ p h. sym (s.words p (rw (s.sessions, s.propositions) h));
}

long-enough : (i : Input) → DataThere i → (too_short i.recording).given → ⊥
long-enough i d = ⊎_elim (λ h. omega (arith, d.marks)) (⊎_elim (λ h. omega (arith, d.lengths)) (λ h. omega (arith, d.words)))

pub decided-same : DecidedSame
decided-same i j s x y t n d =
    let z = agree-sym i j s in
    decided-alike (search_rows i t) (search_rows j t) n (
      refl,
      numbers-too i j s t,
      numbers-too j i z t,
      (
        refl,
        settings-too i j s t,
        settings-too j i z t,
        (
          refl,
          λ g. absurd (long-enough i x g),
          λ g. absurd (long-enough j y g),
          (
            refl,
            room-too i j s t,
            room-too j i z t,
            (
              refl,
              long-too i j s t,
              long-too j i z t,
              (
                refl,
                bits-too i j s t,
                bits-too j i z t,
                (refl, marks-too i j s t, marks-too j i z t, (refl, codes-too i j s t, codes-too j i z t, tt)),
              ),
            ),
          ),
        ),
      ),
    ) d
