-- How a caller with rows of its own puts them between the rows of session data, by the number that `test` answered: search has its 2 after the 1,
-- its own rooms in the 3, and its 7 at the end.
-- Assumes nothing.
use mathlib.Core.Path.{◌≡◌, refl}
use mathlib.Core.Logic.{◌⊎◌, inl, inr, ⊎_elim}
use mathlib.Core.List.{List, [], ◌∷◌}
use Prim.Native.Nat.{ℕ}
use native.Mathlib.Omega.{arith}
use Rattle.rules.specs.Refusals.{Row, Decided}
use Rattle.session.specs.Data.{outside_numbers, too_short, too_long, bit_above, mark_wrong, data_rows}
use Rattle.session.specs.Recording.{recording}

module _ (r m : ℕ) (marks lengths words : List ℕ) (second rooms seventh : Type 0) where
  -- the rows of the caller: `second` is when it gives 2, `rooms` when its own rooms are too short, `seventh` when it gives 7
  abbrev pub caller_rows : List Row
  caller_rows =
      outside_numbers r m
      ∷ record { number = 2; given = second }
      ∷ record { number = 3; given = (too_short (recording r m marks lengths words)).given ⊎ rooms }
      ∷ too_long (recording r m marks lengths words)
      ∷ bit_above (recording r m marks lengths words)
      ∷ mark_wrong (recording r m marks lengths words)
      ∷ record { number = 7; given = seventh }
      ∷ []

  abbrev Data : ℕ → Type 0
  Data k = Decided (data_rows (recording r m marks lengths words)) k

  abbrev Caller : ℕ → Type 0
  Caller k = Decided caller_rows k

  -- 1 comes before all of them
  pub first-1 : Data 1 → Caller 1
  unfolding Decided
  first-1 (inl t) = inl t
  first-1 (inr (n1, inl t)) = absurd (omega (arith, t.1))
  first-1 (inr (n1, inr (n3, inl t))) = absurd (omega (arith, t.1))
  first-1 (inr (n1, inr (n3, inr (n4, inl t)))) = absurd (omega (arith, t.1))
  first-1 (inr (n1, inr (n3, inr (n4, inr (n5, inl t))))) = absurd (omega (arith, t.1))
  first-1 (inr (n1, inr (n3, inr (n4, inr (n5, inr (n6, e)))))) = absurd (omega arith)

  module _ {k : ℕ} (d : Data k) (n : k ≡ 1 → ⊥) where
    numbered : (outside_numbers r m).given → ⊥
    unfolding Decided
    numbered h = ⊎_elim (λ t. n t.1) (λ t. t.0 h) d

    -- then the caller's 2
    pub then-2 : second → Caller 2
    unfolding Decided
    then-2 h = inr (numbered, inl (h, refl))

    module _ (n2 : second → ⊥) where
      -- then its own rooms, which are 3 before any other number
      pub then-3 : rooms → Caller 3
      unfolding Decided
      then-3 h = inr (numbered, inr (n2, inl (inr h, refl)))

      module _ (nr : rooms → ⊥) where
        -- then the number
        pub then-it : (k ≡ 0 → ⊥) → Caller k
        unfolding Decided
        then-it z = inr (numbered, inr (n2, go d))
          where
            go : Data k → Decided (record { number = 3; given = (too_short (recording r m marks lengths words)).given ⊎ rooms } ∷ too_long (recording r m marks lengths words) ∷
                bit_above (recording r m marks lengths words) ∷ mark_wrong (recording r m marks lengths words) ∷ record { number = 7; given = seventh } ∷ []) k
            go (inl t) = absurd (n t.1)
            go (inr (n1, inl t)) = inl (inl t.0, t.1)
            go (inr (n1, inr (n3, inl t))) = inr (⊎_elim n3 nr, inl t)
            go (inr (n1, inr (n3, inr (n4, inl t)))) = inr (⊎_elim n3 nr, inr (n4, inl t))
            go (inr (n1, inr (n3, inr (n4, inr (n5, inl t))))) = inr (⊎_elim n3 nr, inr (n4, inr (n5, inl t)))
            go (inr (n1, inr (n3, inr (n4, inr (n5, inr (n6, e)))))) = absurd (z e)

  module _ (d : Data 0) (n2 : second → ⊥) (nr : rooms → ⊥) where
    last : (k : ℕ) → Decided (record { number = 7; given = seventh } ∷ []) k → Caller k
    unfolding Decided
    last k x = go d
      where
        go : Data 0 → Caller k
        go (inl t) = absurd (omega (arith, t.1))
        go (inr (n1, inl t)) = absurd (omega (arith, t.1))
        go (inr (n1, inr (n3, inl t))) = absurd (omega (arith, t.1))
        go (inr (n1, inr (n3, inr (n4, inl t)))) = absurd (omega (arith, t.1))
        go (inr (n1, inr (n3, inr (n4, inr (n5, inl t))))) = absurd (omega (arith, t.1))
        go (inr (n1, inr (n3, inr (n4, inr (n5, inr (n6, e)))))) = inr (n1, inr (n2, inr (⊎_elim n3 nr, inr (n4, inr (n5, inr (n6, x))))))

    -- and last its 7
    pub last-7 : seventh → Caller 7
    unfolding Decided
    last-7 h = last 7 (inl (h, refl))

    pub last-0 : (seventh → ⊥) → Caller 0
    unfolding Decided
    last-0 h = last 0 (inr (h, refl))
