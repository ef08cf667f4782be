-- When a search refuses: the rows of document 01's table, in the order of its checks.
-- Assumes nothing.
use Rattle.std.specs.Prelude.{◌⊎◌, List, [], ◌∷◌, ◌++◌, ℕ, ◌*◌, ◌<◌, length, get_or}
use Rattle.rules.specs.Limits.{most_size, most_room, Outside}
use Rattle.rules.specs.Refusals.{Row}
use Rattle.sequence.specs.Sequence.{not_unary, not_binary}
use Rattle.session.specs.Data.{outside_numbers, too_short, too_long, bit_above, mark_wrong}
use Rattle.settings.specs.Settings.{Repeated}
use Rattle.walk.specs.Input.{Input}
use Rattle.table.specs.Slices.{Cols}

module _ (i : Input) where
  -- "2: B, C or the constants mark (0 or 1) wrong"
  abbrev pub setting_wrong : Row
  setting_wrong = record { number = 2; given = Outside 1 most_size i.bound ⊎ Outside 1 most_room i.room ⊎ (1 < i.constants) }

  -- "3: a lent slice shorter than .. C x r, C"
  abbrev pub no_room : Cols → Row
  no_room t = record {
    number = 3;
    given = (length t.codes < i.room)
        ⊎ (length t.lefts < i.room)
        ⊎ (length t.rights < i.room)
        ⊎ (length t.sizes < i.room)
        ⊎ (length t.matrices < i.room * i.recording.sessions);
  }

  -- "7: code not in its group (unary 0-4, binary 5-10), or repeated"
  abbrev pub code_wrong : Row
  code_wrong = record {
    number = 7;
    given = ((o : ℕ) × (o < length i.unary) × (not_unary (get_or i.unary o 0)).given)
        ⊎ Repeated i.unary
        ⊎ ((o : ℕ) × (o < length i.binary) × (not_binary (get_or i.binary o 0)).given)
        ⊎ Repeated i.binary;
  }

  -- "Order of checks: 1, 2, 3, 4, 5, 6, 7": those of the data are the session's. A caller that is lent a slice more has a row of number 3 of its
  -- own, which stands with the others of that number; which of them is given first can't be seen
  abbrev pub search_rows_with : List Row → Cols → List Row
  search_rows_with own t =
      outside_numbers i.recording.sessions i.recording.propositions
      ∷ setting_wrong
      ∷ (own
      ++ (too_short i.recording
      ∷ no_room t
      ∷ too_long i.recording
      ∷ bit_above i.recording
      ∷ mark_wrong i.recording
      ∷ code_wrong
      ∷ []))

  abbrev pub search_rows : Cols → List Row
  search_rows t = search_rows_with [] t
