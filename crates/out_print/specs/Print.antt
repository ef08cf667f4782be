-- scarfpylon_print: what it returns and leaves in the lent room and in `out`, for every input.
-- Assumes nothing.
use Rattle.std.specs.Prelude.{◌≡◌, List, [], ◌∷◌, ℕ, length, Result}
use Rattle.rules.specs.Refusals.{Decided}
use Rattle.reading.specs.Reading.{Got, got, bad}
use Rattle.names.specs.Names.{whole_names}
use Rattle.formula.specs.Nodes.{Node}
use Rattle.text.specs.declared.PrintError.{PrintError}
use Rattle.formula.specs.Rule.{broken_list}
use Rattle.text.specs.Print.{said_printed, short_text_room, Prints}
use Rattle.out.specs.Out.{out_short, broken_at, written, said_words}

-- "Print tests 8, 9, then 3"; which of the rows with one number is given first can't be seen
abbrev pub PrintNumber : Got (List (List ℕ)) → List Node → Node → List ℕ → List ℕ → ℕ → Type 0
PrintNumber (bad o) k root room old returned = returned ≡ broken_at o
PrintNumber (got names next) k root room old returned = Decided (broken_list (length names) k root ∷ out_short old ∷ short_text_room names k root room ∷ []) returned

-- "a refusal writes nothing"; else "out[0] = bytes written", and the room holds what print writes
pub record PrintDone (names : List ℕ) (k : List Node) (root : Node) (room old : List ℕ) (returned : ℕ) (room' new : List ℕ) : Type 0 where
  pub number : PrintNumber (whole_names names) k root room old returned
  pub refused : (returned ≡ 0 → ⊥) → (room' ≡ room) × (new ≡ old)
  pub passed : returned ≡ 0 → (p : Result ℕ PrintError) × Prints names k root room (said_printed p) room' × (new ≡ written (said_words (said_printed p)) old)
