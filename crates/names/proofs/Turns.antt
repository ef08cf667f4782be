-- The loop over names, which remembers those before. What the code looks at are the section's own bytes.
-- Assumes nothing.
use mathlib.Core.Path.{◌≡◌, refl, sym, ap, ◌∙◌}
use mathlib.Core.List.{List, [], ◌∷◌, ◌++◌}
use Prim.Native.Nat.{ℕ, ◌+◌, ◌≤◌, ◌<◌}
use native.Mathlib.Numerals.{add-one}
use lib.ListN.{length, get_or, take, drop}
use Rattle.std.proofs.Common.{Result, Ok, Err}
use Rattle.reading.specs.declared.Read.{Read}
use Rattle.reading.specs.declared.Broken.{Broken}
use Rattle.reading.specs.Reading.{each_item, step_of}
use Rattle.names.specs.Names.{name, name_bytes}
use Rattle.names.specs.Lookup.{names_from, walk_end}
use Rattle.reading.proofs.Spans.{inside}
use Rattle.reading.proofs.Steps.{step-read, step-broken, Loop, start, turn, broken}
use Rattle.names.proofs.NameLaws.{name-sound, named-at}
use Rattle.names.proofs.Walks.{walk_more, end_more}

-- the names before are what a walk over the file from offset 1 meets

pub record Names (file : List ℕ) (count i p : ℕ) : Type 0 where
  pub loop : Loop name file 1 count i p
  pub seen : loop.seen ≡ names_from file i 1
  pub at : p ≡ walk_end file i 1
  pub room : p ≤ length file

module _ (file : List ℕ) (count : ℕ) where
  pub names-start : 1 ≤ length file → Names file count 0 1
  unfolding start names_from walk_end
  names-start h = record { loop = start name file 1 count; seen = refl; at = refl; room = h }

  module _ {i p : ℕ} (l : Names file count i p) (h : i < count) where
    word : {r : Result Read Broken} → r ≡ step_of length (name (names_from file i 1) file p) → r ≡ step_of length (name l.loop.seen file p)
    word e = e ∙ ap (step_of length) (ap (λ (b : List (List ℕ)). name b file p) (sym l.seen))

    pub names-turn : {s : Read} → Ok s ≡ step_of length (name (names_from file i 1) file p) → Names file count (i + 1) s.next
    unfolding turn
    names-turn {s} e =
        let t = step-read length (name l.loop.seen file p) (word e) in
        let spans = (name-sound file l.loop.seen p t.0 s.next t.1).1 in
        let n = named-at file t.0 spans in
        let is : take (get_or file (walk_end file i 1) 0) (drop (walk_end file i 1 + 1) file) ≡ t.0 = ap (λ (x : ℕ). take (get_or file x 0) (drop (x + 1) file)) (sym l.at) ∙ n.2 in
        let to : walk_end file i 1 + 1 + get_or file (walk_end file i 1) 0 ≡ s.next = ap (λ (x : ℕ). x + 1 + get_or file x 0) (sym l.at) ∙ sym n.3 in
        record {
          loop = turn name file l.loop h t.1;
          seen = ap (λ (x : List (List ℕ)). x ++ (t.0 ∷ [])) l.seen ∙ ap (λ (x : List ℕ). names_from file i 1 ++ (x ∷ [])) (sym is) ∙ sym
              (walk_more file i 1) ∙ ap (λ (k : ℕ). names_from file k 1) (sym (add-one i));
          at = sym (ap (λ (k : ℕ). walk_end file k 1) (add-one i) ∙ end_more file i 1 ∙ to);
          room = inside file (name_bytes t.0) spans l.room;
        }

    pub names-broken : {o : Broken} → Err o ≡ step_of length (name (names_from file i 1) file p) → Err o ≡ step_of length (each_item name count [] file 1)
    names-broken e = broken name file l.loop h (step-broken length (name l.loop.seen file p) (word e))
