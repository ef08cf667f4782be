-- The lines mean what they say: a good file's parts pass the search's checks, so the walk's promises hold of its end, which the lines tell.
-- Assumes nothing.
use mathlib.Core.Path.{◌≡◌, refl, sym, ap, ◌∙◌, subst}
use mathlib.Core.List.{List, ◌++◌}
use Prim.Native.Nat.{ℕ, ◌<◌, ◌≤◌}
use lib.ListN.{length, take, get_or, replicate, length-replicate}
use Rattle.rules.specs.Limits.{most_room}
use Rattle.reading.specs.Reading.{Got, got, bad}
use Rattle.file.specs.Format.{Parts, Good, GoodFile, file_bytes}
use Rattle.file.specs.Offence.{whole_file}
use Rattle.file.proofs.Whole.{passed-is-good, good-passes}
use Rattle.formula.specs.Formula.{Formula, size}
use Rattle.formula.proofs.Spelled.{one-formula}
use Rattle.walk.specs.Walk.{Ending, found, none, full, Tally, ended}
use Rattle.walk.specs.Input.{Input, Passes, search}
use Rattle.walk.specs.Kept.{Table, table_nodes}
use Rattle.walk.proofs.Promises as walk
use Rattle.walk.proofs.Position.{tried-is-position}
use Rattle.walk.proofs.Dropped.{tried-adds-up}
use Rattle.text.specs.Text.{text}
use Rattle.search.specs.Table.{Cols, cols}
use Rattle.checks.proofs.Passing.{passes-whole}
use Rattle.line.specs.Line.{found_line, broken_line}
use Rattle.writing.specs.Writing.{newline}
use Rattle.lines.specs.Bench.{file_input, EndSays, GoodSays, Says}
use Rattle.lines.specs.Promises.{LineCounts, LinesMeant, LinesShown, LinesMean}
use Rattle.lines.specs.Promises.LinesMeant.{is_found, is_none, is-full}
use Rattle.lines.proofs.Shown.{front}
use Rattle.lines.proofs.Searching.{Roomy, in-room}

-- a table with room for any search
zeros : ℕ → List ℕ
zeros n = replicate n 0

widest : Cols
widest = cols (zeros 4096) (zeros 4096) (zeros 4096) (zeros 4096) (zeros 131072)

widest-roomy : Roomy widest
unfolding zeros widest
widest-roomy = record {
  codes = length-replicate {A = ℕ} 4096 0;
  lefts = length-replicate {A = ℕ} 4096 0;
  rights = length-replicate {A = ℕ} 4096 0;
  sizes = length-replicate {A = ℕ} 4096 0;
  matrices = length-replicate {A = ℕ} 131072 0;
}

-- good parts, with a room from 1 to 4,096, pass the checks
pub parts-pass : (p : Parts) (room : ℕ) → Good p → 1 ≤ room → room ≤ most_room → Passes (file_input p room)
parts-pass p room g a b = ((passes-whole (file_input p room) widest).0 (in-room p g room widest widest-roomy a b)).0

module _ (p : Parts) (room : ℕ) (ok : Passes (file_input p room)) (out : List ℕ) where
  abbrev i : Input
  i = file_input p room

  counts : (e : Ending) (k : Table) (n : Tally) → search i ≡ ended e k n → LineCounts i e k n.tried (length k) n.dropped
  counts e k n s = record { as_many = refl; formulas = walk.kept-distinct i ok e k n s; position = tried-is-position i e k n s; adds-up = tried-adds-up i e k n s }

  meant : (e : Ending) (k : Table) (n : Tally) → search i ≡ ended e k n → EndSays p.names e k n out → LinesMeant p room out
  meant (found root) k n s (t, spelled, q) =
      let f = walk.found-smallest i ok root k n s in
      let same : t ≡ f.formula = one-formula (table_nodes k) root t f.formula spelled f.spelled in
      let line : out ≡ found_line (size f.formula) n.tried (length k) n.dropped ++ (text p.names f.formula ++ newline) =
      q ∙ ap (λ (z : ℕ). found_line z n.tried (length k) n.dropped ++ (text p.names t ++ newline)) f.sized
      ∙ ap (λ (u : Formula). found_line (size f.formula) n.tried (length k) n.dropped ++ (text p.names u ++ newline)) same in
      is_found f.formula root k n.tried (length k) n.dropped line f.offered f.within f.separates f.smallest f.spelled (counts (found root) k n s)
  meant none k n s q = is_none k n.tried (length k) n.dropped q (walk.none-means-none i ok k n s) (counts none k n s)
  meant (full z) k n s q = is-full z k n.tried (length k) n.dropped q (walk.full-needs-room i ok z k n s) (counts (full z) k n s)

module _ (file : List ℕ) (bytes : (i : ℕ) → get_or file i 0 < 256) (room : ℕ) (out : List ℕ) (says : Says (whole_file file) room out) where
  good-says : (p : Parts) → Good p → file_bytes p ≡ file → GoodSays p room out
  good-says p g e = subst (λ (w : Got Parts). Says w room out) (good-passes file p g e) says

  broken-says : (GoodFile file → ⊥) → (w : Got Parts) → whole_file file ≡ w → Says w room out → (o : ℕ) × (whole_file file ≡ bad o) × (out ≡ broken_line o)
  broken-says f (got p next) e s = absurd (let (g, is) = passed-is-good file bytes p next e in f (p, g, is))
  broken-says f (bad o) e s = (o, e, s)

  pub shown-for : LinesShown file room out
  shown-for = record {
    good = λ p g e a b. let (d, k, n, s, q) = (good-says p g e).searched a b in meant p room (parts-pass p room g a b) out d k n s q;
    outside = λ (p, g, e) o. (good-says p g e).outside o;
    broken = λ f. broken-says f (whole_file file) refl says;
  }

pub lines-mean : LinesMean
lines-mean file bytes room old r new w =
    let is : take r new ≡ w.lines = ap (take r) w.holds ∙ front w.lines old r w.long in
    subst (LinesShown file room) (sym is) (shown-for file bytes room w.lines w.says)
