-- The search over a good file's parts is refused for its room alone, and each of its answers is the walk's end.
-- Assumes nothing.
use mathlib.Core.Path.{◌≡◌, refl, sym, ap, ◌∙◌, subst}
use mathlib.Core.Logic.{inl, inr}
use mathlib.Core.List.{List, [], append-nil}
use Prim.Native.Nat.{ℕ, ◌*◌, ◌≤◌}
use native.Mathlib.Nat.{mul-le-mul}
use native.Mathlib.Omega.{arith}
use lib.Dec.{lit<}
use lib.ListN.{length, replicate, length-replicate}
use Rattle.rules.specs.Limits.{most_room, Outside}
use Rattle.std.specs.Prelude.{Ok, Err}
use Rattle.rules.specs.declared.refusal.Refusal.{Refusal}
use Rattle.rules.specs.Refusals.{Decided, refusal_number}
use Rattle.rules.proofs.Refusals.{decided-unique, decided-none}
use Rattle.session.specs.Data.{data_rows, outside_numbers}
use Rattle.session.specs.Recording.{recording}
use Rattle.file.specs.Format.{Parts, Good}
use Rattle.file.specs.Reading.{marks_of, lengths_of, words_of}
use Rattle.file.proofs.Theorems.{handed-out-passes, unary-pass, binary-pass, unary-once, binary-once}
use Rattle.rules.specs.Lists.{◌∈◌}
use Rattle.walk.specs.Walk.{WalkState, found, none, full, ended, kept}
use Rattle.walk.specs.Input.{Input, offer, search}
use Rattle.walk.specs.Kept.{Table, table_nodes}
use Rattle.walk.proofs.Promises as walk
use Rattle.walk.proofs.Reading.{lawful}
use Rattle.formula.specs.declared.kinds.Node.{Node}
use Rattle.formula.specs.Kinds.{node_of}
use Rattle.formula.specs.Rule.{Broken}
use Rattle.counting.specs.declared.Counts.{Counts}
use Rattle.search.specs.declared.SearchAnswer.TheVariants.{Found, None, Full}
use Rattle.search.specs.Table.{Cols, cols, table_over}
use Rattle.checks.specs.Refusals.{search_rows}
use Rattle.search.specs.Search.{tally_of, walk_said, Searched}
use Rattle.checks.proofs.Decide.{is-two, is_zero}
use Rattle.checks.proofs.Passing.{passes-whole}
use Rattle.search.proofs.Promises.{found-end, none_end, full-end}
use Rattle.line.specs.Line.{none_line, full_line, refused_line}
use Rattle.lines.specs.Bench.{file_input, GoodSays}
use Rattle.lines.proofs.Sizes.{walk-small}
use Rattle.lines.proofs.Kept.{kept_whole}

-- the table has room for any search
pub record Roomy (t : Cols) : Type 0 where
  pub codes : length t.codes ≡ 4096
  pub lefts : length t.lefts ≡ 4096
  pub rights : length t.rights ≡ 4096
  pub sizes : length t.sizes ≡ 4096
  pub matrices : length t.matrices ≡ 131072

-- a table of zeros is such
unfoldable pub blank : Cols
blank = cols (replicate 4096 0) (replicate 4096 0) (replicate 4096 0) (replicate 4096 0) (replicate 131072 0)

pub blank-roomy : Roomy blank
unfolding blank
blank-roomy = record {
  codes = length-replicate {A = ℕ} 4096 0;
  lefts = length-replicate {A = ℕ} 4096 0;
  rights = length-replicate {A = ℕ} 4096 0;
  sizes = length-replicate {A = ℕ} 4096 0;
  matrices = length-replicate {A = ℕ} 131072 0;
}

module _ (p : Parts) (g : Good p) (room : ℕ) (t : Cols) (roomy : Roomy t) where
  i : Input
  i = file_input p room

  pub data-pass : Decided (data_rows (recording (length p.sessions) (length p.names) (marks_of p) (lengths_of p) (words_of p))) 0
  data-pass = simp append-nil at (handed-out-passes p g [] [] [])

  numbers-fine : (outside_numbers (length p.sessions) (length p.names)).given → ⊥
  numbers-fine = (decided-none _ _ (lit< tt, (lit< tt, (lit< tt, (lit< tt, (lit< tt, tt))))) data-pass).0

  pub in-room : 1 ≤ room → room ≤ most_room → Decided (search_rows (file_input p room) t) 0
  in-room a b =
      is_zero (file_input p room) t numbers-fine (g.some_bound, g.low_bound, a, b, g.constants) (
        omega (arith, roomy.codes),
        omega (arith, roomy.lefts),
        omega (arith, roomy.rights),
        omega (arith, roomy.sizes),
        (let h : room * length p.sessions ≤ 4096 * 32 = mul-le-mul b g.few_sessions in omega (arith, roomy.matrices)),
      )
      data-pass (record { in_group = unary-pass p g; once = unary-once p g }) (record { in_group = binary-pass p g; once = binary-once p g })

  out-room : Outside 1 most_room room → Decided (search_rows i t) 2
  unfolding i
  out-room o = is-two (file_input p room) t numbers-fine (inr (inl o))

  module _ (u : Cols) where
    -- an answer that is no refusal is of a good room
    not-outside : (n : ℕ) → Decided (search_rows i t) n → n ≡ 0 → Outside 1 most_room room → ⊥
    not-outside n d z o = let e = decided-unique (search_rows i t) n 2 d (out-room o) in omega arith

    pub none-says : (n : Counts) → Searched (file_input p room) t (Ok (None n)) u → GoodSays p room (none_line n.tried n.kept n.dropped)
    unfolding i
    none-says n w = record {
      searched = λ a b.
          let (e, k, m, q) = walk.walk_ends (file_input p room) in
          let (s, l) = none_end (file_input p room) n e k m q (w.outcome.0 ∙ ap walk_said q) in
          (none, k, tally_of n, s, ap (λ (z : ℕ). none_line n.tried z n.dropped) (sym l));
      outside = λ o. absurd (not-outside 0 w.decided refl o);
    }

    pub full-says : (size : ℕ) (n : Counts) → Searched (file_input p room) t (Ok (Full size n)) u → GoodSays p room (full_line size n.tried n.kept n.dropped)
    unfolding i
    full-says size n w = record {
      searched = λ a b.
          let (e, k, m, q) = walk.walk_ends (file_input p room) in
          let (s, l) = full-end (file_input p room) size n e k m q (w.outcome.0 ∙ ap walk_said q) in
          (full size, k, tally_of n, s, ap (λ (z : ℕ). full_line size n.tried z n.dropped) (sym l));
      outside = λ o. absurd (not-outside 0 w.decided refl o);
    }

    pub refused_says : (n : Refusal) → Searched (file_input p room) t (Err n) u → GoodSays p room (refused_line (refusal_number n))
    unfolding i
    refused_says n w = record {
      searched = λ a b. (let z = decided-unique (search_rows (file_input p room) t) (refusal_number n) 0 w.decided (in-room a b) in absurd (omega (arith, w.outcome.0)));
      outside = λ o. ap refused_line (decided-unique (search_rows (file_input p room) t) (refusal_number n) 2 w.decided (out-room o));
    }

    -- what is known where a formula is found
    pub record FoundAt (root : Node) (n : Counts) : Type 0 where
      pub table : Table
      pub is : search (file_input p room) ≡ ended (found (node_of root)) table (tally_of n)
      pub as_many : length table ≡ n.kept
      pub holds : u ≡ table_over table t
      pub few : n.kept ≤ 4096
      pub whole : Broken (length p.names) (table_nodes table) (node_of root) → ⊥
      pub inside : Outside 1 most_room room → ⊥

    pub found_at : (root : Node) (n : Counts) → Searched (file_input p room) t (Ok (Found root n)) u → FoundAt root n
    unfolding i
    found_at root n w =
        let ok = ((passes-whole (file_input p room) t).0 w.decided).0 in
        let (e, k, m, q) = walk.walk_ends (file_input p room) in
        let (s, l) = found-end (file_input p room) root n e k m q (w.outcome.0 ∙ ap walk_said q) in
        let a = walk.kept-distinct (file_input p room) ok (found (node_of root)) k (tally_of n) s in
        let f = walk.found-smallest (file_input p room) ok (node_of root) k (tally_of n) s in
        record {
          table = k;
          is = s;
          as_many = l;
          holds = w.outcome.1 ∙ ap (λ (st : WalkState (List ℕ)). table_over (kept st) t) s;
          few = omega (arith, a.room, ok.room_in);
          whole = kept_whole (file_input p room) (node_of root) k a f
              (λ c h. let z = walk-small (offer (file_input p room)) (lawful (file_input p room)) room p.bound c (subst (λ (st : WalkState (List ℕ)). c ∈ kept st)
              (sym s) h) in omega (arith, g.low_bound))
              (omega (arith, ok.room_in)) (omega (arith, g.low_bound));
          inside = λ o. not-outside 0 w.decided refl o;
        }
