-- From what the bench's function, the report, the search and the reader answer to the output.
-- Assumes nothing.
use mathlib.Core.Path.{◌≡◌, refl, sym, ap, ◌∙◌, subst}
use mathlib.Core.List.{List, [], ◌∷◌, ◌++◌, head-eq_of_cons-eq, nil≢cons}
use Prim.Native.Nat.{ℕ, ◌+◌, ◌≤◌}
use native.Mathlib.Omega.{arith}
use lib.ListN.{length, take, drop}
use lib.Dec.{lit<}
use lib.Seq.{sets-eq}
use Rattle.rules.specs.Answers.{Said}
use Rattle.rules.specs.declared.refusal.Refusal.{Refusal}
use Rattle.rules.specs.Refusals.{Decided, refusal_number}
use Rattle.rules.proofs.Refusals.{decided-unique, decided-both, decided-not}
use Rattle.session.specs.Recording.{Recording, recording}
use Rattle.session.specs.Data.{data_rows}
use Rattle.reading.specs.Reading.{Got, bad}
use Rattle.std.proofs.Common.{Result, Ok, Err}
use Rattle.file.specs.declared.Parts.{Parts as Numbers}
use Rattle.file.specs.declared.ReadError.{ReadError}
use Rattle.file.specs.declared.ReadError.TheVariants.{Broken as FileBroken, Room}
use Rattle.file.specs.Format.{Parts, Good}
use Rattle.file.specs.Offence.{whole_file}
use Rattle.file.specs.Reading.{said_read, Lent, read_after, marks_of, lengths_of, words_of, read_of}
use Rattle.file.proofs.Numbers.{Bytes}
use Rattle.formula.specs.Nodes.{Node}
use Rattle.formula.specs.declared.kinds.Node as declared
use Rattle.formula.specs.Kinds.{node_of}
use Rattle.formula.specs.Rule.{broken_list}
use Rattle.verdict.specs.Check.{check_rows}
use Rattle.walk.specs.Walk.{found, ended}
use Rattle.walk.specs.Input.{Input, search}
use Rattle.walk.specs.Kept.{Table, table_nodes}
use Rattle.writing.specs.Writing.{Wrote}
use Rattle.counting.specs.declared.Counts.{Counts}
use Rattle.search.specs.declared.SearchAnswer.TheVariants.{Found, None, Full}
use Rattle.search.specs.Table.{Cols}
use Rattle.search.specs.Search.{Answer, tally_of, walk_said, Searched}
use Rattle.checks.specs.Refusals.{search_rows}
use Rattle.lines.specs.Bench.{bench_room, file_input, Says, LinesOf}
use Rattle.lines.proofs.Searching.{Roomy, FoundAt, found_at, data-pass, in-room}
use Rattle.lines.proofs.Answered.{lent, kept-nodes, part-is}
use Rattle.lines.proofs.Handed.{Wide, Handed, broken-at, never-room, same, input}
use Rattle.report.specs.Lines.{ReportText}
use Rattle.report.specs.Report.{said_report, short_text, report_rows, Reports}
use Rattle.report.proofs.Length.{report-fits, longest-is}
use Rattle.explanation.specs.Explanation.{Finds, Explained, Explains, ExplanationOf}
use Rattle.explanation.specs.Inner.{Stands, BenchSays, ToldOf, ReportOf}

-- ---- the bench's lines

pub bench-stands : {file line later old new : List ℕ} {r n : ℕ} → LinesOf file bench_room line r later → Wrote old 0 (take r later) new n
    → Stands (BenchSays file) old n new
bench-stands {file} {line} {later} {old} {new} {r} {n} w v =
    let is : take r later ≡ w.lines = part-is w.lines line later r w.holds w.long in
    record { output = w.lines; said = w.says; wrote = subst (λ (x : List ℕ). Wrote old 0 x new n) is v }

-- ---- the report

module _ (i : Recording) (k : List Node) (root : Node) {old new : List ℕ} {a : Result ℕ Refusal} (w : Reports i k root old (said_report a) new) where
  pub report-stands : {n : ℕ} → Decided (check_rows i k root) 0 → 15562 ≤ length old → a ≡ Ok n → Stands (ReportOf i k root) old n new
  report-stands {n} d h e =
      let v = subst (λ (b : Result ℕ Refusal). Reports i k root old (said_report b) new) e w in
      let (out, text, long, holds) = v.passed refl in
      let fits = report-fits i k root out d text in
      let same : n ≡ length out = head-eq_of_cons-eq long in
      let room : length out ≤ length old = omega (arith, longest-is) in
      record {
        output = out;
        said = text;
        wrote = record {
          next = omega arith;
          holds = holds ∙ sym (sets-eq out old 0 (omega arith) ∙ ap (λ (z : ℕ). out ++ drop z old) (let z : 0 + length out ≡ length out = omega arith in z));
        };
      }

  -- what has passed the check is reported where there is room for the longest
  pub not-refused : {n : Refusal} → Decided (check_rows i k root) 0 → 15562 ≤ length old → a ≡ Err n → ⊥
  not-refused {n} d h e =
      let v = subst (λ (b : Result ℕ Refusal). Reports i k root old (said_report b) new) e w in
      let fits : (short_text i k root old).given → ⊥ = λ (out, text, short). omega (arith, report-fits i k root out d text, longest-is) in
      let zero : Decided (report_rows i k root old) 0 =
      decided-both (check_rows i k root) (short_text i k root old ∷ []) 0 0 (lit< tt, (lit< tt, (lit< tt, (lit< tt, (lit< tt, (lit< tt, tt)))))) d
      (decided-not (short_text i k root old) fits) in
      let (out, text, long, holds) = v.passed (decided-unique (report_rows i k root old) (refusal_number n) 0 v.number zero) in
      nil≢cons {x = length out} long

-- ---- the search's answers

values : {a b : Said} → a ≡ b → a.values ≡ b.values
values e = ap (λ (x : Said). x.values) e

module _ (j : Input) (t u : Cols) where
  none-finds : {c : Counts} → Searched j t (Ok (None c)) u → (root : Node) (k : Table) → Finds j root k → ⊥
  none-finds w root k (n, e) = let v = values (w.outcome.0 ∙ ap walk_said e) in let z : ◌≡◌ {A = ℕ} 0 1 = cc v in omega arith

  full-finds : {s : ℕ} {c : Counts} → Searched j t (Ok (Full s c)) u → (root : Node) (k : Table) → Finds j root k → ⊥
  full-finds w root k (n, e) = let v = values (w.outcome.0 ∙ ap walk_said e) in let z : ◌≡◌ {A = ℕ} 0 1 = cc v in omega arith

module _ (file : List ℕ) (j : Input) (p : Parts) (g : Good p) (s : j ≡ file_input p bench_room) (t : Cols) (roomy : Roomy t) (u : Cols) (a : Answer)
    (w : Searched j t a u) where
  moved : (b : Answer) → a ≡ b → Searched (file_input p bench_room) t b u
  moved b e = subst (λ (c : Answer). Searched (file_input p bench_room) t c u) e (subst (λ (i : Input). Searched i t a u) s w)

  -- what the bench says is said where nothing is found
  other : {old new : List ℕ} {n : ℕ} → ((root : Node) (k : Table) → Finds j root k → ⊥) → Stands (BenchSays file) old n new → Stands (ToldOf file j) old n new
  other f b = record {
    output = b.output;
    said = record { report = λ root k h. absurd (f root k h); else = λ q. b.said };
    wrote = b.wrote;
  }

  -- none of the other answers is a formula found; a good file's search with the bench's room is not refused
  pub none-stands : {c : Counts} {old new : List ℕ} {n : ℕ} → a ≡ Ok (None c) → Stands (BenchSays file) old n new → Stands (ToldOf file j) old n new
  none-stands e b = other (none-finds j t u (subst (λ (x : Answer). Searched j t x u) e w)) b

  pub full-stands : {s : ℕ} {c : Counts} {old new : List ℕ} {n : ℕ} → a ≡ Ok (Full s c) → Stands (BenchSays file) old n new → Stands (ToldOf file j) old n new
  full-stands e b = other (full-finds j t u (subst (λ (x : Answer). Searched j t x u) e w)) b

  pub never-refused : {refusal : Refusal} → a ≡ Err refusal → ⊥
  never-refused {refusal} e =
      let v = moved (Err refusal) e in
      let d = decided-unique (search_rows (file_input p bench_room) t) (refusal_number refusal) 0 v.decided
      (in-room p g bench_room t roomy (omega arith) (omega arith)) in
      omega (arith, v.outcome.0)

  pub this : {root : declared.Node} {c : Counts} → a ≡ Ok (Found root c) → FoundAt p g bench_room t roomy u root c
  this {root} {c} e = found_at p g bench_room t roomy u root c (moved (Ok (Found root c)) e)

module _ (file : List ℕ) (j : Input) (p : Parts) (g : Good p) (s : j ≡ file_input p bench_room) {t : Cols} {roomy : Roomy t} {u : Cols} {root : declared.Node} {c : Counts}
    (this : FoundAt p g bench_room t roomy u root c) where
  -- the formula found passes the check
  pub found-passes : Decided (check_rows j.recording (lent this) (node_of root)) 0
  found-passes =
      let r = (file_input p bench_room).recording in
      let d : Decided (check_rows r (table_nodes this.table) (node_of root)) 0 =
      decided-both (data_rows (recording (length p.sessions) (length p.names) (marks_of p) (lengths_of p) (words_of p)))
      (broken_list (length p.names) (table_nodes this.table) (node_of root) ∷ []) 0 0 (lit< tt, (lit< tt, (lit< tt, (lit< tt, (lit< tt, tt)))))
      (data-pass p g bench_room t roomy) (decided-not (broken_list (length p.names) (table_nodes this.table) (node_of root)) this.whole) in
      subst (λ (i : Input). Decided (check_rows i.recording (lent this) (node_of root)) 0) (sym s)
      (subst (λ (k : List Node). Decided (check_rows r k (node_of root)) 0) (sym (kept-nodes this)) d)

  pub found-stands : {old new : List ℕ} {n : ℕ} → Stands (ReportOf j.recording (lent this) (node_of root)) old n new → Stands (ToldOf file j) old n new
  found-stands b =
      let is : search j ≡ ended (found (node_of root)) this.table (tally_of c) = ap search s ∙ this.is in
      let text : ReportText j.recording (table_nodes this.table) (node_of root) b.output =
      subst (λ (k : List Node). ReportText j.recording k (node_of root) b.output) (kept-nodes this) b.said in
      record {
        output = b.output;
        said = record {
          report = λ root' k (n, q).
              let z = sym is ∙ q in
              let x : node_of root ≡ root' = cc z in
              let y : this.table ≡ k = cc z in
              subst (λ (l : Table). ReportText j.recording (table_nodes l) root' b.output) y
              (subst (λ (m : Node). ReportText j.recording (table_nodes this.table) m b.output) x text);
          else = λ f. absurd (f (node_of root) this.table (tally_of c, is));
        };
        wrote = b.wrote;
      }

-- ---- the file

module _ (file : List ℕ) (bytes : Bytes file) (l : Lent) (wide : Wide l) (a : Result Numbers ReadError) (marks lengths words unary binary : List ℕ)
    (e : read_after (said_read a) marks lengths words unary binary ≡ read_of file l) {old new : List ℕ} {x : ℕ} where
  pub good-explained : {r m n u b constants bound : ℕ} (h : Handed file bytes l wide a marks lengths words unary binary e r m n u b constants bound)
      → Stands (ToldOf file (input file bytes l wide a marks lengths words unary binary e h bench_room)) old x new → ExplanationOf file old x new
  good-explained h v =
      let told = subst (λ (i : Input). Explained i (BenchSays file) v.output) (same file bytes l wide a marks lengths words unary binary e h bench_room) v.said in
      record {
        output = v.output;
        explains = subst (λ (g : Got Parts). Explains g v.output) (sym h.is)
            (subst (λ (g : Got Parts). Explained (file_input h.parts bench_room) (Says g bench_room) v.output) h.is told);
        wrote = v.wrote;
      }

  -- any other answer than a good file's parts is that of a broken file: there is always room
  pub broken-explained : {why : ReadError} → a ≡ Err why → Stands (BenchSays file) old x new → ExplanationOf file old x new
  broken-explained {why = FileBroken o} q v =
      let is : whole_file file ≡ bad o = broken-at file bytes l wide a marks lengths words unary binary e q in
      record {
        output = v.output;
        explains = subst (λ (g : Got Parts). Explains g v.output) (sym is) (subst (λ (g : Got Parts). Says g bench_room v.output) is v.said);
        wrote = v.wrote;
      }
  broken-explained {why = Room} q v = absurd (never-room file bytes l wide a marks lengths words unary binary e q)
