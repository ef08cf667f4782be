-- From the answers of the readers and the check to the lines that are written.
-- Assumes nothing.
use mathlib.Core.Path.{◌≡◌, refl, sym, ap, ◌∙◌, subst}
use mathlib.Core.List.{List}
use Prim.Native.Nat.{ℕ, ◌*◌, ◌-◌}
use lib.ListN.{length, take}
use Rattle.reading.specs.Reading.{Got, got, section}
use Rattle.names.specs.Names.{name_bytes}
use Rattle.names.proofs.Theorems.{names-accepts}
use Rattle.session.specs.Recording.{Recording, recording}
use Rattle.file.specs.declared.Parts.{Parts as Numbers}
use Rattle.file.specs.declared.ReadError.{ReadError}
use Rattle.file.specs.declared.ReadError.TheVariants.{Broken}
use Rattle.file.specs.Format.{Parts}
use Rattle.file.specs.Reading.{said_read, Lent, read_after, marks_of, lengths_of, read_of}
use Rattle.file.proofs.Numbers.{Bytes}
use Rattle.formula.specs.Nodes.{Node, node_at}
use Rattle.verdict.specs.Check.{said_verdict, CheckAnswer}
use Rattle.verdict.specs.declared.Verdict.{Verdict}
use Rattle.std.proofs.Common.{Result, Ok, Err}
use Rattle.rules.specs.declared.refusal.Refusal.{Refusal}
use Rattle.reader.specs.declared.ParseError.{ParseError}
use Rattle.reader.specs.declared.ParseError.TheVariants as parsed
use Rattle.reader.specs.Parsing.{Columns, said_parsed, Parses}
use Rattle.writing.specs.Writing.{Wrote}
use Rattle.lines.proofs.Handed.{Wide, Handed, broken-at}
use Rattle.line.specs.Line.{refused_at_line}
use Rattle.suspicion.specs.Suspicion.{roomy, first_nodes, verdict_line, Shows, TypedSays, FileSays, TypedLinesOf, recording_of}
use Rattle.suspicion.specs.Inner.{Checked, unread_lines, JudgedBy}

-- a verdict has its line
pub check-line : (i : Recording) (k : List Node) (at : ℕ) {root : Node} {v w : Result Verdict Refusal} {old new : List ℕ} {r : ℕ} → root ≡ node_at k at
    → CheckAnswer i k root (said_verdict v) → v ≡ w → Wrote old 0 (verdict_line w) new r → Checked i k at old new r
check-line i k at {root} {v} {w} e a q x =
    (w, subst (λ (u : Result Verdict Refusal). CheckAnswer i k (node_at k at) (said_verdict u)) q (subst (λ (n : Node). CheckAnswer i k n (said_verdict v)) e a), x)

module _ (typed names : List ℕ) (i : Recording) {left : Columns} {old new : List ℕ} {r : ℕ} where
  pub nodes-judged : {n : ℕ} → Parses names typed roomy left (said_parsed (Ok n)) → Checked i (first_nodes n left) (n - 1) old new r → JudgedBy typed names i old new r
  nodes-judged {n} a c = (verdict_line c.0, record { answer = Ok n; left = left; parses = a; shows = (c.0, c.1, refl) }, c.2)

  -- what is not read has its own lines
  pub unread-judged : (e : ParseError) → Parses names typed roomy left (said_parsed (Err e)) → Wrote old 0 (unread_lines typed e) new r → JudgedBy typed names i old new r
  unread-judged e a x = (unread_lines typed e, record { answer = Err e; left = left; parses = a; shows = go e }, x)
    where
      go : (q : ParseError) → Shows i typed left (Err q) (unread_lines typed q)
      go (parsed.Broken o) = refl
      go (parsed.Stops o) = refl
      go (parsed.Unknown o) = refl
      go (parsed.Refused c) = refl

pub unread-wrote : (typed : List ℕ) {p q : ParseError} {old new : List ℕ} {r : ℕ} → p ≡ q → Wrote old 0 (unread_lines typed q) new r → Wrote old 0 (unread_lines typed p) new r
unread-wrote typed {p} {q} {old} {new} {r} e x = subst (λ (z : ParseError). Wrote old 0 (unread_lines typed z) new r) (sym e) x

module _ (file : List ℕ) (bytes : Bytes file) (l : Lent) (wide : Wide l) (a : Result Numbers ReadError) (marks lengths words unary binary : List ℕ)
    (e : read_after (said_read a) marks lengths words unary binary ≡ read_of file l) (typed : List ℕ) {old new : List ℕ} {k : ℕ} where
  -- a good file's names and sessions are those that the reader and the check are handed
  pub good-said : {r m n u b constants bound : ℕ} → Handed file bytes l wide a marks lengths words unary binary e r m n u b constants bound
      → JudgedBy typed (take n file) (recording r m (take r marks) (take r lengths) (take (m * r) words)) old new k → TypedLinesOf typed file old new k
  good-said {r} {m} {n} h (lines, says, wrote) =
      let front : section name_bytes h.parts.names ≡ take n file = ((names-accepts (take n file) h.parts.names).0 (h.front-is ∙ ap (got h.parts.names)
      h.names-long)).1 in
      let p = h.parts in
      let same : recording r m (take r marks) (take r lengths) (take (m * r) words) ≡ recording_of p =
      ap (λ (z : ℕ). recording z m (take r marks) (take r lengths) (take (m * r) words)) h.count
      ∙ ap (λ (z : ℕ). recording (length p.sessions) z (take r marks) (take r lengths) (take (m * r) words)) h.width
      ∙ ap (λ (z : List ℕ). recording (length p.sessions) (length p.names) z (take r lengths) (take (m * r) words)) h.all-marks.is
      ∙ ap (λ (z : List ℕ). recording (length p.sessions) (length p.names) (marks_of p) z (take (m * r) words)) h.all-lengths.is
      ∙ ap (λ (z : List ℕ). recording (length p.sessions) (length p.names) (marks_of p) (lengths_of p) z) h.all_words.is in
      record {
        lines = lines;
        says = subst (λ (g : Got Parts). FileSays g typed lines) (sym h.is)
            (subst (λ (x : List ℕ). TypedSays typed x (recording_of h.parts) lines) (sym front)
            (subst (λ (i : Recording). TypedSays typed (take n file) i lines) same says));
        wrote = wrote;
      }

  pub broken-said : {o : ℕ} → a ≡ Err (Broken o) → Wrote old 0 (refused_at_line 8 o) new k → TypedLinesOf typed file old new k
  broken-said {o} q w = record {
    lines = refused_at_line 8 o;
    says = subst (λ (g : Got Parts). FileSays g typed (refused_at_line 8 o)) (sym (broken-at file bytes l wide a marks lengths words unary binary e q)) refl;
    wrote = w;
  }
