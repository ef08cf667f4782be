-- Any two results that the contract allows are equal, and the bytes written are within the text.
-- Assumes nothing.
use mathlib.Core.Path.{◌≡◌, sym, ap, ◌∙◌, subst}
use mathlib.Core.List.{List}
use Prim.Native.Nat.{ℕ, ◌-◌, ◌≤◌}
use native.Mathlib.Omega.{arith}
use lib.ListN.{length}
use Rattle.reading.specs.Reading.{Got, got, bad}
use Rattle.session.specs.Recording.{Recording}
use Rattle.file.specs.Format.{Parts}
use Rattle.file.specs.Offence.{whole_file}
use Rattle.formula.specs.Nodes.{node_at}
use Rattle.verdict.specs.declared.Verdict.{Verdict}
use Rattle.verdict.proofs.Unique.{check-unique}
use Rattle.std.proofs.Common.{Result, Ok, Err}
use Rattle.rules.specs.declared.refusal.Refusal.{Refusal}
use Rattle.reader.specs.declared.ParseError.{ParseError}
use Rattle.reader.specs.declared.ParseError.TheVariants.{Broken, Stops, Unknown, Refused}
use Rattle.reader.specs.Parsing.{Columns}
use Rattle.reader.proofs.Unique.{parse-unique}
use Rattle.writing.specs.Writing.{Wrote}
use Rattle.writing.proofs.Writing.{wrote-unique, wrote-length}
use Rattle.suspicion.specs.Suspicion.{roomy, first_nodes, verdict_line, Shows, FileSays, TypedLinesOf}

-- one answer has one list of lines
shows-one : (i : Recording) (typed : List ℕ) (c : Columns) (p : Result ℕ ParseError) (x y : List ℕ) → Shows i typed c p x → Shows i typed c p y → x ≡ y
shows-one i typed c (Ok n) x y a b =
    a.2 ∙ ap (λ (v : Result Verdict Refusal). verdict_line v) (check-unique i (first_nodes n c) (node_at (first_nodes n c) (n - 1)) a.0 b.0 a.1 b.1) ∙ sym b.2
shows-one i typed c (Err (Broken o)) x y a b = a ∙ sym b
shows-one i typed c (Err (Stops o)) x y a b = a ∙ sym b
shows-one i typed c (Err (Unknown o)) x y a b = a ∙ sym b
shows-one i typed c (Err (Refused k)) x y a b = a ∙ sym b

says-one : (g : Got Parts) (typed x y : List ℕ) → FileSays g typed x → FileSays g typed y → x ≡ y
says-one (bad o) typed x y a b = a ∙ sym b
says-one (got p next) typed x y a b =
    let e = parse-unique _ typed roomy a.answer b.answer a.left b.left a.parses b.parses in
    shows-one _ typed b.left b.answer x y
    (subst (λ (c : Columns). Shows _ typed c b.answer x) e.1 (subst (λ (q : Result ℕ ParseError). Shows _ typed a.left q x) e.0 a.shows)) b.shows

-- how many bytes are written, and what the text holds
pub suspicion-unique : (typed file old : List ℕ) (r s : ℕ) (new later : List ℕ) → TypedLinesOf typed file old new r → TypedLinesOf typed file old later s → (r ≡ s) × (new ≡ later)
suspicion-unique typed file old r s new later a b =
    let e = says-one (whole_file file) typed a.lines b.lines a.says b.says in
    wrote-unique b.lines (subst (λ (l : List ℕ). Wrote old 0 l new r) e a.wrote) b.wrote

pub said_in : {typed file old new : List ℕ} {r : ℕ} → TypedLinesOf typed file old new r → r ≤ length new
said_in w = omega (arith, w.wrote.next, wrote-length w.lines w.wrote)
