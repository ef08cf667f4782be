-- Any two results that the contract allows are equal, and the bytes written are within the text.
-- Assumes nothing.
use mathlib.Core.Path.{◌≡◌, sym, ◌∙◌, subst}
use mathlib.Core.List.{List}
use Prim.Native.Nat.{ℕ, ◌≤◌}
use native.Mathlib.Omega.{arith}
use lib.ListN.{length}
use Rattle.reading.specs.Reading.{Got, got, bad}
use Rattle.file.specs.Format.{Parts}
use Rattle.file.specs.Offence.{whole_file}
use Rattle.formula.specs.Nodes.{Node}
use Rattle.walk.specs.Walk.{Ending, found, none, full, Tally, ended}
use Rattle.walk.specs.Input.{search}
use Rattle.walk.specs.Kept.{Table, table_nodes}
use Rattle.walk.proofs.Promises.{walk_ends}
use Rattle.writing.specs.Writing.{Wrote}
use Rattle.writing.proofs.Writing.{wrote-unique, wrote-length}
use Rattle.lines.specs.Bench.{bench_room, file_input}
use Rattle.lines.proofs.Unique.{says-one}
use Rattle.report.proofs.Unique.{one-report}
use Rattle.explanation.specs.Explanation.{Finds, Explains, ExplanationOf}

told-one : (p : Parts) (next : ℕ) (x y : List ℕ) (e : Ending) (k : Table) (n : Tally) → search (file_input p bench_room) ≡ ended e k n → Explains (got p next) x
    → Explains (got p next) y → x ≡ y
told-one p next x y (found root) k n q a b =
    one-report (file_input p bench_room).recording (table_nodes k) root x y (a.report root k (n, q)) (b.report root k (n, q))
told-one p next x y none k n q a b =
    let no : (root : Node) (l : Table) → Finds (file_input p bench_room) root l → ⊥ = λ root l (m, h). (let z : ◌≡◌ {A = ℕ} 0 1 = cc (sym q ∙ h) in omega arith) in
    says-one (got p next) bench_room x y (a.else no) (b.else no)
told-one p next x y (full s) k n q a b =
    let no : (root : Node) (l : Table) → Finds (file_input p bench_room) root l → ⊥ = λ root l (m, h). (let z : ◌≡◌ {A = ℕ} 0 1 = cc (sym q ∙ h) in omega arith) in
    says-one (got p next) bench_room x y (a.else no) (b.else no)

explains-one : (g : Got Parts) (x y : List ℕ) → Explains g x → Explains g y → x ≡ y
explains-one (bad o) x y a b = says-one (bad o) bench_room x y a b
explains-one (got p next) x y a b =
    let (e, k, n, q) = walk_ends (file_input p bench_room) in
    told-one p next x y e k n q a b

-- what is answered, and what the text holds
pub explanation-unique : (file old : List ℕ) (r s : ℕ) (new later : List ℕ) → ExplanationOf file old r new → ExplanationOf file old s later
    → (r ≡ s) × (new ≡ later)
explanation-unique file old r s new later a b =
    let e = explains-one (whole_file file) a.output b.output a.explains b.explains in
    wrote-unique b.output (subst (λ (l : List ℕ). Wrote old 0 l new r) e a.wrote) b.wrote

-- the bytes written are within the text
pub explanation-in : {file old new : List ℕ} {r : ℕ} → ExplanationOf file old r new → r ≤ length new
explanation-in w = omega (arith, w.wrote.next, wrote-length w.output w.wrote)
