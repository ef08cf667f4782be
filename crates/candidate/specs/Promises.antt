-- What is promised of the judgement of one candidate; each is proved under its name in proofs/Judged: judge-unique, judge-walks.
-- Assumes nothing.
use Rattle.std.specs.Prelude.{◌≡◌, List, ℕ}
use Rattle.formula.specs.declared.kinds.Node.{Node}
use Rattle.walk.specs.Walk.{Candidate}
use Rattle.walk.specs.Input.{input_of}
use Rattle.walk.specs.Kept.{Table}
use Rattle.table.specs.Slices.{Cols}
use Rattle.counting.specs.declared.Fate.{Fate}
use Rattle.candidate.specs.Judge.{Over, Does, Judged}

-- for every input there is one fate, and one contents of the rows' room and of the table
abbrev pub JudgeUnique : Type 0
JudgeUnique = (r m room : ℕ) (marks words masks : List ℕ) (node : Node) (count : ℕ) (rows x y : List ℕ) (t u w : Cols) (a b : Fate)
    → Judged r m room marks words masks node count rows x t u a → Judged r m room marks words masks node count rows y t w b → (a ≡ b) × (x ≡ y) × (u ≡ w)

-- over slices that hold what a walk has kept it is the walk's
abbrev pub JudgeWalks : Type 0
JudgeWalks = (r m room : ℕ) (marks words masks : List ℕ) (node : Node) (count : ℕ) (rows rows' : List ℕ) (t t' : Cols) (v : Fate)
    → Judged r m room marks words masks node count rows rows' t t' v
    → (bound constants : ℕ) (lengths unary binary : List ℕ) (t₀ : Cols) (k : Table) (x : Candidate (List ℕ))
    → Over (input_of r m bound room constants marks lengths words unary binary) masks node count rows t₀ t k x
    → Does (input_of r m bound room constants marks lengths words unary binary) node t₀ t' k x v
