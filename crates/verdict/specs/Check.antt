-- The analyst's check: what it answers for every input.
-- Assumes nothing.
use Rattle.std.specs.Prelude.{◌≡◌, ◌↔◌, ◌⊎◌, List, [], ◌∷◌, ◌++◌, ℕ, ◌<◌, Result, Ok, Err}
use Rattle.rules.specs.declared.refusal.Refusal.{Refusal}
use Rattle.rules.specs.Refusals.{Row, Decided, refusal_number}
use Rattle.session.specs.Data.{outside_numbers, too_short, too_long, bit_above, mark_wrong}
use Rattle.rules.specs.Answers.{Said}
use Rattle.session.specs.Recording.{Recording}
use Rattle.formula.specs.Formula.{Formula, Accepts, Separates, MarkedTrace}
use Rattle.formula.specs.Recorded.{marked_trace, marked_traces}
use Rattle.formula.specs.Nodes.{Node, Spells, codes}
use Rattle.verdict.specs.declared.Verdict.{Verdict}
use Rattle.verdict.specs.declared.Verdict.TheVariants.{Accepted, Disagrees}
use Rattle.formula.specs.Rule.{broken_list}

-- the answer in document 01's terms: 0 with 1, or with 0 and the session's number; or a refusal's number alone
abbrev pub said_verdict : Result Verdict Refusal → Said
said_verdict (Ok Accepted) = record { number = 0; values = 1 ∷ [] }
said_verdict (Ok (Disagrees j)) = record { number = 0; values = 0 ∷ j.0 ∷ [] }
said_verdict (Err refusal) = record { number = refusal_number refusal; values = [] }

-- "Order of checks: 1, 2, 3, 4, 5, 6, 7, 10, 9": of these the check gives 1, 3, 4, 5, 6 and 9. A caller that is lent a slice more has a row of
-- number 3 of its own, which stands with the other of that number; which of them is given first can't be seen
abbrev pub check_rows_with : List Row → Recording → List Node → Node → List Row
check_rows_with own i k root =
    outside_numbers i.sessions i.propositions
    ∷ (own
    ++ (too_short i
    ∷ too_long i
    ∷ bit_above i
    ∷ mark_wrong i
    ∷ broken_list i.propositions k root
    ∷ []))

abbrev pub check_rows : Recording → List Node → Node → List Row
check_rows i k root = check_rows_with [] i k root

-- a session accepts the formula just if it is marked as good
abbrev pub Agrees : MarkedTrace → Formula → Type 0
Agrees s t = (s.mark ≡ 1) ↔ Accepts s.trace t

-- "the first session that disagrees", its number counted from 0
pub record FirstDisagrees (i : Recording) (t : Formula) (j : ℕ) : Type 0 where
  pub there : j < i.sessions
  pub disagrees : Agrees (marked_trace i j) t → ⊥
  pub before : (h : ℕ) → h < j → Agrees (marked_trace i h) t

-- "It accepts only a separating formula, and every one; otherwise it names the first session that disagrees."
abbrev pub VerdictSays : Recording → Formula → List ℕ → Type 0
VerdictSays i t values = (Separates (marked_traces i) t × (values ≡ 1 ∷ [])) ⊎ ((j : ℕ) × FirstDisagrees i t j × (values ≡ 0 ∷ j ∷ []))

-- the first row that is given decides the number; "A refusal carries only its number"; else the formula that the root spells decides
pub record CheckAnswer (i : Recording) (k : List Node) (root : Node) (s : Said) : Type 0 where
  pub number : Decided (check_rows i k root) s.number
  pub refused : (s.number ≡ 0 → ⊥) → s.values ≡ []
  pub passed : s.number ≡ 0 → (t : Formula) × Spells codes k root t × VerdictSays i t s.values
