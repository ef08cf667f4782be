-- Request E7: "Last, 14 refuses a state with kept above C or tried, a size outside 1 to B, a place above kept or an operator position above its list's length".
-- Assumes nothing.
use Rattle.std.specs.Prelude.{◌⊎◌, cond, ℕ, ◌+◌, ◌≤◌, ◌<◌, eqb}
use Rattle.rules.specs.Limits.{Outside}
use Rattle.rules.specs.Refusals.{Row}
use Rattle.state.specs.declared.State.{State}

-- the length of the list that a state goes through: at size 1 the leaves, m propositions and, where they are asked for, two constants; else the unary
-- operators in split 0, and the binary ones in the others
abbrev pub list_end : (m constants unary binary size split : ℕ) → ℕ
list_end m constants unary binary size split = cond (eqb size 1) (cond (eqb constants 1) (m + 2) m) (cond (eqb split 0) unary binary)

-- by m propositions, the bound B, the room C, the mark of the constants, and the lengths of the two lists of operators
module _ (m bound room constants unary binary : ℕ) where
  abbrev pub state_wrong : State → Row
  state_wrong st = record {
    number = 14;
    given = (room < st.counts.kept)
        ⊎ (st.counts.tried < st.counts.kept)
        ⊎ Outside 1 bound st.size
        ⊎ (st.counts.kept < st.at.left)
        ⊎ (st.counts.kept < st.at.right)
        ⊎ (list_end m constants unary binary st.size st.at.split < st.at.operator);
  }

  -- a state that 14 lets pass: the same, number by number (`passes-in`, `in-passes`)
  pub record StateIn (st : State) : Type 0 where
    pub kept_in : st.counts.kept ≤ room
    pub kept-tried : st.counts.kept ≤ st.counts.tried
    pub size_in : (1 ≤ st.size) × (st.size ≤ bound)
    pub left_in : st.at.left ≤ st.counts.kept
    pub right-in : st.at.right ≤ st.counts.kept
    pub operator-in : st.at.operator ≤ list_end m constants unary binary st.size st.at.split
