-- A list of more than 4,096 nodes shows it by its first 4,097: check and print answer for these what they answer for the whole list.
-- Assumes nothing.
use mathlib.Core.Path.{◌≡◌, refl, ◌∙◌, subst}
use mathlib.Core.Logic.{inl, inr, ⊎_elim}
use mathlib.Core.List.{List, [], ◌∷◌, ◌++◌}
use Prim.Native.Nat.{ℕ, ◌<◌}
use native.Mathlib.Decide.{dec_le}
use native.Mathlib.Omega.{arith}
use lib.ListN.{length, take, length-map, length-take}
use lib.Seq.{take_all}
use Rattle.rules.specs.Refusals.{Row, Decided}
use Rattle.rules.proofs.Refusals.{Numbered, decided-none}
use Rattle.session.specs.Data.{data_rows}
use Rattle.reading.specs.Reading.{Got, got, bad}
use Rattle.names.specs.Names.{whole_names}
use Rattle.rules.specs.Answers.{Said}
use Rattle.formula.specs.Nodes as walk
use Rattle.session.specs.Recording.{Recording}
use Rattle.rules.specs.Limits.{most_room}
use Rattle.formula.specs.declared.kinds.Node.{Node}
use Rattle.formula.specs.Kinds.{node_of}
use Rattle.formula.specs.Rule.{too_many, broken_list}
use Rattle.verdict.specs.Check.{CheckAnswer, check_rows}
use Rattle.text.specs.Print.{PrintAnswer, PrintsBy, Prints}
use Rattle.nodes_in.specs.Lists.{plain}
use Rattle.nodes_in.specs.Arrays.{seen}

-- ---- a last row that is given

same-last : (rows : List Row) (row row' : Row) (k : ℕ) → row.given → row'.given → row.number ≡ row'.number → Decided (rows ++ (row ∷ [])) k → Decided (rows ++ (row' ∷ [])) k
unfolding Decided
same-last [] row row' k g g' e (inl p) = inl (g', p.1 ∙ e)
same-last [] row row' k g g' e (inr p) = absurd (p.0 g)
same-last (first ∷ rows) row row' k g g' e (inl p) = inl p
same-last (first ∷ rows) row row' k g g' e (inr p) = inr (p.0, same-last rows row row' k g g' e p.1)

some-given : (rows : List Row) (row : Row) → Numbered (rows ++ (row ∷ [])) → row.given → Decided (rows ++ (row ∷ [])) 0 → ⊥
some-given [] row n g d = (decided-none row [] n d).0 g
some-given (first ∷ rows) row n g d = some-given rows row n.1 g (decided-none first (rows ++ (row ∷ [])) n d).1

-- ---- the whole list and its first nodes

module _ (ns : List Node) (long : seen < length ns) where
  pub long-whole : most_room < length (plain ns)
  long-whole = omega (arith, length-map ns node_of)

  pub long-cut : most_room < length (plain (take seen ns))
  long-cut = omega (arith, length-map (take seen ns) node_of, length-take seen ns)

pub check-whole : (i : Recording) (ns : List Node) (root : walk.Node) (s : Said) → CheckAnswer i (plain (take seen ns)) root s → CheckAnswer i (plain ns) root s
check-whole i ns root s a =
    elim (dec_le (length ns) seen) [
      | yes h ↦ subst (λ (l : List Node). CheckAnswer i (plain l) root s) (take_all seen ns h) a
      | no h ↦ let long : seen < length ns = omega arith in
          record {
            number = same-last (data_rows i) (broken_list i.propositions (plain (take seen ns)) root)
                (broken_list i.propositions (plain ns) root) s.number (too_many (long-cut ns long)) (too_many (long-whole ns long)) refl a.number;
            refused = a.refused;
            passed = λ e. absurd (some-given (data_rows i)
                (broken_list i.propositions (plain (take seen ns)) root) (omega arith, (omega arith, (omega arith, (omega arith, (omega arith, (omega arith, tt))))))
                (too_many (long-cut ns long)) (subst (λ (k : ℕ). Decided (check_rows i (plain (take seen ns)) root) k) e a.number));
          }
    ]

nine : (names : List (List ℕ)) (k k' : List walk.Node) (root : walk.Node) (old : List ℕ) (s : Said) (new : List ℕ)
    → most_room < length k → most_room < length k' → PrintAnswer names k root old s new → PrintAnswer names k' root old s new
unfolding Decided
nine names k k' root old s new h h' a =
    let e : s.number ≡ 9 = ⊎_elim (λ p. p.1) (λ p. absurd (p.0 (too_many h))) a.number in
    record { number = inl (too_many h', e); refused = a.refused; passed = λ z. absurd (omega arith) }

long-print : (names : Got (List (List ℕ))) (k k' : List walk.Node) (root : walk.Node) (old : List ℕ) (s : Said) (new : List ℕ)
    → most_room < length k → most_room < length k' → PrintsBy names k root old s new → PrintsBy names k' root old s new
long-print (bad o) k k' root old s new h h' a = a
long-print (got names next) k k' root old s new h h' a = nine names k k' root old s new h h' a

pub print-whole : (file : List ℕ) (ns : List Node) (root : walk.Node) (old : List ℕ) (s : Said) (new : List ℕ)
    → Prints file (plain (take seen ns)) root old s new → Prints file (plain ns) root old s new
print-whole file ns root old s new a =
    elim (dec_le (length ns) seen) [
      | yes h ↦ subst (λ (l : List Node). Prints file (plain l) root old s new) (take_all seen ns h) a
      | no h ↦ let long : seen < length ns = omega arith in
          long-print (whole_names file) (plain (take seen ns)) (plain ns) root old s new (long-cut ns long) (long-whole ns long) a
    ]
