-- 391 bytes of room are always enough: names that pass are short, and a list that is not broken spells a formula of size 31 at most.
-- Assumes nothing.
use mathlib.Core.Path.{◌≡◌, refl, sym, ap, ◌∙◌, subst}
use mathlib.Core.Logic.{inl, inr}
use mathlib.Core.List.{List, []}
use Prim.Native.Nat.{ℕ, ◌≤◌}
use native.Mathlib.Omega.{arith}
use lib.ListN.{length, get_or}
use Rattle.rules.specs.Refusals.{Decided}
use Rattle.rules.specs.Answers.{Said}
use Rattle.rules.specs.Limits.{most_size}
use Rattle.reading.specs.Reading.{Got, got, bad}
use Rattle.names.specs.Names.{name_length, whole_names, listed, names_in}
use Rattle.names.proofs.Starts.{short-names}
use Rattle.formula.specs.Formula.{size, Formula}
use Rattle.formula.specs.Nodes.{Node, Spells, codes}
use Rattle.formula.specs.Rule.{Broken}
use Rattle.formula.proofs.Spelled.{list-spells}
use Rattle.text.specs.Text.{text, most_text}
use Rattle.text.specs.Print.{print_rows, PrintsBy}
use Rattle.text.specs.Promises.{PrintIn391}
use Rattle.text.proofs.Texts.{text-fits}

module _ (file : List ℕ) (k : List Node) (root : Node) (names : List (List ℕ)) (next : ℕ) (e : whole_names file ≡ got names next) (whole : Broken (length names) k root → ⊥) where
  same_names : names ≡ names_in file
  same_names = sym (ap listed e)

  short : (p : ℕ) → length (get_or names p []) ≤ name_length
  short p = subst (λ (ns : List (List ℕ)). length (get_or ns p []) ≤ name_length) (sym same_names) (short-names file (next, e ∙ ap (λ (ns : List (List ℕ)). got ns next) same_names) p)

  small : (t : Formula) → Spells codes k root t → size t ≤ most_size
  small t s = let w = (list-spells (length names) k root whole).0 in subst (λ (u : Formula). size u ≤ most_size) (sym (w.only t s)) w.small

  -- the text of what is spelled over names that pass
  pub text_in : (t : Formula) → Spells codes k root t → length (text names t) ≤ most_text
  text_in t s = text-fits names short t (small t s)

pub print-in-391 : PrintIn391
unfolding Decided
print-in-391 file k root old s new room w three = go (whole_names file) refl w
  where
    not_three : (names : List (List ℕ)) (next : ℕ) → whole_names file ≡ got names next → Decided (print_rows names k root old) s.number → ⊥
    not_three names next e (inl d) = omega (arith, d.1)
    not_three names next e (inr (b, inl ((t, p, l), d))) = omega (arith, text_in file k root names next e b t p)
    not_three names next e (inr (b, inr d)) = omega arith

    go : (g : Got (List (List ℕ))) → whole_names file ≡ g → PrintsBy g k root old s new → ⊥
    go (bad o) e a = let n = ap (λ (x : Said). x.number) a.0 in omega arith
    go (got names next) e a = not_three names next e a.number
