-- The names of a formula that is printed: its propositions are below the count of names, and each has a good name of the section.
-- Assumes nothing.
use mathlib.Core.Path.{◌≡◌, refl, sym, subst}
use mathlib.Core.List.Memᴰ
use mathlib.Core.List.{List, [], ◌∷◌, Memᴰ}
use Prim.Native.Nat.{ℕ, zero, suc, ◌<◌}
use native.Mathlib.Omega.{arith}
use lib.ListN.{length, get_or}
use Rattle.rules.specs.Lists.{Each}
use Rattle.reading.proofs.Ends.{each_at, end-sound}
use Rattle.names.specs.Names.{GoodName, names_up_to, names_in, GoodNames}
use Rattle.rules.specs.Limits.{most_propositions}
use Rattle.names.proofs.NameLaws.{names-sound}
use Rattle.formula.specs.Formula.{leaf, unary, binary, proposition, constant, Formula}
use Rattle.formula.specs.Nodes.{Node, node_at, Spells, codes}
use Rattle.formula.specs.Rule.{Broken}
use Rattle.formula.specs.Faultless.{Fits, AllFit}
use Rattle.formula.proofs.Faults.{whole-fits, proposition-under}
use Rattle.text.specs.Tokens.{Named}
use Rattle.grammar.specs.Name.{Name}
use Rattle.grammar.specs.Naming.{AllNamed}
use Rattle.grammar.proofs.Words.{letter-first}
use Rattle.reader.proofs.Resolving.{word_bytes}
use Rattle.round_trip.proofs.Worded.{AllListed}

-- ---- a list that is not broken

module _ (m : ℕ) (k : List Node) where
  fit-named : AllFit m k (length k) → (t : Formula) (b : ℕ) (n : Node) → Fits m k b n → Spells codes k n t → Named m t
  fit-named all (leaf (proposition p)) b n f s = subst (λ (x : ℕ). x < m) s.1 (proposition-under m k b n f s.0)
  fit-named all (leaf (constant c)) b n f s = tt
  fit-named all (unary op t) b n f s = fit-named all t n.left (node_at k n.left) (all n.left s.3) s.4
  fit-named all (binary op l r) b n f s = (
    fit-named all l n.left (node_at k n.left) (all n.left s.2) s.3,
    fit-named all r n.right (node_at k n.right) (all n.right s.4) s.5,
  )

  pub list-named : (root : Node) → (Broken m k root → ⊥) → (t : Formula) → Spells codes k root t → Named m t
  list-named root whole t s = let w = whole-fits m k root whole in fit-named w.0 t (length k) root w.1 s

-- ---- the names of a section

at-member : (l : List (List ℕ)) (p : ℕ) → p < length l → Memᴰ (get_or l p []) l
at-member [] p h = absurd (omega arith)
at-member (x ∷ l) zero h = Memᴰ.head refl
at-member (x ∷ l) (suc p) h = Memᴰ.tail (at-member l p (omega arith))

module _ (file : List ℕ) (g : GoodNames file) where
  -- a good name is one wherever it stands
  name-at : (p : ℕ) → p < length (names_in file) → Name (get_or (names_in file) p [])
  name-at p h =
      let fits : Each GoodName [] (names_in file) = (names-sound file most_propositions 0 (end-sound file (names_up_to most_propositions file 0) g.1).0).fits in
      let n = each_at GoodName [] (names_in file) [] fits p h in
      record { some = n.some; short = n.short; letters = n.letters; free = n.free; new = λ m. Memᴰ.not-nil m }

  pub all_named : (t : Formula) → Named (length (names_in file)) t → AllNamed (names_in file) t
  unfolding AllNamed
  all_named (leaf (proposition p)) h = name-at p h
  all_named (leaf (constant c)) h = tt
  all_named (unary op t) h = all_named t h
  all_named (binary op l r) h = (all_named l h.0, all_named r h.1)

  pub all_listed : (t : Formula) → Named (length (names_in file)) t → AllListed (names_in file) t
  unfolding AllListed
  all_listed (leaf (proposition p)) h = (word_bytes (get_or (names_in file) p []) (letter-first (get_or (names_in file) p []) (name-at p h)), at-member (names_in file) p h)
  all_listed (leaf (constant c)) h = tt
  all_listed (unary op t) h = all_listed t h
  all_listed (binary op l r) h = (all_listed l h.0, all_listed r h.1)
