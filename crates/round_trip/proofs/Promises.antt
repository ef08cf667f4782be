-- What is printed is read back, and what is read prints: the text has the tree that was printed, no row of parse's list is given, and the nodes written
-- are that tree's, which spell it again.
-- Assumes nothing.
use mathlib.Core.Path.{◌≡◌, refl, sym, ap, subst, ◌∙◌}
use mathlib.Core.List.{List, [], ◌∷◌, map, head-eq_of_cons-eq}
use Prim.Native.Nat.{ℕ, zero, suc, ◌-◌, ◌≤◌, ◌<◌}
use native.Mathlib.Omega.{arith}
use lib.ListN.{length, get_or, take, drop, length-map}
use lib.Seq.{take_at, ext_get_or}
use Rattle.rules.specs.Answers.{Said, over}
use Rattle.rules.specs.Limits.{most_size}
use Rattle.names.specs.Names.{names_in, GoodNames}
use Rattle.names.proofs.Starts.{short-names}
use Rattle.formula.specs.Formula.{size, Formula}
use Rattle.formula.specs.Nodes.{Node, node_at, Spells, codes}
use Rattle.formula.specs.Kinds.{node, nodes}
use Rattle.formula.specs.Rule.{Broken}
use Rattle.formula.proofs.Listed.{length-nodes, node-at}
use Rattle.formula.proofs.Spelled.{list-spells}
use Rattle.formula.proofs.Trees.{spells-size}
use Rattle.text.specs.Text.{text, most_text}
use Rattle.text.specs.Tokens.{Named}
use Rattle.text.specs.Print.{Prints}
use Rattle.text.proofs.Texts.{text-fits}
use Rattle.grammar.specs.Grammar.{Reads}
use Rattle.grammar.specs.Naming.{typed}
use Rattle.grammar.specs.Nodes.{nodes_of}
use Rattle.grammar.proofs.Printing.{printed}
use Rattle.grammar.proofs.Theorems.{one-tree}
use Rattle.reader.specs.Parsing.{Columns, room_of, nodes_over, Taken, Parses}
use Rattle.reader.proofs.Scratch.{nodes-length}
use Rattle.reader.proofs.Unique as reader
use Rattle.round_trip.specs.Promises.{nodes_in, root_in, ReadBack, RoundTrip, ReadPrints}
use Rattle.round_trip.proofs.Standing.{nodes-spell, nodes-good}
use Rattle.round_trip.proofs.Named.{list-named, all_named, all_listed}
use Rattle.round_trip.proofs.Worded.{all_known}
use Rattle.round_trip.proofs.Nested.{not-deep}
use Rattle.round_trip.proofs.Contracts.{Printed, print-passed, print-takes, typed-size, parse-takes, Passed, parse-passed}

-- ---- the nodes that were written

at_place : (ns : List Node) (p : ℕ) → p < length ns
    → node (get_or (map (λ n. n.code) ns) p 0) (get_or (map (λ n. n.left) ns) p 0) (get_or (map (λ n. n.right) ns) p 0) (get_or (map (λ n. n.size) ns) p 0) ≡ node_at ns p
at_place [] p h = absurd (omega arith)
at_place (n ∷ ns) zero h = refl
at_place (n ∷ ns) (suc p) h = at_place ns p (omega arith)

from-columns : (ns : List Node) → nodes (map (λ n. n.code) ns) (map (λ n. n.left) ns) (map (λ n. n.right) ns) (map (λ n. n.size) ns) ≡ ns
from-columns ns =
    let a = length-map ns (λ n. n.code) in
    let b = length-map ns (λ n. n.left) in
    let c = length-map ns (λ n. n.right) in
    let d = length-map ns (λ n. n.size) in
    let l = length-nodes (map (λ n. n.code) ns) (map (λ n. n.left) ns) (map (λ n. n.right) ns) (map (λ n. n.size) ns) in
    ext_get_or (node 0 0 0 0) _ _ (omega arith)
    (λ p h. node-at (map (λ n. n.code) ns) (map (λ n. n.left) ns) (map (λ n. n.right) ns) (map (λ n. n.size) ns) p (omega arith) ∙ at_place ns p (omega arith))

-- the front of a slice is the field that was written there
front : (f : Node → ℕ) (ns : List Node) (n : ℕ) (old : List ℕ) → length ns ≡ n → take n (over (map f ns) old) ≡ map f ns
front f ns n old e = take_at (map f ns) (drop (length (map f ns)) old) n (length-map ns f ∙ e)

read-nodes : (old : Columns) {new : Columns} (ns : List Node) (n : ℕ) → length ns ≡ n → new ≡ nodes_over ns old → nodes_in new n ≡ ns
read-nodes old ns n e w =
    ap (λ (c : Columns). nodes_in c n) w
    ∙ rw (
      front (λ x. x.code) ns n old.codes e,
      front (λ x. x.left) ns n old.lefts e,
      front (λ x. x.right) ns n old.rights e,
      front (λ x. x.size) ns n old.sizes e,
    ) (from-columns ns)

-- over the nodes read: they spell the formula, and pass number 9
module _ (old : Columns) {new : Columns} (t : Formula) (w : new ≡ nodes_over (nodes_of codes 0 t) old) where
  same : nodes_of codes 0 t ≡ nodes_in new (size t)
  same = sym (read-nodes old (nodes_of codes 0 t) (size t) (nodes-length codes 0 t) w)

  pub read-spells : Spells codes (nodes_in new (size t)) (root_in new (size t)) t
  read-spells = subst (λ (k : List Node). Spells codes k (node_at k (size t - 1)) t) same (nodes-spell t)

  pub read-good : (m : ℕ) → Named m t → size t ≤ most_size → Broken m (nodes_in new (size t)) (root_in new (size t)) → ⊥
  read-good m h l = subst (λ (k : List Node). Broken m k (node_at k (size t - 1)) → ⊥) same (nodes-good m t h l)

-- ---- "What the printer writes, read back with the same names, prints the same"

module _ (file : List ℕ) (k : List Node) (root : Node) (room out : List ℕ) (s : Said) (n : ℕ) (g : GoodNames file)
    (d : Printed (names_in file) k root room s out) (v : s.values ≡ n ∷ []) where
  abbrev t : Formula
  t = d.formula

  abbrev bytes : List ℕ
  bytes = text (names_in file) t

  long : length bytes ≡ n
  long = head-eq_of_cons-eq (sym d.values ∙ v)

  wrote : take n out ≡ bytes
  wrote = ap (take n) d.is ∙ take_at bytes (drop (length bytes) room) n long

  named : Named (length (names_in file)) t
  named = list-named (length (names_in file)) k root d.whole t d.spelled

  small : size t ≤ most_size
  small = let w = (list-spells (length (names_in file)) k root d.whole).0 in subst (λ (u : Formula). size u ≤ most_size) (sym (w.only t d.spelled)) w.small

  reads : Reads bytes (typed (names_in file) t)
  reads = printed (names_in file) t (all_named file g t named)

  module _ (old new : Columns) (p : Said) (enough : size t ≤ room_of old) (w : Parses file bytes old new p) where
    taken : Taken file bytes old new p
    taken =
        let e = typed-size (names_in file) t in
        let l = text-fits (names_in file) (short-names file g) t small in
        let h = all_listed file g t named in
        let m = small in
        let flat = not-deep (names_in file) t h (omega arith) in
        parse-takes file bytes old new p g (omega arith) (typed (names_in file) t) reads (all_known (names_in file) t h) flat (omega arith) (omega arith) w

    is : taken.formula ≡ t
    is = reader.one-formula file taken.formula t taken.under named (one-tree taken.reads reads)

    put : new ≡ nodes_over (nodes_of codes 0 t) old
    put = taken.nodes ∙ ap (λ (f : Formula). nodes_over (nodes_of codes 0 f) old) is

    back : ReadBack file k root n out new p
    back = record {
      formula = t;
      printed = d.spelled;
      number = taken.number;
      values = taken.values ∙ ap (λ (f : Formula). size f ∷ []) is;
      read = read-spells old t put;
      again = λ room' out' s' l q.
          let whole = read-good old t put (length (names_in file)) named small in
          let e = long in
          let a = print-takes file (nodes_in new (size t)) (root_in new (size t)) room' s' out' g whole t (read-spells old t put) (omega arith) q in
          (a.0, a.1 ∙ ap (λ (m : ℕ). m ∷ []) long, ap (take n) a.2 ∙ take_at bytes (drop (length bytes) room') n long ∙ sym wrote);
    }

pub round_trip : RoundTrip
round_trip file k root room out s n w z v old new p enough parse =
    let d = print-passed file k root room s out w z in
    let e : root.size ≡ size d.1.formula = list-size d in
    back file k root room out s n d.0 d.1 v old new p (omega arith) (subst (λ (x : List ℕ). Parses file x old new p) (wrote file k root room out s n d.0 d.1 v) parse)
  where
    list-size : (d : GoodNames file × Printed (names_in file) k root room s out) → root.size ≡ size d.1.formula
    list-size d = spells-size codes k root d.1.formula d.1.spelled

-- ---- what is read prints

-- that many nodes of the slices, whichever number it is
abbrev Prints9 : List ℕ → Columns → ℕ → Type 0
Prints9 file new n =
    (Broken (length (names_in file)) (nodes_in new n) (root_in new n) → ⊥)
    × ((room out : List ℕ) (s : Said) → most_text ≤ length room → Prints file (nodes_in new n) (root_in new n) room s out → s.number ≡ 0)

passed-prints : (file bytes : List ℕ) (old new : Columns) (p : Said) (d : Passed file bytes old new p) → Prints9 file new (size d.taken.formula)
passed-prints file bytes old new p d =
    let f = d.taken.formula in
    let whole = read-good old f d.taken.nodes (length (names_in file)) d.taken.under d.small in (
      whole,
      λ room out s l q.
          let m = text-fits (names_in file) (short-names file d.good) f d.small in
          (print-takes file (nodes_in new (size f)) (root_in new (size f)) room s out d.good whole f (read-spells old f d.taken.nodes) (omega arith) q).0,
    )

pub read-prints : ReadPrints
read-prints file bytes old new p n w z v =
    let d = parse-passed file bytes old new p w z in
    let e : size d.taken.formula ≡ n = head-eq_of_cons-eq (sym d.taken.values ∙ v) in
    subst (Prints9 file new) e (passed-prints file bytes old new p d)
