-- What follows of every answer of the search, from its contract and the walk's promises: one result for an input, demand 3 over the reading, and
-- larger bounds and rooms.
-- Assumes nothing.
use mathlib.Core.Path.{◌≡◌, refl, sym, ap, ap₂, ◌∙◌, subst}
use Rattle.std.specs.Prelude.{Ok, Err}
use mathlib.Core.List.{List}
use Prim.Native.Nat.{ℕ}
use native.Mathlib.Omega.{arith}
use lib.ListN.{length}
use Rattle.rules.specs.Refusals.{Decided}
use Rattle.rules.proofs.Refusals.{decided-unique, refusal-one}
use Rattle.rules.specs.Answers.{Said}
use Rattle.walk.specs.Walk.{Ending, found, full, none, Tally, tally, WalkState, ended, kept}
use Rattle.walk.specs.Input.{Input, Passes, search}
use Rattle.walk.specs.Kept.{Table}
use Rattle.walk.proofs.Promises as walk
use Rattle.walk.proofs.Same.{same-where-read as walk_same}
use Rattle.walk.proofs.Steady.{found-stays}
use Rattle.walk.proofs.Position.{tried-is-position as walk-tried}
use Rattle.walk.proofs.Dropped.{tried-adds-up as walk-adds}
use Rattle.formula.specs.declared.kinds.Node.{Node}
use Rattle.formula.specs.Kinds.{node_of}
use Rattle.counting.specs.declared.Counts.{Counts}
use Rattle.search.specs.declared.SearchAnswer.{SearchAnswer}
use Rattle.search.specs.declared.SearchAnswer.TheVariants.{Found, None, Full}
use Rattle.search.specs.Table.{Cols, table_over}
use Rattle.checks.specs.Refusals.{search_rows}
use Rattle.search.specs.Search.{Answer, tally_of, counts, said_search, walk_said, end_said, found_said, none_said, full_said, Searched}
use Rattle.search.specs.Promises.{SearchUnique, SearchSameWhereRead, Holding, SearchFoundSmallest, SearchNoneMeansNone, SearchFullNeedsRoom, SearchLargerSame}
use Rattle.search.specs.Promises.{SearchTriedIsPosition, SearchTriedAddsUp}
use Rattle.checks.proofs.Passing.{search-passes, decided-same}

-- ---- any two results for the same input are equal

-- the values tell the answers apart
abbrev node : ℕ → ℕ → ℕ → ℕ → Node
node code left right size = record { code = code; left = record { 0 = left }; right = record { 0 = right }; size = size }

values : {a b : Said} → a ≡ b → a.values ≡ b.values
values e = ap (λ (x : Said). x.values) e

-- the counts are among them
same-counts : (a b : Counts) → a.tried ≡ b.tried → a.kept ≡ b.kept → a.dropped ≡ b.dropped → a ≡ b
same-counts a b e f g =
    ap₂ (λ (x y : ℕ). record { tried = x; kept = y; dropped = a.dropped }) e f
    ∙ ap (λ (z : ℕ). record { tried = b.tried; kept = b.kept; dropped = z }) g

same-tally : (a b : Tally) → a.tried ≡ b.tried → a.dropped ≡ b.dropped → a ≡ b
same-tally a b e f = ap₂ tally e f

pub said_same : (a b : SearchAnswer) → said_search (Ok a) ≡ said_search (Ok b) → a ≡ b
said_same (Found n c) (Found n' c') e =
    let v = values e in
    let p : n.code ≡ n'.code = cc v in
    let q : n.left.0 ≡ n'.left.0 = cc v in
    let r : n.right.0 ≡ n'.right.0 = cc v in
    let s : n.size ≡ n'.size = cc v in
    ap (λ (z : ℕ). Found (node z n.left.0 n.right.0 n.size) c) p
    ∙ ap (λ (z : ℕ). Found (node n'.code z n.right.0 n.size) c) q
    ∙ ap (λ (z : ℕ). Found (node n'.code n'.left.0 z n.size) c) r
    ∙ ap (λ (z : ℕ). Found (node n'.code n'.left.0 n'.right.0 z) c) s
    ∙ ap (Found n') (same-counts c c' (cc v) (cc v) (cc v))
said_same (Found n c) (None c') e = let v = values e in let z : ◌≡◌ {A = ℕ} 0 1 = cc v in absurd (omega arith)
said_same (Found n c) (Full s' c') e = let v = values e in let z : ◌≡◌ {A = ℕ} 0 1 = cc v in absurd (omega arith)
said_same (None c) (Found n' c') e = let v = values e in let z : ◌≡◌ {A = ℕ} 0 1 = cc v in absurd (omega arith)
said_same (None c) (None c') e = let v = values e in ap None (same-counts c c' (cc v) (cc v) (cc v))
said_same (None c) (Full s' c') e = let v = values e in let z : ◌≡◌ {A = ℕ} 0 1 = cc v in absurd (omega arith)
said_same (Full s c) (Found n' c') e = let v = values e in let z : ◌≡◌ {A = ℕ} 0 1 = cc v in absurd (omega arith)
said_same (Full s c) (None c') e = let v = values e in let z : ◌≡◌ {A = ℕ} 0 1 = cc v in absurd (omega arith)
said_same (Full s c) (Full s' c') e =
    let v = values e in
    ap (λ (z : ℕ). Full z c) (let x : s ≡ s' = cc v in x) ∙ ap (Full s') (same-counts c c' (cc v) (cc v) (cc v))

-- an answer that is no refusal has the number 0
pub answered_zero : (a : SearchAnswer) → (said_search (Ok a)).number ≡ 0
answered_zero (Found n c) = refl
answered_zero (None c) = refl
answered_zero (Full s c) = refl

-- two results by one walk and with one number are equal
same : (i j : Input) (t : Cols) (a b : Answer) (u v : Cols) → search i ≡ search j → (said_search a).number ≡ (said_search b).number → Searched i t a u → Searched j t b v
    → (a ≡ b) × (u ≡ v)
same i j t (Ok a) (Ok b) u v e n p q = (
  ap Ok (said_same a b (p.outcome.0 ∙ ap walk_said e ∙ sym q.outcome.0)),
  p.outcome.1 ∙ ap (λ (st : WalkState (List ℕ)). table_over (kept st) t) e ∙ sym q.outcome.1,
)
same i j t (Ok a) (Err k) u v e n p q = absurd (omega (arith, answered_zero a, n, q.outcome.0))
same i j t (Err k) (Ok b) u v e n p q = absurd (omega (arith, answered_zero b, n, p.outcome.0))
same i j t (Err k) (Err l) u v e n p q = (ap Err (refusal-one k l n), p.outcome.1 ∙ sym q.outcome.1)

-- (a) of document 01's "How tight the statements have to be"
pub search-unique : SearchUnique
search-unique i t a b u v p q = same i i t a b u v refl (decided-unique (search_rows i t) _ _ p.decided q.decided) p q

pub search-same-where-read : SearchSameWhereRead
search-same-where-read i j s x y t a b u v p q =
    same i j t a b u v (walk_same i j s) (decided-unique (search_rows j t) _ _ (decided-same i j s x y t _ p.decided) q.decided) p q

-- ---- demand 3: the walk's end is the answer's

pub found-end : (i : Input) (n : Node) (c : Counts) (e : Ending) (k : Table) (m : Tally) → search i ≡ ended e k m → found_said (node_of n) c ≡ end_said e (counts k m)
    → (search i ≡ ended (found (node_of n)) k (tally_of c)) × (length k ≡ c.kept)
found-end i n c (found root) k m w q =
    let v = values q in
    let x = tally_of c in
    let a : (node_of n).code ≡ root.code = cc v in
    let b : (node_of n).left ≡ root.left = cc v in
    let r : (node_of n).right ≡ root.right = cc v in
    let d : (node_of n).size ≡ root.size = cc v in
    let f = same-tally (tally_of c) m (cc v) (cc v) in
    let g : c.kept ≡ length k = cc v in (
      w ∙ sym (ap (λ (z : ℕ). ended (found (record { code = z; left = n.left.0; right = n.right.0; size = n.size })) k x) a
          ∙ ap (λ (z : ℕ). ended (found (record { code = root.code; left = z; right = n.right.0; size = n.size })) k x) b
          ∙ ap (λ (z : ℕ). ended (found (record { code = root.code; left = root.left; right = z; size = n.size })) k x) r
          ∙ ap (λ (z : ℕ). ended (found (record { code = root.code; left = root.left; right = root.right; size = z })) k x) d
          ∙ ap (ended (found root) k) f),
      sym g,
    )
found-end i n c (full s) k m w q = let v = values q in let z : ◌≡◌ {A = ℕ} 0 1 = cc v in absurd (omega arith)
found-end i n c none k m w q = let v = values q in let z : ◌≡◌ {A = ℕ} 0 1 = cc v in absurd (omega arith)

pub none_end : (i : Input) (c : Counts) (e : Ending) (k : Table) (m : Tally) → search i ≡ ended e k m → none_said c ≡ end_said e (counts k m)
    → (search i ≡ ended none k (tally_of c)) × (length k ≡ c.kept)
none_end i c (found root) k m w q = let v = values q in let z : ◌≡◌ {A = ℕ} 0 1 = cc v in absurd (omega arith)
none_end i c (full s) k m w q = let v = values q in let z : ◌≡◌ {A = ℕ} 0 1 = cc v in absurd (omega arith)
none_end i c none k m w q =
    let v = values q in
    let f = same-tally (tally_of c) m (cc v) (cc v) in
    let g : c.kept ≡ length k = cc v in
    (w ∙ ap (ended none k) (sym f), sym g)

pub full-end : (i : Input) (s : ℕ) (c : Counts) (e : Ending) (k : Table) (m : Tally) → search i ≡ ended e k m → full_said s c ≡ end_said e (counts k m)
    → (search i ≡ ended (full s) k (tally_of c)) × (length k ≡ c.kept)
full-end i s c (found root) k m w q = let v = values q in let z : ◌≡◌ {A = ℕ} 0 1 = cc v in absurd (omega arith)
full-end i s c (full s') k m w q =
    let v = values q in
    let d : s ≡ s' = cc v in
    let f = same-tally (tally_of c) m (cc v) (cc v) in
    let g : c.kept ≡ length k = cc v in
    (w ∙ ap (λ (z : ℕ). ended (full z) k m) (sym d) ∙ ap (ended (full s) k) (sym f), sym g)
full-end i s c none k m w q = let v = values q in let z : ◌≡◌ {A = ℕ} 0 1 = cc v in absurd (omega arith)

holding : (i : Input) (t u : Cols) (n : ℕ) (e : Ending) (k : Table) (m : Tally) → Passes i → search i ≡ ended e k m → length k ≡ n → u ≡ table_over (kept (search i)) t
    → Holding i t u n k
holding i t u n e k m ok w l h = record {
  as_many = l;
  holds = h ∙ ap (λ (st : WalkState (List ℕ)). table_over (kept st) t) w;
  formulas = walk.kept-distinct i ok e k m w;
}

pub search-found-smallest : SearchFoundSmallest
search-found-smallest i t u root c w =
    let (e, k, m, q) = walk.walk_ends i in
    let ok = search-passes i t w.decided in
    let (p, l) = found-end i root c e k m q (w.outcome.0 ∙ ap walk_said q) in
    (k, holding i t u c.kept (found (node_of root)) k (tally_of c) ok p l w.outcome.1, walk.found-smallest i ok (node_of root) k (tally_of c) p)

pub search-none-means-none : SearchNoneMeansNone
search-none-means-none i t u c w =
    let (e, k, m, q) = walk.walk_ends i in
    let ok = search-passes i t w.decided in
    let (p, l) = none_end i c e k m q (w.outcome.0 ∙ ap walk_said q) in
    (k, holding i t u c.kept none k (tally_of c) ok p l w.outcome.1, walk.none-means-none i ok k (tally_of c) p)

pub search-full-needs-room : SearchFullNeedsRoom
search-full-needs-room i t u s c w =
    let (e, k, m, q) = walk.walk_ends i in
    let ok = search-passes i t w.decided in
    let (p, l) = full-end i s c e k m q (w.outcome.0 ∙ ap walk_said q) in
    (k, holding i t u c.kept (full s) k (tally_of c) ok p l w.outcome.1, walk.full-needs-room i ok s k (tally_of c) p)

pub search-larger-same : SearchLargerSame
search-larger-same i j wide t u root c w t' (Err k) v z e = absurd (omega (arith, z.outcome.0, e))
search-larger-same i j wide t u root c w t' (Ok a) v z e =
    let (d, k, m, q) = walk.walk_ends i in
    let (p, l) = found-end i root c d k m q (w.outcome.0 ∙ ap walk_said q) in
    let later = found-stays i j wide (node_of root) k (tally_of c) p in
    let (r, h) = z.outcome in
    let passes = search-passes j t' (subst (Decided (search_rows j t')) e z.decided) in (
      ap Ok (said_same a (Found root c) (r ∙ ap walk_said later ∙ ap (found_said (node_of root)) (same-counts (counts k (tally_of c)) c refl l refl))),
      (
        k,
        holding i t u c.kept (found (node_of root)) k (tally_of c) (search-passes i t w.decided) p l w.outcome.1,
        holding j t' v c.kept (found (node_of root)) k (tally_of c) passes later l h,
      ),
    )

-- ---- the counts

pub search-tried-is-position : SearchTriedIsPosition
search-tried-is-position i t u (Ok (Found root c)) w =
    let (e, k, m, q) = walk.walk_ends i in
    let (p, l) = found-end i root c e k m q (w.outcome.0 ∙ ap walk_said q) in
    let ok = search-passes i t w.decided in
    (k, holding i t u c.kept (found (node_of root)) k (tally_of c) ok p l w.outcome.1, walk-tried i (found (node_of root)) k (tally_of c) p)
search-tried-is-position i t u (Ok (None c)) w =
    let (e, k, m, q) = walk.walk_ends i in
    let (p, l) = none_end i c e k m q (w.outcome.0 ∙ ap walk_said q) in
    (k, holding i t u c.kept none k (tally_of c) (search-passes i t w.decided) p l w.outcome.1, walk-tried i none k (tally_of c) p)
search-tried-is-position i t u (Ok (Full s c)) w =
    let (e, k, m, q) = walk.walk_ends i in
    let (p, l) = full-end i s c e k m q (w.outcome.0 ∙ ap walk_said q) in
    (k, holding i t u c.kept (full s) k (tally_of c) (search-passes i t w.decided) p l w.outcome.1, walk-tried i (full s) k (tally_of c) p)
search-tried-is-position i t u (Err refusal) w = tt

pub search-tried-adds-up : SearchTriedAddsUp
search-tried-adds-up i t u (Ok (Found root c)) w =
    let (e, k, m, q) = walk.walk_ends i in
    let (p, l) = found-end i root c e k m q (w.outcome.0 ∙ ap walk_said q) in
    omega (arith, walk-adds i (found (node_of root)) k (tally_of c) p)
search-tried-adds-up i t u (Ok (None c)) w =
    let (e, k, m, q) = walk.walk_ends i in
    let (p, l) = none_end i c e k m q (w.outcome.0 ∙ ap walk_said q) in
    omega (arith, walk-adds i none k (tally_of c) p)
search-tried-adds-up i t u (Ok (Full s c)) w =
    let (e, k, m, q) = walk.walk_ends i in
    let (p, l) = full-end i s c e k m q (w.outcome.0 ∙ ap walk_said q) in
    omega (arith, walk-adds i (full s) k (tally_of c) p)
search-tried-adds-up i t u (Err refusal) w = tt
