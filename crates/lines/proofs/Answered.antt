-- From a search's answer to the lines that are written for it.
-- Assumes nothing.
use mathlib.Core.Path.{◌≡◌, refl, sym, ap, ◌∙◌, subst}
use mathlib.Core.List.{List, ◌++◌, map}
use Prim.Native.Nat.{ℕ, ◌≤◌}
use native.Mathlib.Omega.{arith}
use lib.ListN.{length, take, drop, length-append, length-map}
use lib.Seq.{length-take-le}
use Rattle.file.specs.Format.{Parts, Good}
use Rattle.std.specs.Prelude.{Ok, Err}
use Rattle.rules.specs.declared.refusal.Refusal.{Refusal}
use Rattle.rules.specs.Refusals.{refusal_number}
use Rattle.rules.specs.Answers.{over}
use Rattle.formula.specs.Nodes.{Spells, codes}
use Rattle.formula.specs.Nodes as walk
use Rattle.walk.specs.Walk.{found}
use Rattle.walk.specs.Input.{Input}
use Rattle.walk.specs.Kept as tables
use Rattle.formula.specs.declared.kinds.Node.{Node}
use Rattle.formula.specs.Kinds.{node_of, nodes}
use Rattle.formula.specs.Rule.{Broken}
use Rattle.text.specs.Text.{text}
use Rattle.text.proofs.Promises.{text_in}
use Rattle.writing.specs.Writing.{Wrote, newline}
use Rattle.counting.specs.declared.Counts.{Counts}
use Rattle.search.specs.declared.SearchAnswer.TheVariants.{Found, None, Full}
use Rattle.search.specs.Table.{Cols}
use Rattle.search.specs.Search.{Answer, tally_of, Searched}
use Rattle.line.specs.Line.{found_line, none_line, full_line, refused_line}
use Rattle.lines.specs.Bench.{file_input}
use Rattle.lines.specs.Inner.{Showable, ShownBy, Given, LinesWritten}
use Rattle.line.proofs.Digits.{found-short, full-short, none-short, refused-short}
use Rattle.lines.proofs.Kept.{columns}
use Rattle.lines.proofs.Shown.{front}
use Rattle.lines.proofs.Searching.{Roomy, FoundAt, found_at, none-says, full-says, refused_says}

-- a part of a lent list that begins with new contents
pub part_in : (new old list : List ℕ) (n : ℕ) → list ≡ over new old → n ≡ length new → n ≤ length list
part_in new old list n e h = omega (arith, ap length e, length-append new (drop (length new) old))

pub part-is : (new old list : List ℕ) (n : ℕ) → list ≡ over new old → n ≡ length new → take n list ≡ new
part-is new old list n e h = ap (take n) e ∙ front new old n h

same-columns : {a b c d a' b' c' d' : List ℕ} → a ≡ a' → b ≡ b' → c ≡ c' → d ≡ d' → nodes a b c d ≡ nodes a' b' c' d'
same-columns e f g h = rw e (rw f (rw g (rw h refl)))

-- the columns of a table in which a formula was found
module _ {p : Parts} {g : Good p} {room : ℕ} {t : Cols} {roomy : Roomy t} {u : Cols} {root : Node} {c : Counts} (this : FoundAt p g room t roomy u root c) where
  abbrev n : ℕ
  n = c.kept

  long : (f : walk.Node → ℕ) → n ≡ length (map (λ c. f c.node) this.table)
  long f = sym (length-map this.table (λ c. f c.node) ∙ this.as_many)

  pub codes-in : n ≤ length u.codes
  codes-in = part_in (map (λ c. c.node.code) this.table) t.codes u.codes n (ap (λ (x : Cols). x.codes) this.holds) (long (λ x. x.code))

  pub codes-part : n ≡ length (take n u.codes)
  codes-part = sym (length-take-le n u.codes codes-in)

  pub lefts_in : n ≤ length u.lefts
  lefts_in = part_in (map (λ c. c.node.left) this.table) t.lefts u.lefts n (ap (λ (x : Cols). x.lefts) this.holds) (long (λ x. x.left))

  pub lefts-part : n ≡ length (take n u.lefts)
  lefts-part = sym (length-take-le n u.lefts lefts_in)

  pub rights-in : n ≤ length u.rights
  rights-in = part_in (map (λ c. c.node.right) this.table) t.rights u.rights n (ap (λ (x : Cols). x.rights) this.holds) (long (λ x. x.right))

  pub rights-part : n ≡ length (take n u.rights)
  rights-part = sym (length-take-le n u.rights rights-in)

  pub sizes-in : n ≤ length u.sizes
  sizes-in = part_in (map (λ c. c.node.size) this.table) t.sizes u.sizes n (ap (λ (x : Cols). x.sizes) this.holds) (long (λ x. x.size))

  pub sizes-part : n ≡ length (take n u.sizes)
  sizes-part = sym (length-take-le n u.sizes sizes-in)

  abbrev pub lent : List walk.Node
  lent = nodes (take n u.codes) (take n u.lefts) (take n u.rights) (take n u.sizes)

  pub kept-nodes : lent ≡ tables.table_nodes this.table
  kept-nodes =
      let k = this.table in
      let b = part-is (map (λ c. c.node.code) k) t.codes u.codes n (ap (λ (x : Cols). x.codes) this.holds) (long (λ x. x.code)) in
      let c = part-is (map (λ c. c.node.left) k) t.lefts u.lefts n (ap (λ (x : Cols). x.lefts) this.holds) (long (λ x. x.left)) in
      let d = part-is (map (λ c. c.node.right) k) t.rights u.rights n (ap (λ (x : Cols). x.rights) this.holds) (long (λ x. x.right)) in
      let f = part-is (map (λ c. c.node.size) k) t.sizes u.sizes n (ap (λ (x : Cols). x.sizes) this.holds) (long (λ x. x.size)) in
      same-columns b c d f
      ∙ columns k

  pub nodes-many : length lent ≡ n
  nodes-many = ap length kept-nodes ∙ length-map this.table (λ c. c.node) ∙ this.as_many

module _ (file : List ℕ) (i : Input) (p : Parts) (g : Given file i p) (t : Cols) (roomy : Roomy t) (u : Cols) (a : Answer) (w : Searched i t a u) where
  moved : (b : Answer) → a ≡ b → Searched (file_input p i.room) t b u
  moved b e = subst (λ (c : Answer). Searched (file_input p i.room) t c u) e (subst (λ (j : Input). Searched j t a u) g.same w)

  module _ {root : Node} {c : Counts} (e : a ≡ Ok (Found root c)) where
    pub this : FoundAt p g.good i.room t roomy u root c
    this = found_at p g.good i.room t roomy u root c (moved (Ok (Found root c)) e)

    unbroken : Broken (length p.names) (lent this) (node_of root) → ⊥
    unbroken = subst (λ (k : List walk.Node). Broken (length p.names) k (node_of root) → ⊥) (sym (kept-nodes this)) this.whole

    pub showable : Showable file (lent this) (node_of root)
    showable = record {
      names = p.names;
      next = g.next;
      good = g.front;
      whole = unbroken;
    }

    pub as_many : length (take c.kept u.codes) ≡ length (lent this)
    as_many = sym (codes-part this) ∙ sym (nodes-many this)

    pub found-returns : {old new : List ℕ} {r : ℕ} → 512 ≤ length old → ShownBy file (lent this) (node_of root) c.tried c.dropped old r new → LinesWritten p i.room old r new
    found-returns {old} {new} {r} room shown =
        let (f, s, v) = shown p.names g.next g.front in
        let lines = found_line root.size c.tried (length (lent this)) c.dropped ++ (text p.names f ++ newline) in
        let b = found-short root.size c.tried (length (lent this)) c.dropped in
        let d = text_in file (lent this) (node_of root) p.names g.next g.front unbroken f s in
        record {
          lines = lines;
          says = record {
            searched = λ x y. (
              found (node_of root),
              this.table,
              tally_of c,
              this.is,
              (
                f,
                subst (λ (k : List walk.Node). Spells codes k (node_of root) f) (kept-nodes this) s,
                ap (λ (k : ℕ). found_line root.size c.tried k c.dropped ++ (text p.names f ++ newline)) ((nodes-many this) ∙ sym this.as_many),
              ),
            );
            outside = λ o. absurd (this.inside o);
          };
          wrote = v;
          fits = omega (
            arith,
            length-append (found_line root.size c.tried (length (lent this)) c.dropped) (text p.names f ++ newline),
            length-append (text
                p.names f) newline,
          );
        }

  pub none-returns : {n : Counts} → a ≡ Ok (None n) → {old new : List ℕ} {r : ℕ} → 512 ≤ length old → Wrote old 0 (none_line n.tried n.kept n.dropped) new r → LinesWritten p
      i.room old r new
  none-returns {n} e h v = record {
    lines = none_line n.tried n.kept n.dropped;
    says = none-says p g.good i.room t roomy u n (moved (Ok (None n)) e);
    wrote = v;
    fits = omega (arith, none-short n.tried n.kept n.dropped);
  }

  pub full-returns : {size : ℕ} {n : Counts} → a ≡ Ok (Full size n) → {old new : List ℕ} {r : ℕ} → 512 ≤ length old → Wrote old 0 (full_line size n.tried n.kept
      n.dropped) new r → LinesWritten p i.room old r new
  full-returns {size} {n} e h v = record {
    lines = full_line size n.tried n.kept n.dropped;
    says = full-says p g.good i.room t roomy u size n (moved (Ok (Full size n)) e);
    wrote = v;
    fits = omega (arith, full-short size n.tried n.kept n.dropped);
  }

  pub refused-returns : {n : Refusal} → a ≡ Err n → {old new : List ℕ} {r : ℕ} → 512 ≤ length old
      → Wrote old 0 (refused_line (refusal_number n)) new r → LinesWritten p i.room old r new
  refused-returns {n} e h v = record {
    lines = refused_line (refusal_number n);
    says = refused_says p g.good i.room t roomy u n (moved (Err n) e);
    wrote = v;
    fits = omega (arith, refused-short (refusal_number n));
  }
