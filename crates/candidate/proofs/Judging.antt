-- One candidate: the table's tests are the walk's, so it comes to what the walk makes of it.
-- Assumes nothing.
use mathlib.Core.Path.{◌≡◌, sym, ap, ◌∙◌, subst}
use mathlib.Core.Logic.{◌⊎◌}
use mathlib.Core.Bool.{Bool, true, false, true≢false}
use mathlib.Core.List.{List}
use Prim.Native.Nat.{ℕ, ◌≤◌, ◌<◌}
use native.Mathlib.Omega.{arith}
use lib.ListN.{length, take}
use borrow.Author.Tests.{le-leb, lt-leb}
use Rattle.rules.specs.Limits.{most_room}
use Rattle.rules.specs.declared.kinds.Place.{Place}
use Rattle.formula.specs.declared.kinds.Node.{Node}
use Rattle.formula.specs.Kinds.{node_of}
use Rattle.formula.specs.Nodes as nodes
use Rattle.walk.specs.Walk.{Candidate, judge, consider}
use Rattle.walk.specs.Walk as walk
use Rattle.walk.specs.Input.{Input, separating, offer}
use Rattle.walk.specs.Kept.{Table}
use Rattle.std.specs.Prelude.{Option, Some, None, is_some}
use Rattle.table.specs.Slices.{Cols}
use Rattle.rows.specs.Rows.{RowsAnswer}
use Rattle.rows.specs.Formulas.{Fine, Stored}
use Rattle.rows.proofs.Matrices.{rows_made, made-fine}
use Rattle.table.specs.Acceptance.{agreeing}
use Rattle.comparison.specs.Compare.{KnownAnswer}
use Rattle.table.specs.Keep.{KeepAnswer}
use Rattle.table.specs.Formulas.{RoomAt}
use Rattle.comparison.specs.Promises.{is_at}
use Rattle.rows.specs.Formulas as matrices
use Rattle.table.proofs.Acceptance.{agrees-separating}
use Rattle.comparison.proofs.Duplicates.{known-is-known}
use Rattle.table.proofs.Kept.{held-is-stored, keep-grows}
use Rattle.counting.specs.declared.Fate.TheVariants.{Found, Dropped, Full, Kept}
use Rattle.candidate.specs.Judge.{Over, Does}
use Rattle.candidate.specs.Inner.{NoPlace}

-- ---- what the table's functions answered

pub record Written (r m : ℕ) (masks words matrices : List ℕ) (code left right : ℕ) (old rows : List ℕ) : Type 0 where
  pub filled : Bool
  pub answer : RowsAnswer r m masks words matrices code left right old rows filled

pub record Keeps (r : ℕ) (rows : List ℕ) (place : ℕ) (node : nodes.Node) (t t' : Cols) : Type 0 where
  pub done : Bool
  pub answer : KeepAnswer r rows place node t t' done

module _ {r : ℕ} {matrices rows : List ℕ} {kept : ℕ} where
  pub repeats : (known : Option Place) → is_some known ≡ true → KnownAnswer r matrices rows kept known → (p : Place) × KnownAnswer r matrices rows kept (Some p)
  repeats (Some p) e w = (p, w)
  repeats None e w = absurd (true≢false (sym e))

  pub fresh : (known : Option Place) → is_some known ≡ false → KnownAnswer r matrices rows kept known → KnownAnswer r matrices rows kept None
  fresh (Some p) e w = absurd (true≢false e)
  fresh None e w = w

pub out-of-room : (room count : ℕ) (b : Bool) → b ≡ true → NoPlace room count b → (room ≤ count) ⊎ (most_room ≤ count)
out-of-room room count true e w = w
out-of-room room count false e w = absurd (true≢false (sym e))

pub in-room : (room count : ℕ) (b : Bool) → b ≡ false → NoPlace room count b → (count < room) × (count < most_room)
in-room room count true e w = absurd (true≢false e)
in-room room count false e w = w

-- ---- the program's tests, over a table that the slices hold

module _ {i : Input} {masks old : List ℕ} {node : Node} {count : ℕ} {t₀ t : Cols} {k : Table} {x : Candidate (List ℕ)} (o : Over i masks node count old t₀ t k x)
    {rows : List ℕ}
    (written : Written i.recording.sessions i.recording.propositions masks i.recording.words t.matrices node.code node.left.0 node.right.0 old rows) where
  stored : Stored i k t.matrices
  stored = held-is-stored i k t₀ t o.holds

  made-rows : (length rows ≡ length old) × (take i.recording.sessions rows ≡ matrices.made i k o.posed.makes)
  made-rows =
      let w = rows_made i o.passes k masks t.matrices old rows o.masks-are stored o.rows-there node.code node.left.0 node.right.0 o.posed.makes
      written.filled written.answer in
      (w.1, w.2)

  rows_long : i.recording.sessions ≤ length rows
  rows_long = omega (arith, made-rows.0, o.rows-there)

  rows_are : take i.recording.sessions rows ≡ x.matrix
  rows_are = made-rows.1 ∙ o.posed.matrix-is

  fine : Fine i x.matrix
  fine = subst (Fine i) o.posed.matrix-is
      (made-fine i o.passes k i.recording.propositions (length k) node.code node.left.0 node.right.0 o.posed.makes (omega arith))

  separates : (v : Bool) → v ≡ agreeing i.recording.sessions i.recording.marks rows → separating i x.matrix ≡ v
  separates v e = ap (separating i) (sym rows_are) ∙ sym (agrees-separating i o.passes rows rows_long) ∙ sym e

  pub does-found : true ≡ agreeing i.recording.sessions i.recording.marks rows → Does i node t₀ t k x Found
  unfolding consider judge
  does-found e = record { is = λ n. rw (separates true e); holds = λ n. o.holds }

  module _ (e : false ≡ agreeing i.recording.sessions i.recording.marks rows) where
    knows : (a : Option Place) → KnownAnswer i.recording.sessions t.matrices rows count a → walk.known (offer i) x.matrix k ≡ is_at a
    knows a v =
        ap (λ (y : List ℕ). walk.known (offer i) y k) (sym rows_are)
        ∙ known-is-known i o.passes k t.matrices rows stored (omega (arith, o.counted, o.few)) rows_long a
        (subst (λ (z : ℕ). KnownAnswer i.recording.sessions t.matrices rows z a) o.counted v)

    pub does-dropped : ((p : Place) × KnownAnswer i.recording.sessions t.matrices rows count (Some p)) → Does i node t₀ t k x Dropped
    unfolding consider judge
    does-dropped v = record { is = λ n. rw (separates false e, knows (Some v.0) v.1); holds = λ n. o.holds }

    module _ (v : KnownAnswer i.recording.sessions t.matrices rows count None) where
      pub does-full : i.room ≤ count → Does i node t₀ t k x Full
      unfolding consider judge
      does-full l = record {
        is = λ n. rw (separates false e, knows None v, le-leb i.room (length k) (omega (arith, o.counted)));
        holds = λ n. o.holds;
      }

      pub does-kept : {t' : Cols} → count < i.room → Keeps i.recording.sessions rows count (node_of node) t t' → Does i node t₀ t' k x Kept
      unfolding consider judge
      does-kept {t'} l z =
          let room = subst (λ (q : ℕ). RoomAt i q t₀) o.counted (o.room l) in
          let a = subst (λ (q : ℕ). KeepAnswer i.recording.sessions rows q (node_of node) t t' z.done) o.counted z.answer in
          let b = subst (λ (q : nodes.Node). KeepAnswer i.recording.sessions rows (length k) q t t' z.done) (sym o.posed.node-is) a in
          record {
            is = λ n. rw (separates false e, knows None v, lt-leb i.room (length k) (omega (arith, o.counted)));
            holds = λ n. (keep-grows i o.passes k t₀ t t' o.holds room rows x rows_long rows_are fine z.done b).1;
          }
