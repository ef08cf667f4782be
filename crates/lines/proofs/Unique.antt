-- Any two results that the contract allows are equal, and the lines are within the text.
-- Assumes nothing.
use mathlib.Core.Path.{◌≡◌, sym, ap, ◌∙◌, subst}
use mathlib.Core.Logic.{inl, inr}
use mathlib.Core.List.{List, ◌++◌}
use Prim.Native.Nat.{ℕ, ◌≤◌}
use native.Mathlib.Nat.{lt_of_not-le}
use native.Mathlib.Decide.{dec_le}
use native.Mathlib.Omega.{arith}
use lib.ListN.{length, drop, length-append}
use Rattle.rules.specs.Limits.{most_room, Outside}
use Rattle.file.specs.Format.{Parts}
use Rattle.reading.specs.Reading.{Got, got, bad}
use Rattle.file.specs.Offence.{whole_file}
use Rattle.rules.specs.Answers.{over}
use Rattle.formula.specs.Formula.{Formula}
use Rattle.walk.specs.Walk.{Ending, found, none, full, Tally, ended}
use Rattle.walk.specs.Kept.{Table, table_nodes}
use Rattle.text.specs.Text.{text}
use Rattle.formula.proofs.Spelled.{one-formula}
use Rattle.line.specs.Line.{found_line}
use Rattle.writing.specs.Writing.{newline}
use Rattle.lines.specs.Bench.{EndSays, GoodSays, Says, LinesOf}

-- one end has its lines
end-one : (names : List (List ℕ)) (e : Ending) (k : Table) (n : Tally) (x y : List ℕ) → EndSays names e k n x → EndSays names e k n y → x ≡ y
end-one names (found root) k n x y a b =
    a.2 ∙ ap (λ (t : Formula). found_line root.size n.tried (length k) n.dropped ++ (text names t ++ newline)) (one-formula (table_nodes k) root a.0 b.0 a.1
    b.1) ∙ sym b.2
end-one names none k n x y a b = a ∙ sym b
end-one names (full s) k n x y a b = a ∙ sym b

-- a walk has one end
same_end : (names : List (List ℕ)) (e f : Ending) (k l : Table) (n m : Tally) (x y : List ℕ) → ended e k n ≡ ended f l m → EndSays names e k n x → EndSays names f l m y → x ≡ y
same_end names e f k l n m x y q a b =
    let h : e ≡ f = cc in
    let i : k ≡ l = cc in
    let j : n ≡ m = cc in
    end-one names f l m x y
    (subst (λ (d : Tally). EndSays names f l d x) j (subst (λ (t : Table). EndSays names f t n x) i (subst (λ (d : Ending). EndSays names d k n x) h a))) b

module _ (p : Parts) (room : ℕ) (x y : List ℕ) (a : GoodSays p room x) (b : GoodSays p room y) where
  beyond : Outside 1 most_room room → x ≡ y
  beyond o = a.outside o ∙ sym (b.outside o)

  good-one : x ≡ y
  good-one =
      elim (dec_le 1 room) [
        | yes h ↦ elim (dec_le room most_room) [
          | yes g ↦
              let (e, k, n, s, v) = a.searched h g in
              let (f, l, m, t, w) = b.searched h g in
              same_end p.names e f k l n m x y (sym s ∙ t) v w
          | no g ↦ beyond (inr (lt_of_not-le g))
        ]
        | no h ↦ beyond (inl (lt_of_not-le h))
      ]

pub says-one : (g : Got Parts) (room : ℕ) (x y : List ℕ) → Says g room x → Says g room y → x ≡ y
says-one (bad o) room x y a b = a ∙ sym b
says-one (got p next) room x y a b = good-one p room x y a b

-- what is answered, and what the text holds
pub lines-unique : (file : List ℕ) (room : ℕ) (old : List ℕ) (r s : ℕ) (new later : List ℕ) → LinesOf file room old r new → LinesOf file room old s later
    → (r ≡ s) × (new ≡ later)
lines-unique file room old r s new later a b =
    let e = says-one (whole_file file) room a.lines b.lines a.says b.says in
    (a.long ∙ ap length e ∙ sym b.long, a.holds ∙ ap (λ (x : List ℕ). over x old) e ∙ sym b.holds)

pub lines-in : {file old new : List ℕ} {room r : ℕ} → LinesOf file room old r new → r ≤ length new
lines-in {file} {old} w = omega (arith, w.long, ap length w.holds, length-append w.lines (drop (length w.lines) old))
