-- The reader from tokens to the tree finds every expression's tree, and only that.
-- Assumes nothing.
use mathlib.Core.Path.{◌≡◌, refl, sym, ap, ◌∙◌, subst}
use mathlib.Core.Bool.{Bool, true, false, cond}
use mathlib.Core.List.{List, [], ◌∷◌, ◌++◌, append_assoc, append-nil}
use Prim.Native.Nat.{ℕ, zero, suc, ◌+◌, ◌*◌, ◌≤◌, ◌<◌}
use native.Mathlib.Omega.{arith}
use borrow.Author.Tests.{le-leb, lt-leb, leb-true, leb-false}
use lib.Dec.{leb}
use lib.ListN.{length, length-append}
use Rattle.sequence.specs.Operators.{Binary}
use Rattle.formula.specs.Formula.{leaf, unary, binary}
use Rattle.grammar.specs.Token.{Typed, Token, pre, mid, atom, opens, closes}
use Rattle.grammar.specs.Grammar.{level, left_level, right_level, operand, Derives, alone, prefix, bracket, between, looser}
use Rattle.grammar.specs.Reader.{Read, got, none, read_then, closed, read_infix, read_prefix, read_more, fuel, read_tokens}
use Rattle.grammar.proofs.Levels.{sides, gives-way, takes-over, lower}

-- ---- the next infix operator, if one comes next

Next : (Binary → Type 0) → List Token → Type 0
Next P [] = Unit
Next P (pre u ∷ ts) = Unit
Next P (mid o ∷ ts) = P o
Next P (atom l ∷ ts) = Unit
Next P (opens ∷ ts) = Unit
Next P (closes ∷ ts) = Unit

next_map : {P Q : Binary → Type 0} → ((o : Binary) → P o → Q o) → (ts : List Token) → Next P ts → Next Q ts
unfolding Next
next_map f [] h = tt
next_map f (pre u ∷ ts) h = tt
next_map f (mid o ∷ ts) h = f o h
next_map f (atom l ∷ ts) h = tt
next_map f (opens ∷ ts) h = tt
next_map f (closes ∷ ts) h = tt

-- it takes an expression of level n as its left side
abbrev Calm : ℕ → List Token → Type 0
Calm n ts = Next (λ o. left_level o ≤ n) ts

-- it is below level n
abbrev Quiet : ℕ → List Token → Type 0
Quiet n ts = Next (λ o. level o < n) ts

stop : (n : ℕ) (t : Typed) (ts : List Token) → Quiet n ts → (k : ℕ) → 1 ≤ k → read_more k n t ts ≡ got t ts
unfolding Next read_infix
stop n t ts q zero h = absurd (omega arith)
stop n t [] q (suc k) h = refl
stop n t (pre u ∷ ts) q (suc k) h = refl
stop n t (mid o ∷ ts) q (suc k) h = rw (lt-leb n (level o) q)
stop n t (atom l ∷ ts) q (suc k) h = refl
stop n t (opens ∷ ts) q (suc k) h = refl
stop n t (closes ∷ ts) q (suc k) h = refl

-- ---- every expression is read

-- with fuel enough, an operand is read whole, and an expression goes on as `read_more` does from its tree
abbrev ReadsOperand : List Token → Typed → Type 0
ReadsOperand ts t = (rest : List Token) (k : ℕ) → 2 * length ts ≤ k → read_prefix k (ts ++ rest) ≡ got t rest

abbrev ReadsInfix : ℕ → List Token → Typed → Type 0
ReadsInfix n ts t =
    (m : ℕ) → m ≤ n → (rest : List Token) → Calm n rest
    → (k : ℕ) → 1 ≤ k → (v : Read) → ((j : ℕ) → k ≤ j → read_more j m t rest ≡ v)
    → (j : ℕ) → k + 2 * length ts ≤ j → read_infix j m (ts ++ rest) ≡ v

record Reads (n : ℕ) (ts : List Token) (t : Typed) : Type 0 where
  as-operand : operand ≤ n → ReadsOperand ts t
  as-infix : ReadsInfix n ts t

from-operand : {n : ℕ} (ts : List Token) (t : Typed) → 1 ≤ length ts → ReadsOperand ts t → Reads n ts t
unfolding read_infix
from-operand {n} ts t some r = record { as-operand = λ h. r; as-infix = go }
  where
    go : ReadsInfix n ts t
    go m h rest q k pos v more zero l = absurd (omega arith)
    go m h rest q k pos v more (suc j) l = rw (r rest j (omega arith)) (more j (omega arith))

-- an expression with nothing behind it that goes on with it
whole : {n : ℕ} {ts : List Token} {t : Typed} → Reads n ts t → (rest : List Token) → Calm n rest → Quiet n rest → (j : ℕ) → 1 + 2 * length ts ≤ j → read_infix j n (ts ++ rest) ≡ got t rest
whole {n} {ts} {t} r rest c q j h = r.as-infix n (omega arith) rest c 1 (omega arith) (got t rest) (λ i l. stop n t rest q i l) j h

reads : {n : ℕ} {ts : List Token} {t : Typed} → Derives n ts t → Reads n ts t
unfolding Next read_infix
reads (alone l) = from-operand (atom l ∷ []) (leaf l) (omega arith) go
  where
    go : ReadsOperand (atom l ∷ []) (leaf l)
    go rest zero h = absurd (omega arith)
    go rest (suc k) h = refl
reads (prefix {ts} {t} u e) = from-operand (pre u ∷ ts) (unary u t) (omega arith) (go ((reads e).as-operand (omega arith)))
  where
    go : ReadsOperand ts t → ReadsOperand (pre u ∷ ts) (unary u t)
    go r rest zero h = absurd (omega arith)
    go r rest (suc k) h = rw (r rest k (omega arith))
reads (bracket {ts} {t} e) = from-operand (opens ∷ (ts ++ (closes ∷ []))) t (omega arith) (go (reads e))
  where
    go : Reads 0 ts t → ReadsOperand (opens ∷ (ts ++ (closes ∷ []))) t
    go r rest zero h = absurd (omega arith)
    go r rest (suc k) h =
        let l = length-append ts (closes ∷ []) in
        rw (append_assoc ts (closes ∷ []) rest, whole r (closes ∷ rest) tt tt k (omega arith))
reads (looser {n} {ts} {t} e) = go (reads e)
  where
    go : Reads (suc n) ts t → Reads n ts t
    go r = record {
      as-operand = λ h. r.as-operand (omega arith);
      as-infix = λ m h rest q. r.as-infix m (omega arith) rest (next_map (λ o c. omega arith) rest q);
    }
reads (between {ls} {rs} {l} {r} o a b) = go (reads a) (reads b)
  where
    go : Reads (left_level o) ls l → Reads (right_level o) rs r → Reads (level o) (ls ++ (mid o ∷ rs)) (binary o l r)
    go x y = record {
      as-operand = λ h. let s = sides o in absurd (omega arith);
      as-infix = λ m h rest q k pos v more j f.
          let s = sides o in
          let n = length-append ls (mid o ∷ rs) in
          rw (append_assoc ls (mid o ∷ rs) rest)
          (x.as-infix m (omega arith) (mid o ∷ (rs ++ rest)) (omega arith) (k + 2 + 2 * length rs) (omega arith) v (onward m h rest q k pos v more) j (omega arith));
    }
      where
        onward : (m : ℕ) → m ≤ level o → (rest : List Token) → Calm (level o) rest → (k : ℕ) → 1 ≤ k → (v : Read) → ((j : ℕ) → k ≤ j → read_more j m (binary o l r) rest ≡ v)
            → (j : ℕ) → k + 2 + 2 * length rs ≤ j → read_more j m l (mid o ∷ (rs ++ rest)) ≡ v
        onward m h rest q k pos v more zero f = absurd (omega arith)
        onward m h rest q k pos v more (suc j) f =
            let quiet : Quiet (right_level o) rest = next_map (λ p c. gives-way o p c) rest q in
            let calm : Calm (right_level o) rest = next_map (λ p c. let s = sides o in omega arith) rest q in
            rw (le-leb m (level o) h, whole y rest calm quiet j (omega arith)) (more j (omega arith))

pub complete : {ts : List Token} {t : Typed} → Derives 0 ts t → read_tokens ts ≡ got t []
unfolding Next
complete {ts} {t} e = rw append-nil at (whole (reads e) [] tt tt (fuel ts) (omega arith))

-- ---- what is read is an expression

none-got : {t : Typed} {ts : List Token} → none ≡ got t ts → ⊥
none-got e = let z : ◌≡◌ {A = ℕ} 0 1 = cc in omega arith

in-turn : (r : Read) (f : Typed → List Token → Read) {u : Typed} {rest : List Token} → read_then r f ≡ got u rest
    → (t : Typed) × (ts : List Token) × (r ≡ got t ts) × (f t ts ≡ got u rest)
in-turn (got t ts) f e = (t, ts, refl, e)
in-turn none f e = absurd (none-got e)

at-close : (t : Typed) (ts : List Token) {u : Typed} {rest : List Token} → closed t ts ≡ got u rest → (ts ≡ closes ∷ rest) × (t ≡ u)
at-close t [] e = absurd (none-got e)
at-close t (pre u ∷ ts) e = absurd (none-got e)
at-close t (mid o ∷ ts) e = absurd (none-got e)
at-close t (atom l ∷ ts) e = absurd (none-got e)
at-close t (opens ∷ ts) e = absurd (none-got e)
at-close t (closes ∷ ts) e = (cc, cc)

of_tree : {n : ℕ} {ts : List Token} {t u : Typed} → t ≡ u → Derives n ts t → Derives n ts u
of_tree e d = rw e at d

two-parts : {ts us : List Token} (xs ys rest : List Token) → ts ≡ xs ++ us → us ≡ ys ++ rest → ts ≡ (xs ++ ys) ++ rest
two-parts xs ys rest p q = p ∙ ap (λ (x : List Token). xs ++ x) q ∙ sym (append_assoc xs ys rest)

-- tokens up to the rest, of a level
abbrev UpTo : ℕ → List Token → Typed → List Token → Type 0
UpTo n ts t rest = (xs : List Token) × (ts ≡ xs ++ rest) × Derives n xs t

-- the same behind tokens that are read already, and nothing goes on
abbrev Onward : ℕ → List Token → List Token → Typed → List Token → Type 0
Onward n xs ts t rest = (ys : List Token) × (ts ≡ ys ++ rest) × Derives n (xs ++ ys) t × Quiet n rest

stays : (n : ℕ) {p : ℕ} {xs : List Token} {t u : Typed} (ts : List Token) {rest : List Token} → n ≤ p → Derives p xs t → Quiet n ts → got t ts ≡ got u rest → Onward n xs ts u rest
stays n {xs = xs} {t} {u} ts {rest} h d q e =
    let a : t ≡ u = cc in
    let b : ts ≡ rest = cc in
    ([], b, rw (append-nil xs, ← a) (lower h d), rw b at q)

any-calm : (ts : List Token) → Calm operand ts
unfolding Next
any-calm [] = tt
any-calm (pre u ∷ ts) = tt
any-calm (mid o ∷ ts) = let s = sides o in omega arith
any-calm (atom l ∷ ts) = tt
any-calm (opens ∷ ts) = tt
any-calm (closes ∷ ts) = tt

mutual
  unfolding read_infix Next

  infix-sound : (k n : ℕ) (ts : List Token) {t : Typed} {rest : List Token} → n ≤ operand → read_infix k n ts ≡ got t rest → UpTo n ts t rest × Quiet n rest
  infix-sound zero n ts h e = absurd (none-got e)
  infix-sound (suc k) n ts {t} {rest} h e =
      let s = in-turn (read_prefix k ts) (λ x r. read_more k n x r) e in
      let p = prefix-sound k ts s.2 in
      let m = more-sound k n operand p.0 s.0 s.1 h p.2 (any-calm s.1) s.3 in
      ((p.0 ++ m.0, two-parts p.0 m.0 rest p.1 m.1, m.2), m.3)

  prefix-sound : (k : ℕ) (ts : List Token) {t : Typed} {rest : List Token} → read_prefix k ts ≡ got t rest → UpTo operand ts t rest
  prefix-sound zero ts e = absurd (none-got e)
  prefix-sound (suc k) [] e = absurd (none-got e)
  prefix-sound (suc k) (pre u ∷ ts) {t} {rest} e =
      let s = in-turn (read_prefix k ts) (λ x r. got (unary u x) r) e in
      let p = prefix-sound k ts s.2 in
      let a : unary u s.0 ≡ t = cc in
      let b : s.1 ≡ rest = cc in
      (pre u ∷ p.0, ap (λ (x : List Token). pre u ∷ x) (p.1 ∙ ap (λ (x : List Token). p.0 ++ x) b), of_tree a (prefix u p.2))
  prefix-sound (suc k) (mid o ∷ ts) e = absurd (none-got e)
  prefix-sound (suc k) (atom l ∷ ts) {t} {rest} e =
      let a : leaf l ≡ t = cc in
      (atom l ∷ [], (let b : ts ≡ rest = cc in ap (λ (x : List Token). atom l ∷ x) b), of_tree a (alone l))
  prefix-sound (suc k) (opens ∷ ts) {t} {rest} e =
      let s = in-turn (read_infix k 0 ts) (λ x r. closed x r) e in
      let c = at-close s.0 s.1 s.3 in
      let p = (infix-sound k 0 ts (omega arith) s.2).0 in
      let b : ts ≡ (p.0 ++ (closes ∷ [])) ++ rest = two-parts p.0 (closes ∷ []) rest p.1 c.0 in
      (opens ∷ (p.0 ++ (closes ∷ [])), ap (λ (x : List Token). opens ∷ x) b, of_tree c.1 (bracket p.2))
  prefix-sound (suc k) (closes ∷ ts) e = absurd (none-got e)

  more-sound : (k n p : ℕ) (xs : List Token) (t : Typed) (ts : List Token) {u : Typed} {rest : List Token}
      → n ≤ p → Derives p xs t → Calm p ts → read_more k n t ts ≡ got u rest → Onward n xs ts u rest
  more-sound zero n p xs t ts h d c e = absurd (none-got e)
  more-sound (suc k) n p xs t [] h d c e = stays n [] h d tt e
  more-sound (suc k) n p xs t (pre v ∷ ts) h d c e = stays n (pre v ∷ ts) h d tt e
  more-sound (suc k) n p xs t (mid o ∷ ts) {u} {rest} h d c e =
      let Way : Bool → Type 0 = λ b. leb n (level o) ≡ b → cond b (read_then (read_infix k (right_level o) ts) (λ r more. read_more k n (binary o t r) more))
      (got t (mid o ∷ ts)) ≡ got u rest → Onward n xs (mid o ∷ ts) u rest in
      let pick : (b : Bool) → Way b = λ b. elim b as Way [
        | true ↦ λ w q.
            let so = sides o in
            let s = in-turn (read_infix k (right_level o) ts) (λ r more. read_more k n (binary o t r) more) q in
            let y = infix-sound k (right_level o) ts (omega arith) s.2 in
            let ys = y.0.0 in
            let m = more-sound k n (level o) (xs ++ (mid o ∷ ys)) (binary o t s.0) s.1 (leb-true n (level o) w)
            (between o (lower c d) y.0.2) (next_map (λ v g. takes-over o v g) s.1 y.1) s.3 in (
              mid o ∷ (ys ++ m.0),
              ap (λ (x : List Token). mid o ∷ x) (two-parts ys m.0 rest y.0.1 m.1),
              rw (append_assoc xs (mid o ∷ ys) m.0) at m.2,
              m.3,
            )
        | false ↦ λ w q. stays n (mid o ∷ ts) h d (leb-false n (level o) w) q
      ] in
      pick (leb n (level o)) refl e
  more-sound (suc k) n p xs t (atom l ∷ ts) h d c e = stays n (atom l ∷ ts) h d tt e
  more-sound (suc k) n p xs t (opens ∷ ts) h d c e = stays n (opens ∷ ts) h d tt e
  more-sound (suc k) n p xs t (closes ∷ ts) h d c e = stays n (closes ∷ ts) h d tt e

pub sound : (ts : List Token) {t : Typed} → read_tokens ts ≡ got t [] → Derives 0 ts t
sound ts {t} e =
    let s = (infix-sound (fuel ts) 0 ts (omega arith) e).0 in
    subst (λ (x : List Token). Derives 0 x t) (sym (s.1 ∙ append-nil s.0)) s.2
