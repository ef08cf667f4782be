-- Lengths of texts: 391 bytes suffice for any formula of size up to 31, and one needs them all.
-- Assumes nothing.
use mathlib.Core.Path.{◌≡◌, refl, sym, ◌∙◌, subst}
use mathlib.Core.Bool.{true, false}
use mathlib.Core.List.{List, [], ◌∷◌, ◌++◌}
use Prim.Native.Nat.{ℕ, ◌+◌, ◌*◌, ◌≤◌}
use native.Mathlib.Omega.{arith}
use lib.Dec.{lit≤}
use lib.ListN.{length, get_or, take, length-append}
use Rattle.operators.specs.declared.Operator.{Operator}
use Rattle.sequence.specs.Operators.{Unary, Binary, not, weak_next, strong_next, finally, globally, or, and, until, release, implies, equiv, unary_token, binary_token}
use Rattle.operators.specs.Table.{Listed, unary_listed, binary_listed}
use Rattle.operators.specs.Table.Listed.{unary as unary-row, binary as binary-row, neither as no_row}
use Rattle.sequence.proofs.Groups.{unary-below, binary-between}
use Rattle.sequence.proofs.Unique.{unary-one, binary-one}
use Rattle.names.specs.Names.{name_length}
use Rattle.formula.specs.Formula.{leaf, unary, binary, size, Leaf, proposition, constant, Formula}
use Rattle.rules.specs.Limits.{most_size}
use Rattle.formula.specs.Rule.{IsUnary, IsBinary}
use Rattle.text.specs.Text.{text, leaf_text, bracketed, most_text}

-- ---- tokens

pub unary-short : (op : Unary) → length (unary_token op) ≤ 4
unary-short not = lit≤ tt
unary-short weak_next = lit≤ tt
unary-short strong_next = lit≤ tt
unary-short finally = lit≤ tt
unary-short globally = lit≤ tt

pub binary-short : (op : Binary) → length (binary_token op) ≤ 3
binary-short or = lit≤ tt
binary-short and = lit≤ tt
binary-short until = lit≤ tt
binary-short release = lit≤ tt
binary-short implies = lit≤ tt
binary-short equiv = lit≤ tt

unary-taken : (op : Unary) → take (unary_listed op).bytes (unary_listed op).token ≡ unary_token op
unary-taken not = refl
unary-taken weak_next = refl
unary-taken strong_next = refl
unary-taken finally = refl
unary-taken globally = refl

binary-taken : (op : Binary) → take (binary_listed op).bytes (binary_listed op).token ≡ binary_token op
binary-taken or = refl
binary-taken and = refl
binary-taken until = refl
binary-taken release = refl
binary-taken implies = refl
binary-taken equiv = refl

-- the table's row of an operator has its token
pub record Token (o : Operator) (token : List ℕ) : Type 0 where
  pub is : take o.bytes o.token ≡ token
  pub long : o.bytes ≡ length token

pub unary-token : {code : ℕ} (o : Operator) → Listed code o → (u : IsUnary code) → Token o (unary_token u.0)
unary-token o (unary-row op e q) u =
    let s = unary-one op u.0 (e ∙ sym u.1) in
    subst (λ (x : Unary). Token o (unary_token x)) s (subst (λ (x : Operator). Token x (unary_token op)) (sym q) (record { is = unary-taken op; long = refl }))
unary-token o (binary-row op e q) u = let x = unary-below u.0 in let y = binary-between op in absurd (omega (arith, u.1))
unary-token o (no_row m n q) u = absurd (m u.0 u.1)

pub binary-token : {code : ℕ} (o : Operator) → Listed code o → (u : IsBinary code) → Token o (binary_token u.0)
binary-token o (binary-row op e q) u =
    let s = binary-one op u.0 (e ∙ sym u.1) in
    subst (λ (x : Binary). Token o (binary_token x)) s (subst (λ (x : Operator). Token x (binary_token op)) (sym q) (record { is = binary-taken op; long = refl }))
binary-token o (unary-row op e q) u = let x = binary-between u.0 in let y = unary-below op in absurd (omega (arith, u.1))
binary-token o (no_row m n q) u = absurd (n u.0 u.1)

-- ---- lengths

length-bracketed : (x : List ℕ) → length (bracketed x) ≡ 2 + length x
length-bracketed x = let e = length-append x (41 ∷ []) in omega arith

module _ (names : List (List ℕ)) where
  pub length-unary : (op : Unary) (t : Formula) → length (text names (unary op t)) ≡ length (unary_token op) + 3 + length (text names t)
  length-unary op t = let e = length-append (unary_token op) (32 ∷ bracketed (text names t)) in let f = length-bracketed (text names t) in omega arith

  pub length-binary : (op : Binary) (l r : Formula) → length (text names (binary op l r)) ≡ length (binary_token op) + 6 + length (text names l) + length (text names r)
  length-binary op l r =
      let e = length-append (bracketed (text names l)) (32 ∷ (binary_token op ++ (32 ∷ bracketed (text names r)))) in
      let f = length-append (binary_token op) (32 ∷ bracketed (text names r)) in
      let g = length-bracketed (text names l) in
      let h = length-bracketed (text names r) in
      omega arith

  module _ (short : (p : ℕ) → length (get_or names p []) ≤ name_length) where
    short-leaf : (c : Leaf) → length (leaf_text names c) ≤ 16
    short-leaf (proposition p) = short p
    short-leaf (constant true) = lit≤ tt
    short-leaf (constant false) = lit≤ tt

    -- two formulas under a binary operator have 25 bytes for two more in size; nothing has more
    pub text-short : (t : Formula) → 2 * length (text names t) ≤ 25 * size t + 7
    text-short (leaf c) = omega (arith, short-leaf c)
    text-short (unary op t) = omega (arith, text-short t, length-unary op t, unary-short op)
    text-short (binary op l r) = omega (arith, text-short l, text-short r, length-binary op l r, binary-short op)

    -- "391 bytes suffice for any formula."
    pub text-fits : (t : Formula) → size t ≤ most_size → length (text names t) ≤ most_text
    text-fits t h = omega (arith, text-short t)

-- ---- and one needs them all

-- a name of 16 letters `p`
pub longest : List ℕ
longest = 112 ∷ 112 ∷ 112 ∷ 112 ∷ 112 ∷ 112 ∷ 112 ∷ 112 ∷ 112 ∷ 112 ∷ 112 ∷ 112 ∷ 112 ∷ 112 ∷ 112 ∷ 112 ∷ []

-- `<->` over equal halves, so many deep
both : Formula → Formula
both t = binary equiv t t

pub full : Formula
unfolding both
full = both (both (both (both (leaf (proposition 0)))))

-- a formula of size 31 over one name of 16 bytes whose text has 391 bytes
pub text-needs : (size full ≡ most_size) × (length (text (longest ∷ []) full) ≡ most_text)
unfolding longest both full
text-needs = (refl, refl)
