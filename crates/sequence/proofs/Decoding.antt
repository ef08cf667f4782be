-- The decoder: each operator is that of its code, so no code is of two groups.
-- Assumes nothing.
use mathlib.Core.Path.{◌≡◌, refl, ap}
use Prim.Native.Nat.{ℕ}
use Rattle.sequence.specs.Operators.{Unary, Binary, Coded, unary, binary, neither, unary_code, binary_code, decode, unary_of, binary_of, as_unary, as_binary}

pub decode-unary : (op : Unary) → decode (unary_code op) ≡ unary op
unfolding decode
decode-unary Unary.not = refl
decode-unary Unary.weak_next = refl
decode-unary Unary.strong_next = refl
decode-unary Unary.finally = refl
decode-unary Unary.globally = refl

pub decode-binary : (op : Binary) → decode (binary_code op) ≡ binary op
unfolding decode
decode-binary Binary.or = refl
decode-binary Binary.and = refl
decode-binary Binary.until = refl
decode-binary Binary.release = refl
decode-binary Binary.implies = refl
decode-binary Binary.equiv = refl

pub unary-of : (op : Unary) → unary_of (unary_code op) ≡ op
unary-of op = ap as_unary (decode-unary op)

pub binary-of : (op : Binary) → binary_of (binary_code op) ≡ op
binary-of op = ap as_binary (decode-binary op)

-- the groups by number, so that a code of two groups is a false equation
abbrev pub group_of : Coded → ℕ
group_of (unary op) = 0
group_of (binary op) = 1
group_of neither = 2

pub unary-group : (op : Unary) → group_of (decode (unary_code op)) ≡ 0
unary-group op = ap group_of (decode-unary op)

pub binary-group : (op : Binary) → group_of (decode (binary_code op)) ≡ 1
binary-group op = ap group_of (decode-binary op)
