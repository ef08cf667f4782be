-- No line of numbers is longer than 114 bytes.
-- Assumes nothing.
use mathlib.Core.List.{◌++◌}
use Prim.Native.Nat.{ℕ, ◌≤◌}
use native.Mathlib.Omega.{arith}
use lib.ListN.{length, length-append}
use Rattle.writing.specs.Writing.{most_digits, decimal, newline}
use Rattle.writing.proofs.Digits.{few-digits}
use Rattle.line.specs.Line.{kept_word, dropped_word, count_words, found_line, none_line, full_line, broken_line, refused_line}

pub counts-short : (tried kept dropped : ℕ) → length (count_words tried kept dropped) ≤ 83
counts-short tried kept dropped =
    let a = few-digits most_digits tried in
    let b = few-digits most_digits kept in
    let c = few-digits most_digits dropped in
    let d = length-append (decimal dropped) newline in
    let e = length-append (decimal kept) (dropped_word ++ (decimal dropped ++ newline)) in
    let f = length-append (decimal tried) (kept_word ++ (decimal kept ++ (dropped_word ++ (decimal dropped ++ newline)))) in
    omega arith

pub found-short : (size tried kept dropped : ℕ) → length (found_line size tried kept dropped) ≤ 114
found-short size tried kept dropped =
    let a = few-digits most_digits size in
    let b = counts-short tried kept dropped in
    let c = length-append (decimal size) (count_words tried kept dropped) in
    omega arith

pub full-short : (size tried kept dropped : ℕ) → length (full_line size tried kept dropped) ≤ 114
full-short size tried kept dropped =
    let a = few-digits most_digits size in
    let b = counts-short tried kept dropped in
    let c = length-append (decimal size) (count_words tried kept dropped) in
    omega arith

pub none-short : (tried kept dropped : ℕ) → length (none_line tried kept dropped) ≤ 114
none-short tried kept dropped = let b = counts-short tried kept dropped in omega arith

pub broken-short : (at : ℕ) → length (broken_line at) ≤ 114
broken-short at = let a = few-digits most_digits at in let b = length-append (decimal at) newline in omega arith

pub refused-short : (number : ℕ) → length (refused_line number) ≤ 114
refused-short number = let a = few-digits most_digits number in let b = length-append (decimal number) newline in omega arith
