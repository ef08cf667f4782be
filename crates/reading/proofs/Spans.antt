-- A run of a file's bytes from one offset to another, and how runs are put together and taken apart.
-- Assumes nothing.
use mathlib.Core.Path.{◌≡◌, refl, sym, ap, ◌∙◌}
use mathlib.Core.List.{List, [], ◌∷◌, ◌++◌, append_assoc, nil≢cons, head-eq_of_cons-eq, tail-eq_of_cons-eq}
use Prim.Native.Nat.{ℕ, suc, ◌+◌, ◌≤◌, ◌<◌}
use native.Mathlib.Decide.{dec_lt}
use native.Mathlib.Nat.{lt_of_not-le}
use native.Mathlib.Numerals.{add-one}
use native.Mathlib.Omega.{arith}
use lib.ListN.{length, get_or, take, drop, length-append, length-drop, drop_of_length-le}
use lib.Seq.{drop-cons, drop-drop, drop-append_seam, take_at}

-- the bytes `run` stand from `at` up to `next`
pub record Spans (file : List ℕ) (at : ℕ) (run : List ℕ) (next : ℕ) : Type 0 where
  pub is : drop at file ≡ run ++ drop next file
  pub end : next ≡ at + length run

module _ (file : List ℕ) where
  pub none : (at : ℕ) → Spans file at [] at
  none at = record { is = refl; end = omega arith }

  pub both : {a b c : ℕ} (u v : List ℕ) → Spans file a u b → Spans file b v c → Spans file a (u ++ v) c
  both {a} {b} {c} u v s t =
      record {
        is = s.is ∙ ap (λ (l : List ℕ). u ++ l) t.is ∙ sym (append_assoc u v (drop c file));
        end = omega (arith, length-append u v);
      }

  after : {a c : ℕ} (u v : List ℕ) → Spans file a (u ++ v) c → drop (a + length u) file ≡ v ++ drop c file
  after {a} {c} u v s =
      sym (drop-drop (length u) a file)
      ∙ ap (drop (length u)) (s.is ∙ append_assoc u v (drop c file))
      ∙ drop-append_seam u (v ++ drop c file)

  pub first : {a c : ℕ} (u v : List ℕ) → Spans file a (u ++ v) c → Spans file a u (a + length u)
  first {a} {c} u v s =
      record { is = s.is ∙ append_assoc u v (drop c file) ∙ ap (λ (l : List ℕ). u ++ l) (sym (after u v s)); end = refl }

  pub second : {a c : ℕ} (u v : List ℕ) → Spans file a (u ++ v) c → Spans file (a + length u) v c
  second u v s = record { is = after u v s; end = omega (arith, length-append u v) }

  -- what is read at a byte
  pub head : (at b : ℕ) (rest : List ℕ) → drop at file ≡ b ∷ rest → (at < length file) × (get_or file at 0 ≡ b) × (drop (at + 1) file ≡ rest)
  head at b rest e =
      elim (dec_lt at (length file)) [
        | yes h ↦
            let q : get_or file at 0 ∷ drop (suc at) file ≡ b ∷ rest = sym (drop-cons file at 0 h) ∙ e in
            (h, head-eq_of_cons-eq q, ap (λ (n : ℕ). drop n file) (add-one at) ∙ tail-eq_of_cons-eq q)
        | no h ↦ absurd (nil≢cons (sym (drop_of_length-le file {i = at} (omega (arith, lt_of_not-le h))) ∙ e))
      ]

  pub one_byte : (at : ℕ) → at < length file → Spans file at (get_or file at 0 ∷ []) (at + 1)
  one_byte at h = record { is = rw (add-one, drop-cons file at 0); end = omega arith }

  -- a run lies within the file
  pub inside : {at next : ℕ} (run : List ℕ) → Spans file at run next → at ≤ length file → next ≤ length file
  inside {at} {next} run s h =
      omega (arith, s.end, ap length s.is, length-append run (drop next file), length-drop at file)

  pub taken : {at next : ℕ} (run : List ℕ) → Spans file at run next → take (length run) (drop at file) ≡ run
  taken {at} {next} run s = ap (take (length run)) s.is ∙ take_at run (drop next file) (length run) refl
