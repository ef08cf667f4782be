-- The operators by code, check by check: the first that refuses decides, and what passes all of them is read as the operator with the code.
-- Assumes nothing.
use mathlib.Core.Path.{◌≡◌, sym, subst}
use mathlib.Core.List.{[], ◌∷◌, ◌++◌}
use Prim.Native.Nat.{ℕ}
use lib.Dec.{lit<}
use Rattle.std.specs.Prelude.{Result, Ok, IsErr, IsErrAnd}
use Rattle.words.specs.Word.{WfComputed}
use Rattle.rules.specs.declared.refusal.Refusal.{Refusal}
use Rattle.rules.specs.Refusals.{Decided, refusal_number}
use Rattle.rules.proofs.Refusals.{decided-later, refused-early}
use Rattle.sequence.specs.declared.CharSeq.{CharSeq}
use Rattle.sequence.specs.Masked.{UnaryBy, BinaryBy}
use Rattle.sequence.specs.Masked.UnaryBy.{operator as uop, nothing as unothing}
use Rattle.sequence.specs.Masked.BinaryBy.{operator as bop, nothing as bnothing}
use Rattle.sequence.specs.Sequence.{not_unary, not_binary, ill_formed, unequal, unary_rows, binary_rows, UnaryRead, BinaryRead, UnaryAnswer, BinaryAnswer}
use Rattle.sequence.proofs.Masked.{unary-reads, binary-reads}
use Rattle.sequence.proofs.Answers.{refused-answers, unary-passed, binary-passed}

-- what `?` hands up of a refusal
abbrev Up : Result CharSeq Refusal → Refusal → Type 0
Up a refusal = IsErr a × IsErrAnd a (λ e. e ≡ refusal)

module _ (code : ℕ) (s : CharSeq) (a : Result CharSeq Refusal) (e : Refusal) where
  pub unary_off : Decided (not_unary code ∷ []) (refusal_number e) → Up a e → UnaryAnswer code s a
  unary_off d h = refused-answers (unary_rows code s) _ a e (refused-early (not_unary code ∷ []) (ill_formed s) e d) h

  pub unary_ill : Decided (not_unary code ∷ []) 0 → Decided (ill_formed s) (refusal_number e) → Up a e → UnaryAnswer code s a
  unary_ill p d h = refused-answers (unary_rows code s) _ a e (decided-later (not_unary code ∷ []) (ill_formed s) _ (lit< tt, tt) p d) h

pub unary_read : (code : ℕ) (s r : CharSeq) → Decided (not_unary code ∷ []) 0 → Decided (ill_formed s) 0 → UnaryBy code s r → UnaryAnswer code s (Ok r)
unary_read code s r p q by = (d, go by)
  where
    d : Decided (unary_rows code s) 0
    d = decided-later (not_unary code ∷ []) (ill_formed s) 0 (lit< tt, tt) p q

    go : UnaryBy code s r → UnaryRead code s r
    go (uop op e o) = (op, e, unary-reads op s r (unary-passed code s d).1 o)
    go (unothing n e) = absurd ((unary-passed code s d).0 n)

-- the rows that are left when the code has passed, when the left sequence has, and when both have
module _ (code : ℕ) (s t : CharSeq) (k : ℕ) (group : Decided (not_binary code ∷ []) 0) where
  from-left : Decided (ill_formed s ++ (ill_formed t ++ (unequal s t ∷ []))) k → Decided (binary_rows code s t) k
  from-left d = decided-later (not_binary code ∷ []) _ k (lit< tt, tt) group d

  module _ (left : Decided (ill_formed s) 0) where
    from-right : Decided (ill_formed t ++ (unequal s t ∷ [])) k → Decided (binary_rows code s t) k
    from-right d = from-left (decided-later (ill_formed s) _ k (lit< tt, (lit< tt, tt)) left d)

    from-lengths : Decided (ill_formed t) 0 → Decided (unequal s t ∷ []) k → Decided (binary_rows code s t) k
    from-lengths right d = from-right (decided-later (ill_formed t) _ k (lit< tt, (lit< tt, tt)) right d)

module _ (code : ℕ) (s t : CharSeq) (a : Result CharSeq Refusal) (e : Refusal) where
  pub binary_off : Decided (not_binary code ∷ []) (refusal_number e) → Up a e → BinaryAnswer code s t a
  binary_off d h = refused-answers (binary_rows code s t) _ a e (refused-early (not_binary code ∷ []) _ e d) h

  pub left_ill : Decided (not_binary code ∷ []) 0 → Decided (ill_formed s) (refusal_number e) → Up a e → BinaryAnswer code s t a
  left_ill p d h = refused-answers (binary_rows code s t) _ a e (from-left code s t _ p (refused-early (ill_formed s) _ e d)) h

  pub right_ill : Decided (not_binary code ∷ []) 0 → Decided (ill_formed s) 0 → Decided (ill_formed t) (refusal_number e) → Up a e → BinaryAnswer code s t a
  right_ill p q d h = refused-answers (binary_rows code s t) _ a e (from-right code s t _ p q (refused-early (ill_formed t) _ e d)) h

  pub lengths_apart : Decided (not_binary code ∷ []) 0 → Decided (ill_formed s) 0 → Decided (ill_formed t) 0 → Decided (unequal s t ∷ []) (refusal_number e) → Up a e
      → BinaryAnswer code s t a
  lengths_apart p q r d h = refused-answers (binary_rows code s t) _ a e (from-lengths code s t _ p q r d) h

pub binary_read : (code : ℕ) (s t r : CharSeq) → Decided (not_binary code ∷ []) 0 → Decided (ill_formed s) 0 → Decided (ill_formed t) 0 → Decided (unequal s t ∷ []) 0
    → BinaryBy code s t r → BinaryAnswer code s t (Ok r)
binary_read code s t r p q u l by = (d, go by)
  where
    d : Decided (binary_rows code s t) 0
    d = from-lengths code s t 0 p q u l

    go : BinaryBy code s t r → BinaryRead code s t r
    go (bop op e o) =
        let w = binary-passed code s t d in
        (op, e, binary-reads op s t r w.1 (subst (λ (n : ℕ). WfComputed n t.values) (sym w.3) w.2) o)
    go (bnothing n e) = absurd ((binary-passed code s t d).0 n)
