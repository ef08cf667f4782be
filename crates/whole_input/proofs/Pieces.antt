-- What a room holds when a further piece was read into it: the pieces read so far, and then that one.
-- Assumes nothing.
use Rattle.std.proofs.Common.{◌≡◌, ℕ, ◌+◌, ◌≤◌, List, ◌++◌, min, arith, length, take, drop, sym, ap, ◌∙◌, subst, le_refl, drop_at, length-take, length-take-le}
use Rattle.std.specs.declared.option.Option.{Option}
use Rattle.std.proofs.lemmas.Slice.{take-put_mid_below}
use Rattle.std.specs.Io.KnownBytes.{Consumes, Keeps}
use Rattle.std.proofs.KnownBytes.{Consumes-trans, Consumes-kept}
use borrow.Rule.Slice.PartMut.{put_mid, post_of}
use Rattle.std.proofs.lemmas.List.{take-append-le}
use lib.Seq.{take-add}
use Rattle.whole_input.specs.Input.{FirstOf}

-- the piece stands behind what was there
split : (at n k : ℕ) (xs ys : List ℕ) → at ≤ length xs → n ≤ length ys → take at xs ++ take n ys ≡ take (at + n) (put_mid at k xs ys)
split at n k xs ys within fits =
    let all = put_mid at k xs ys in
    let after = post_of at k xs in
    let front : take at all ≡ take at xs = take-put_mid_below _ _ _ _ _ (le_refl _) within in
    let piece : take n (drop at all) ≡ take n ys =
    ap (take n) (drop_at (take at xs) (ys ++ after) at (length-take-le at xs within)) ∙ take-append-le n ys after fits in
    ap (λ l. l ++ take n ys) (sym front) ∙ ap (λ l. take at all ++ l) (sym piece) ∙ sym (take-add at n all)

-- so what was consumed stands at the start of the room
pub more : (a b c : Option (List ℕ)) (at n k : ℕ) (xs ys : List ℕ) → at ≤ length xs → n ≤ length ys → Consumes a b (take at xs) → Consumes b c (take n ys)
    → Consumes a c (take (at + n) (put_mid at k xs ys))
more a b c at n k xs ys within fits first second =
    subst (Consumes a c) (split at n k xs ys within fits) (Consumes-trans a b c _ _ first second)

-- and an empty piece adds nothing
pub empty : (a b c : Option (List ℕ)) (at n k : ℕ) (xs ys : List ℕ) → at ≤ length xs → n ≤ length ys → n ≡ 0 → Consumes a b (take at xs) → Consumes b c (take n ys)
    → Consumes a c (take at (put_mid at k xs ys))
empty a b c at n k xs ys within fits none first second =
    let same : at + n ≡ at = omega arith in
    subst (λ m. Consumes a c (take m (put_mid at k xs ys))) same (more a b c at n k xs ys within fits first second)

-- where the next read fails, what was read so far is what there is
pub kept : (a b c : Option (List ℕ)) (at k : ℕ) (xs ys : List ℕ) → at ≤ length xs → Consumes a b (take at xs) → Keeps b c → FirstOf a c (put_mid at k xs ys)
kept a b c at k xs ys within first keeps =
    let all = put_mid at k xs ys in
    let front : take at all ≡ take at xs = take-put_mid_below _ _ _ _ _ (le_refl _) within in
    let long : length (take at all) ≡ at = ap length front ∙ length-take-le at xs within in
    let inside : at ≤ length all = let cut : min at (length all) ≡ at = sym (length-take at all) ∙ long in omega arith in
    (at, inside, subst (Consumes a c) (sym front) (Consumes-kept a b c _ first keeps))
