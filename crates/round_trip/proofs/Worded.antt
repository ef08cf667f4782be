-- The words of a text, run by run; those of a printed formula are names of its propositions, or reserved.
-- Assumes nothing.
use mathlib.Core.Path.{◌≡◌, refl, sym, ap, subst, ◌∙◌}
use mathlib.Core.Logic.{◌⊎◌, inl, inr, ⊎_elim}
use mathlib.Core.Bool.{Bool, true, false, cond}
use mathlib.Core.List.{List, [], ◌∷◌, ◌++◌, append_assoc, append-nil, Memᴰ}
use Prim.Native.Nat.{ℕ, zero, suc, ◌-◌, ◌≤◌, ◌<◌}
use native.Mathlib.Omega.{arith}
use lib.Dec.{lit≤}
use lib.ListN.{length, get_or, take, drop}
use Rattle.rules.specs.Lists.{Each}
use Rattle.sequence.specs.Operators.{Unary, Binary, unary_token, binary_token}
use Rattle.sequence.specs.Operators.Unary.{not, weak_next, strong_next, finally, globally}
use Rattle.sequence.specs.Operators.Binary.{or, and, until, release, implies, equiv}
use Rattle.formula.specs.Formula.{leaf, unary, binary, Leaf, proposition, constant, Formula}
use Rattle.names.specs.Names.{is_name_byte}
use Rattle.names.specs.Reserved.{reserved}
use Rattle.text.specs.Text.{space, bracketed, leaf_text, text}
use Rattle.text.proofs.Tokens.{unary-reserved, binary-reserved, constant-reserved}
use Rattle.grammar.specs.Token.{NoWordByte}
use Rattle.grammar.proofs.Words.{WordBytes}
use Rattle.typed.specs.Words.{WordAt, UnknownAt}

-- ---- the words of a text, behind the beginning of one

module _ (P : List ℕ → Type 0) where
  abbrev pub Ended : List ℕ → Type 0
  Ended [] = Unit {0}
  Ended (b ∷ w) = P (b ∷ w)

  abbrev pub Byte : Bool → Type 0 → Type 0 → Type 0
  Byte true on off = on
  Byte false on off = off

  unfoldable pub Worded : List ℕ → List ℕ → Type 0
  Worded w [] = Ended w
  Worded w (b ∷ t) = Byte (is_name_byte b) (Worded (w ++ (b ∷ [])) t) (Ended w × Worded [] t)

  ended : (w : List ℕ) → 1 ≤ length w → Ended w → P w
  ended [] h e = absurd (omega arith)
  ended (b ∷ w) h e = e

  -- the run at the start goes on with the word that has begun
  first_run : (t w : List ℕ) → Worded w t → (e : ℕ) → ((j : ℕ) → j < e → is_name_byte (get_or t j 0) ≡ true) → e ≤ length t → is_name_byte (get_or t e 0) ≡ false
      → (1 ≤ length (w ++ take e t)) → P (w ++ take e t)
  unfolding Worded
  first_run [] w h zero b l n s = rw append-nil (ended w (rw append-nil at s) h)
  first_run [] w h (suc e) b l n s = absurd (omega arith)
  first_run (x ∷ t) w h zero b l n s = rw append-nil (ended w (rw append-nil at s) (subst (λ (c : Bool). Byte c (Worded (w ++ (x ∷ [])) t) (Ended w × Worded [] t)) n h).0)
  first_run (x ∷ t) w h (suc e) b l n s =
      let on : Worded (w ++ (x ∷ [])) t = subst (λ (c : Bool). Byte c (Worded (w ++ (x ∷ [])) t) (Ended w × Worded [] t)) (b 0 (omega arith)) h in
      let q : (w ++ (x ∷ [])) ++ take e t ≡ w ++ (x ∷ take e t) = append_assoc w (x ∷ []) (take e t) in
      rw (← q) (first_run t (w ++ (x ∷ [])) on e (λ j g. b (suc j) (omega arith)) (omega arith) n (rw q s))

  run-some : (t : List ℕ) (e : ℕ) → e ≤ length t → 1 ≤ e → 1 ≤ length (take e t)
  run-some [] e l s = absurd (omega arith)
  run-some (b ∷ t) zero l s = absurd (omega arith)
  run-some (b ∷ t) (suc e) l s = omega arith

  -- a word further on
  later-run : (t w : List ℕ) → Worded w t → (k e : ℕ) → WordAt t (suc k) e → P (take (e - suc k) (drop (suc k) t))
  unfolding Worded
  later-run [] w h k e at = absurd (let a = at.some in let b = at.within in omega arith)
  later-run (x ∷ t) w h k zero at = absurd (let a = at.some in omega arith)
  later-run (x ∷ t) w h zero (suc e) at =
      let on : Worded [] t = (subst (λ (b : Bool). Byte b (Worded (w ++ (x ∷ [])) t) (Ended w × Worded [] t)) (at.begins 0 refl) h).1 in
      let some = at.some in
      let within : e ≤ length t = (let l = at.within in omega arith) in
      let z : suc e - 1 ≡ e = omega arith in
      rw z (first_run t [] on e (λ j g. at.bytes (suc j) (omega arith) (omega arith)) within at.ends (run-some t e within (omega arith)))
  later-run (x ∷ t) w h (suc k) (suc e) at =
      let z : suc e - suc (suc k) ≡ e - suc k = omega arith in
      rw z (by_byte (is_name_byte x) h (λ v b. later-run t v b k e below))
    where
      below : WordAt t (suc k) e
      below = record {
        some = let a = at.some in omega arith;
        within = let a = at.within in omega arith;
        bytes = λ j g l. at.bytes (suc j) (omega arith) (omega arith);
        begins = λ j q. at.begins (suc j) (ap suc q);
        ends = at.ends;
      }

      by_byte : (b : Bool) → Byte b (Worded (w ++ (x ∷ [])) t) (Ended w × Worded [] t) → ((v : List ℕ) → Worded v t → P (take (e - suc k) (drop (suc k) t)))
          → P (take (e - suc k) (drop (suc k) t))
      by_byte true b f = f (w ++ (x ∷ [])) b
      by_byte false b f = f [] b.1

  pub word_of : (t : List ℕ) → Worded [] t → (k e : ℕ) → WordAt t k e → P (take (e - k) (drop k t))
  word_of t h zero e at =
      let within = at.within in
      let z : e - 0 ≡ e = omega arith in
      rw z (first_run t [] h e (λ j g. at.bytes j (omega arith) g) within at.ends (run-some t e within at.some))
  word_of t h (suc k) e at = later-run t [] h k e at

  -- ---- a whole word before what begins with no word's byte

  behind : (w : List ℕ) (more : List ℕ) → Ended w → NoWordByte more → Worded [] more → Worded w more
  unfolding Worded
  behind w [] e a m = e
  behind w (b ∷ more) e a m = let r : Worded [] more = (subst (λ (c : Bool). Byte c (Worded (b ∷ []) more) (Unit {0} × Worded [] more)) a m).1 in rw a (e, r)

  grown : (v w more : List ℕ) → WordBytes w → Ended (v ++ w) → NoWordByte more → Worded [] more → Worded v (w ++ more)
  unfolding Worded
  grown v [] more b e a m = behind v more (rw append-nil at e) a m
  grown v (x ∷ w) more b e a m =
      let q : (v ++ (x ∷ [])) ++ w ≡ v ++ (x ∷ w) = append_assoc v (x ∷ []) w in
      rw b.0 (grown (v ++ (x ∷ [])) w more b.1 (rw q e) a m)

-- ---- a printed formula

module _ (names : List (List ℕ)) where
  abbrev Known : List ℕ → Type 0
  Known w = Memᴰ w reserved ⊎ Memᴰ w names

  -- each proposition's name is one of the names, of a word's bytes
  abbrev pub Listed : Leaf → Type 0
  Listed (proposition p) = WordBytes (get_or names p []) × Memᴰ (get_or names p []) names
  Listed (constant b) = Unit {0}

  unfoldable pub AllListed : Formula → Type 0
  AllListed (leaf c) = Listed c
  AllListed (unary op t) = AllListed t
  AllListed (binary op l r) = AllListed l × AllListed r

  abbrev Wording : List ℕ → Type 0
  Wording t = (more : List ℕ) → NoWordByte more → Worded Known [] more → Worded Known [] (t ++ more)

  known-ended : (w : List ℕ) → Known w → Ended Known w
  known-ended [] k = tt
  known-ended (b ∷ w) k = k

  wording-leaf : (c : Leaf) → Listed c → Wording (leaf_text names c)
  wording-leaf (proposition p) h more a m = grown Known [] (get_or names p []) more h.0 (known-ended (get_or names p []) (inr h.1)) a m
  wording-leaf (constant true) h more a m = grown Known [] (leaf_text [] (constant true)) more (refl, (refl, (refl, (refl, tt)))) (inl (constant-reserved true)) a m
  wording-leaf (constant false) h more a m = grown Known [] (leaf_text [] (constant false)) more (refl, (refl, (refl, (refl, (refl, tt))))) (inl (constant-reserved false)) a m

  -- in brackets, before anything
  wrapped : (t : List ℕ) → Wording t → (more : List ℕ) → Worded Known [] more → Worded Known [] (bracketed t ++ more)
  unfolding Worded
  wrapped t f more m = (tt, rw (append_assoc t (41 ∷ []) more) (f (41 ∷ more) refl (tt, m)))

  -- an operator's token, and a space
  unary-spaced : (u : Unary) (more : List ℕ) → Worded Known [] more → Worded Known [] (unary_token u ++ (space ∷ more))
  unfolding Worded Each
  unary-spaced not more m = (tt, (tt, m))
  unary-spaced weak_next more m = (inl (unary-reserved weak_next (lit≤ tt, (refl, tt))), m)
  unary-spaced strong_next more m = (inl (unary-reserved weak_next (lit≤ tt, (refl, tt))), (tt, (tt, (tt, m))))
  unary-spaced finally more m = (inl (unary-reserved finally (lit≤ tt, (refl, tt))), m)
  unary-spaced globally more m = (inl (unary-reserved globally (lit≤ tt, (refl, tt))), m)

  binary-spaced : (o : Binary) (more : List ℕ) → Worded Known [] more → Worded Known [] (binary_token o ++ (space ∷ more))
  unfolding Worded Each
  binary-spaced or more m = (tt, (tt, m))
  binary-spaced and more m = (tt, (tt, m))
  binary-spaced until more m = (inl (binary-reserved until (lit≤ tt, (refl, tt))), m)
  binary-spaced release more m = (inl (binary-reserved release (lit≤ tt, (refl, tt))), m)
  binary-spaced implies more m = (tt, (tt, (tt, m)))
  binary-spaced equiv more m = (tt, (tt, (tt, (tt, m))))

  spaced : (more : List ℕ) → Worded Known [] more → Worded Known [] (space ∷ more)
  unfolding Worded
  spaced more m = (tt, m)

  wording : (t : Formula) → AllListed t → Wording (text names t)
  unfolding AllListed
  wording (leaf c) h more a m = wording-leaf c h more a m
  wording (unary u t) h more a m =
      rw (append_assoc (unary_token u) (space ∷ bracketed (text names t)) more)
      (unary-spaced u (bracketed (text names t) ++ more) (wrapped (text names t) (wording t h) more m))
  wording (binary o l r) h more a m =
      rw (
        append_assoc (bracketed (text names l)) (space ∷ (binary_token o ++ (space ∷ bracketed (text names r)))) more,
        append_assoc (binary_token o) (space ∷ bracketed (text names r)) more,
      )
      (wrapped (text names l) (wording l h.0) (space ∷ (binary_token o ++ (space ∷ (bracketed (text names r) ++ more))))
      (spaced (binary_token o ++ (space ∷ (bracketed (text names r) ++ more)))
      (binary-spaced o (bracketed (text names r) ++ more) (wrapped (text names r) (wording r h.1) more m))))

  -- no name in a printed text is unknown
  pub all_known : (t : Formula) → AllListed t → (k : ℕ) → UnknownAt names (text names t) k → ⊥
  unfolding Worded
  all_known t h k u =
      let w : Worded Known [] (text names t) = rw append-nil at (wording t h [] tt tt) in
      ⊎_elim u.free u.new (word_of Known (text names t) w k u.end u.word)
