-- Each return of the functions that read what stands where an operand is awaited.
-- Assumes nothing.
use mathlib.Core.Path.{◌≡◌, refl, sym, ap, ◌∙◌}
use mathlib.Core.Logic.{◌⊎◌, inl, inr}
use mathlib.Core.Bool.{Bool, true, false}
use mathlib.Core.List.{List, [], ◌∷◌, ◌++◌, append-nil, append_assoc}
use Prim.Native.Nat.{ℕ, suc, ◌+◌, ◌-◌, ◌≤◌, ◌<◌}
use native.Mathlib.Omega.{arith}
use native.Mathlib.Decide.{dec_lt}
use borrow.Author.Tests.{lt-ltb, le-ltb, ne_eqb, eq-eqb}
use lib.Dec.{eqb}
use lib.ListN.{length, take, drop, get_or, length-append, drop_of_length-le, get_or-eq_default}
use Rattle.sequence.specs.Operators.{Unary, unary_code}
use Rattle.grammar.specs.Token.{Atom, pre, NoWordByte}
use Rattle.sequence.specs.Operators.Unary.{not, weak_next, strong_next, finally, globally}
use Rattle.names.specs.Names.{is_letter, is_name_byte, same_bytes}
use Rattle.grammar.specs.Scan.{blank, bang, opener, closer, amp, bar, dash, less, other, Kind, wordy, square, sign, kind, Class, prefixed, leafy, neither, classify, ready, word}
use Rattle.grammar.specs.Scan.{rest, dead, on_ready, scan_step, scan_end}
use Rattle.grammar.specs.Passing.{ScanPasses, Stops}
use Rattle.reading.proofs.Lists.{true-false}
use Rattle.spelling.proofs.Same.{same-eq}
use Rattle.grammar.proofs.Words.{KindIs, kind-is, kind-word, letter-word, ClassIs, class-is}
use Rattle.grammar.proofs.Complete.{NoSquare}
use Rattle.grammar.proofs.Passage as passage
use Rattle.std.proofs.Common.{Result, Ok, Err}
use Rattle.tokens.specs.declared.Stop.{Stop}
use Rattle.operand.specs.declared.Awaited.{Awaited}
use Rattle.operand.specs.declared.Awaited.TheVariants.{Operator, Open, Word as LeafWord}
use Rattle.operand.specs.Front.{Front, Fronts, Ran, Strong}
use Rattle.tokens.proofs.Operators.{inside, head}

-- no operand: the offset of the byte that can't begin or continue one
abbrev pub bad : ℕ → Result Awaited Stop
bad k = Err (record { 0 = k })

-- what a test of a byte that was read says of the text
pub of-byte : (f : ℕ → Bool) {t x : Bool} {b v : ℕ} → t ≡ f b → t ≡ x → b ≡ v → f v ≡ x
of-byte f p q r = ap f (sym r) ∙ sym p ∙ q

module _ (text : List ℕ) where
  -- past the end is no word's byte
  pub word-inside : (i : ℕ) → is_name_byte (get_or text i 0) ≡ true → i < length text
  word-inside i e = elim (dec_lt i (length text)) [
    | yes h ↦ h
    | no h ↦ absurd (let z : get_or text i 0 ≡ 0 = get_or-eq_default text 0 (omega arith) in true-false (rw z at e) refl)
  ]

  -- a byte, and those behind it
  one-taken : (i r : ℕ) {x : List ℕ} → i < length text → i + 1 ≤ r → take (r - (i + 1)) (drop (i + 1) text) ≡ x → take (r - i) (drop i text) ≡ get_or text i 0 ∷ x
  one-taken i r h g e = let z : r - i ≡ suc (r - (i + 1)) = omega arith in rw (head text h refl, z) (ap (λ (l : List ℕ). get_or text i 0 ∷ l) e)

  -- ---- run

  module _ (start i : ℕ) (h : start < i) (g : i ≤ length text) where
    none-taken : take (i - i) (drop i text) ≡ []
    none-taken = let z : i - i ≡ 0 = omega arith in rw z

    pub run-full : i ≤ start + 16 → 16 ≤ i - start → Ran text start i i
    run-full f e =
        record {
          forward = omega arith;
          within = g;
          short = f;
          stops = λ l. absurd (omega arith);
          grows = λ v n. ([], rw append-nil n, (λ d. rw append-nil (passage.pass-none text g)), none-taken);
        }

    pub run-stops : i ≤ start + 16 → is_name_byte (get_or text i 0) ≡ false → Ran text start i i
    run-stops f e = record { forward = omega arith; within = g; short = f; stops = λ l. e; grows = λ v n. ([], rw append-nil n, (λ d. rw append-nil (passage.pass-none text g)), none-taken) }

    pub run_on : {r : ℕ} → i - start < 16 → is_name_byte (get_or text i 0) ≡ true → Ran text start (i + 1) r → Ran text start i r
    unfolding scan_step
    run_on {r} f e s = record {
      forward = omega (arith, s.forward);
      within = s.within;
      short = s.short;
      stops = s.stops;
      grows = λ v n.
          let b = get_or text i 0 in
          let l = length-append v (b ∷ []) in
          let k = s.grows (v ++ (b ∷ [])) (omega arith) in (
            b ∷ k.0,
            rw (append_assoc v (b ∷ []) k.0) at k.1,
            (λ d.
                let p : ScanPasses text (word v d) i [] (word (v ++ (b ∷ [])) d) (i + 1) = passage.pass-byte text (word-inside i e) (rw (kind-word b e, lt-ltb (length v) 16 (omega arith))) in
                rw (append_assoc v (b ∷ []) k.0) at (passage.pass-then text p (k.2 d))),
            one-taken i r (word-inside i e) s.forward k.3,
          );
    }

  -- ---- strong

  -- a byte that must come and does not
  rest-stops : (at c : ℕ) (cs : List ℕ) (d : ℕ) → at ≤ length text → (get_or text at 0 ≡ c → ⊥) → Stops text (rest c cs (pre strong_next) d) at at
  unfolding scan_step scan_end
  rest-stops at c cs d h n = elim (dec_lt at (length text)) [
    | yes g ↦ passage.stop-byte text g (rw (ne_eqb (get_or text at 0) c n))
    | no g ↦ passage.stop-end text (omega arith) refl
  ]

  module _ (at : ℕ) where
    module _ (e : get_or text at 0 ≡ 33) where
      bang-passes : (d : ℕ) → ScanPasses text (rest 33 (93 ∷ []) (pre strong_next) d) at [] (rest 93 [] (pre strong_next) d) (at + 1)
      unfolding scan_step
      bang-passes d = passage.pass-byte text (inside text at 32 e) (rw e)

      pub strong-is : get_or text (at + 1) 0 ≡ 93 → Strong text at (Ok (Operator (at + 2) 2))
      unfolding scan_step
      strong-is f =
          let n : at + 2 ≡ (at + 1) + 1 = omega arith in
          (omega arith, (λ d. rw n (passage.pass-then text (bang-passes d) (passage.pass-byte text (inside text (at + 1) 92 f) (rw f)))), refl)

      pub strong-cut : (get_or text (at + 1) 0 ≡ 93 → ⊥) → Strong text at (bad (at + 1))
      strong-cut n d = passage.pass-stop text (bang-passes d) (rest-stops (at + 1) 93 [] d (let h = inside text at 32 e in omega arith) n)

    pub strong-not : at ≤ length text → (get_or text at 0 ≡ 33 → ⊥) → Strong text at (bad at)
    strong-not h n d = rest-stops at 33 (93 ∷ []) d h n

  -- ---- word

  square-byte : (d : ℕ) {end : ℕ} → get_or text end 0 ≡ 91 → ScanPasses text (word (88 ∷ []) d) end [] (rest 33 (93 ∷ []) (pre strong_next) d) (end + 1)
  unfolding scan_step kind
  square-byte d {end} q = passage.pass-byte text (inside text end 90 q) (rw q)

  -- the classes of a word that begins with b
  leaf-class : (b : ℕ) (x : List ℕ) → (x ≡ [] → (b ≡ 88 → ⊥) × (b ≡ 70 → ⊥) × (b ≡ 71 → ⊥) × (b ≡ 85 → ⊥) × (b ≡ 82 → ⊥)) → (l : Atom) × (classify (b ∷ x) ≡ leafy l)
  leaf-class b x n = by-class (classify (b ∷ x)) refl (class-is (b ∷ x))
    where
      by-class : (c : Class) → classify (b ∷ x) ≡ c → ClassIs (b ∷ x) c → (l : Atom) × (classify (b ∷ x) ≡ leafy l)
      by-class (prefixed not) e c = absurd (true-false c.1 refl)
      by-class (prefixed weak_next) e c = let p = c.0 in absurd ((n (cc)).0 (cc))
      by-class (prefixed strong_next) e c = absurd (true-false c.1 refl)
      by-class (prefixed finally) e c = let p = c.0 in absurd ((n (cc)).1 (cc))
      by-class (prefixed globally) e c = let p = c.0 in absurd ((n (cc)).2 (cc))
      by-class (leafy l) e c = (l, e)
      by-class neither e (inl p) = absurd ((n (cc)).3 (cc))
      by-class neither e (inr p) = absurd ((n (cc)).4 (cc))

  module _ (at b : ℕ) (h : at < length text) (e : get_or text at 0 ≡ b) (l : is_letter b ≡ true) {end : ℕ} (r : Ran text at (at + 1) end) where
    letter-passes : (d : ℕ) → ScanPasses text (ready d) at [] (word (b ∷ []) d) (at + 1)
    unfolding scan_step
    letter-passes d = passage.pass-byte text h (rw (e, kind-word b (letter-word b l), l))

    -- the whole word
    ran : (x : List ℕ) × (at + length (b ∷ x) ≡ end) × ((d : ℕ) → ScanPasses text (ready d) at [] (word (b ∷ x) d) end) × (take (end - at) (drop at text) ≡ b ∷ x)
    ran =
        let g = r.grows (b ∷ []) (omega arith) in
        (g.0, g.1, (λ d. passage.pass-then text (letter-passes d) (g.2 d)), one-taken at end h r.forward g.3 ∙ ap (λ (v : ℕ). v ∷ g.0) e)

    pub word-long : is_name_byte (get_or text end 0) ≡ true → Fronts text at (bad end)
    unfolding scan_step
    word-long w d =
        let g = ran in
        let full : at + 16 ≤ end = elim (dec_lt end (at + 16)) [ yes s ↦ absurd (true-false w (r.stops s)) | no s ↦ omega arith ] in
        passage.pass-stop text (g.2 d) (passage.stop-byte text (word-inside end w) (rw (kind-word (get_or text end 0) w, le-ltb (length (b ∷ g.0)) 16 (omega (arith, g.1)))))

    module _ (w : is_name_byte (get_or text end 0) ≡ false) where
      -- no word goes on
      apart : NoWordByte (drop end text)
      apart = elim (dec_lt end (length text)) [ yes s ↦ rw (head text s refl) w | no s ↦ rw (drop_of_length-le text {i = end} (omega arith)) tt ]

      pub word-leaf : ((end ≡ at + 1) → (b ≡ 88 → ⊥) × (b ≡ 70 → ⊥) × (b ≡ 71 → ⊥) × (b ≡ 85 → ⊥) × (b ≡ 82 → ⊥)) → Fronts text at (Ok (LeafWord end at))
      word-leaf n =
          let g = ran in
          let c = leaf-class b g.0 (λ q. n (let z : length g.0 ≡ 0 = ap length q in omega (arith, g.1))) in (
            omega (arith, r.forward),
            c.0,
            (λ d. passage.pass-then text (g.2 d) (passage.word-leaf text (b ∷ g.0) d r.within apart c.1)),
            record { some = omega (arith, r.forward); within = r.within; leaf = ap classify g.3 ∙ c.1 },
          )

      module _ (one : end ≡ at + 1) where
        short : (x : List ℕ) → at + length (b ∷ x) ≡ end → x ≡ []
        short [] q = refl
        short (a ∷ x) q = absurd (omega arith)

        single : (d : ℕ) → ScanPasses text (ready d) at [] (word (b ∷ []) d) end
        single d = let g = ran in let z = short g.0 g.1 in rw z at (g.2 d)

        clear : (get_or text end 0 ≡ 91 → ⊥) → NoSquare (drop end text)
        clear n = elim (dec_lt end (length text)) [ yes s ↦ rw (head text s refl) (ne_eqb (get_or text end 0) 91 n) | no s ↦ rw (drop_of_length-le text {i = end} (omega arith)) tt ]

        word-prefix : (u : Unary) → classify (b ∷ []) ≡ prefixed u → (eqb b 88 ≡ true → get_or text end 0 ≡ 91 → ⊥) → Fronts text at (Ok (Operator end (unary_code u)))
        word-prefix u c n = (omega (arith, r.forward), u, (λ d. passage.pass-then text (single d) (passage.word-prefix text (b ∷ []) d r.within apart c (λ x. clear (n (only x))))), refl)
          where
            only : same_bytes (b ∷ []) (88 ∷ []) ≡ true → eqb b 88 ≡ true
            only x = let q = same-eq (b ∷ []) (88 ∷ []) x in eq-eqb b 88 (cc)

        -- `X`, where no `[` follows; `F` and `G`
        pub word_next : b ≡ 88 → (get_or text end 0 ≡ 91 → ⊥) → Fronts text at (Ok (Operator end 1))
        unfolding classify
        word_next q n = word-prefix weak_next (rw q) (λ _. n)

        pub word-finally : b ≡ 70 → Fronts text at (Ok (Operator end 3))
        unfolding classify
        word-finally q = word-prefix finally (rw q) (λ x. absurd (true-false x (rw q)))

        pub word-globally : b ≡ 71 → Fronts text at (Ok (Operator end 4))
        unfolding classify
        word-globally q = word-prefix globally (rw q) (λ x. absurd (true-false x (rw q)))

        -- `U` and `R` begin no operand
        pub word-neither : (b ≡ 82) ⊎ (b ≡ 85) → Fronts text at (bad end)
        unfolding classify
        word-neither c d = passage.pass-stop text (single d) (passage.word-neither text (b ∷ []) d r.within apart (elim c [ inl q ↦ rw q | inr q ↦ rw q ]))

        pub word-strong : b ≡ 88 → get_or text end 0 ≡ 91 → (f : Result Awaited Stop) → Strong text (end + 1) f → Fronts text at f
        word-strong x q f s = by_answer f s
          where
            square-passes : (d : ℕ) → ScanPasses text (ready d) at [] (rest 33 (93 ∷ []) (pre strong_next) d) (end + 1)
            square-passes d = passage.pass-then text (single d) (rw x (square-byte d q))

            by_answer : (f : Result Awaited Stop) → Strong text (end + 1) f → Fronts text at f
            by_answer (Ok (Operator next code)) s = (omega (arith, s.0, r.forward), strong_next, (λ d. passage.pass-then text (square-passes d) (s.1 d)), s.2)
            by_answer (Ok (Open next)) s = absurd s
            by_answer (Ok (LeafWord next start)) s = absurd s
            by_answer (Err e) s = λ d. passage.pass-stop text (square-passes d) (s d)

  -- ---- front

  module _ (at : ℕ) where
    front-end : at ≤ length text → length text ≤ at → Fronts text at (bad at)
    unfolding scan_end
    front-end h g d = passage.stop-end text (omega arith) refl

    pub front-past : length text ≤ at → Front text at (bad at)
    front-past g = ((λ h. front-end h g), λ _. refl)

    pub front-inside : {f : Result Awaited Stop} → at < length text → Fronts text at f → Front text at f
    front-inside h x = ((λ _. x), λ g. absurd (omega (arith, h, g)))

    module _ (h : at < length text) where
      blank-passes : get_or text at 0 ≡ 32 → (d : ℕ) → ScanPasses text (ready d) at [] (ready d) (at + 1)
      unfolding scan_step kind
      blank-passes e d = passage.pass-byte text h (rw e)

      pub front-blank : get_or text at 0 ≡ 32 → (f : Result Awaited Stop) → Fronts text (at + 1) f → Fronts text at f
      front-blank e (Ok (Operator next code)) s = (omega (arith, s.0), s.1, (λ d. passage.pass-then text (blank-passes e d) (s.2 d)), s.3)
      front-blank e (Ok (Open next)) s = (omega (arith, s.0), λ d. passage.pass-then text (blank-passes e d) (s.1 d))
      front-blank e (Ok (LeafWord next start)) s = (omega (arith, s.0), s.1, (λ d. passage.pass-then text (blank-passes e d) (s.2 d)), s.3)
      front-blank e (Err k) s = λ d. passage.pass-stop text (blank-passes e d) (s d)

      pub front-bang : get_or text at 0 ≡ 33 → Fronts text at (Ok (Operator (at + 1) 0))
      unfolding scan_step kind
      front-bang e = (omega arith, not, (λ d. passage.pass-byte text h (rw e)), refl)

      pub front-open : get_or text at 0 ≡ 40 → Fronts text at (Ok (Open (at + 1)))
      unfolding scan_step kind
      front-open e = (omega arith, λ d. passage.pass-byte text h (rw e))

      pub front-none : (get_or text at 0 ≡ 32 → ⊥) → (get_or text at 0 ≡ 33 → ⊥) → (get_or text at 0 ≡ 40 → ⊥) → is_letter (get_or text at 0) ≡ false → Fronts text at (bad at)
      unfolding scan_step
      front-none n1 n2 n3 l d = passage.stop-byte text h (by_kind (kind b) (kind-is b))
        where
          b : ℕ
          b = get_or text at 0

          by_kind : (k : Kind) → KindIs b k → on_ready d b k ≡ dead
          by_kind (wordy true) q = absurd (true-false q.1 l)
          by_kind (wordy false) q = refl
          by_kind square q = refl
          by_kind (sign blank) q = absurd (n1 q.1)
          by_kind (sign bang) q = absurd (n2 q.1)
          by_kind (sign opener) q = absurd (n3 q.1)
          by_kind (sign closer) q = refl
          by_kind (sign amp) q = refl
          by_kind (sign bar) q = refl
          by_kind (sign dash) q = refl
          by_kind (sign less) q = refl
          by_kind (sign other) q = refl
