-- Each return of the descent, from what its calls answered.
-- Assumes nothing.
use mathlib.Core.Path.{◌≡◌, refl, ap, sym, subst, ◌∙◌}
use mathlib.Core.List.{List, [], ◌∷◌, ◌++◌}
use Prim.Native.Nat.{ℕ, suc, ◌+◌, ◌-◌, ◌≤◌, ◌<◌}
use native.Mathlib.Omega.{arith}
use lib.ListN.{length, set, drop}
use lib.Seq.{sets}
use Rattle.sequence.specs.Operators.{Binary, binary_code}
use Rattle.formula.specs.Formula.{unary, size}
use Rattle.formula.specs.Nodes.{Node}
use Rattle.grammar.specs.Token.{opens, closes}
use Rattle.grammar.specs.Grammar.{level, right_level, bracket}
use Rattle.grammar.specs.Passing.{Peek, op, nothing, cut, peek, IfOp, QuietAt, Stops, Refuses, Continues}
use Rattle.grammar.specs.Scan.{after}
use Rattle.grammar.specs.Nodes.{nodes_of}
use Rattle.formula.specs.Kinds.{node}
use Rattle.grammar.proofs.Levels.{sides}
use Rattle.grammar.proofs.Peeks.{some}
use Rattle.grammar.proofs.Passage as passage
use Rattle.std.proofs.Common.{Result, Ok, Err}
use Rattle.tokens.specs.declared.Stop.{Stop}
use Rattle.tokens.specs.declared.operator.Infix.{Infix as Found}
use Rattle.tokens.specs.declared.operator.Next.{Next}
use Rattle.tokens.specs.declared.operator.Next.TheVariants.{Infix as IsInfix, Nothing}
use Rattle.operand.specs.declared.Awaited.{Awaited}
use Rattle.operand.specs.declared.Awaited.TheVariants.{Operator as PrefixOperator, Open, Word as LeafWord}
use Rattle.descent.specs.declared.Got.{Got}
use Rattle.names.specs.Names.{names_in, GoodNames}
use Rattle.tokens.specs.Next.{PeekSaid, Operator}
use Rattle.operand.specs.Front.{Fronts}
use Rattle.descent.specs.Packed.{codes_by, pack, packs, most_field}
use Rattle.descent.specs.Inner.{LeafFields}
use Rattle.descent.specs.Answers.{Closing, Infix, More, Prefix, Bracket, EndsAt, NoLarger, WholeText}
use Rattle.descent.proofs.Lookup.{field-small}
use Rattle.descent.proofs.Scratch.{nodes-length, written-length, written_then, written-leaf, written-unary, written-more}

module _ (file text : List ℕ) (place : ℕ) (old mid : List ℕ) where
  -- ---- an answer that is known: how far it went, and the scratch is as long as it was

  pub infix-val : (n at : ℕ) {g : Got} → Infix file place old mid text n at (Ok g) → NoLarger text at g.next g.size × (length mid ≡ length old)
  infix-val n at x = (x.0, written-length old place (nodes_of (codes_by (names_in file)) place x.1) x.5)

  pub prefix-val : (at : ℕ) {g : Got} → Prefix file place old mid text at (Ok g) → NoLarger text at g.next g.size × (length mid ≡ length old)
  prefix-val at x = (x.0, written-length old place (nodes_of (codes_by (names_in file)) place x.1) x.4)

  -- ---- read_bracket

  module _ (at : ℕ) {g : Got} (x : Infix file place old mid text 0 at (Ok g)) where
    pub bracket-closed : {next : ℕ} → Closing text g.next (Ok next) → Bracket file place old mid text at (Ok (record { next = next; size = g.size }))
    bracket-closed c =
        let q = c x.4 0 in
        ((x.0.0, omega (arith, x.0.1, q.forward), q.within), x.1, x.2.tokens, (λ d. passage.pass-then text (x.2.passes (suc d)) (c x.4 d)), x.2.derived, x.3, x.5)

    pub bracket-open : {e : Stop} → Closing text g.next (Err e) → Bracket file place old mid text at (Err e)
    bracket-open c = λ d. passage.pass-stop text (x.2.passes (suc d)) (c x.4 d)

  -- ---- read_infix

  pub infix-more : (n at : ℕ) {g : Got} (new : List ℕ) (s : Result Got Stop) → n ≤ 4 → Prefix file place old mid text at (Ok g) → More file place mid new text n g.next g.size s
      → Infix file place old new text n at s
  infix-more n at new (Ok w) h x g =
      let C = codes_by (names_in file) in
      let u = passage.is-infix text C place h x.2 x.3 g.5 in
      let z : length (nodes_of C place x.1) ≡ size x.1 = nodes-length C place x.1 in
      let wrote : new ≡ sets old place (packs (nodes_of C place x.1 ++ g.4)) = written_then old place (nodes_of C place x.1) g.4 (omega (arith, x.3)) x.4 g.7 in
      ((omega (arith, x.0.0, g.1), omega (arith, x.0.1, g.2), g.3), u.0, u.1, u.2, g.6, wrote ∙ ap (λ (l : List Node). sets old place (packs l)) (sym u.3))
  infix-more n at new (Err e) h x g = λ d. passage.pass-stop text (x.2.passes d) (g d)

-- ---- read_more

module _ (file text : List ℕ) (place at : ℕ) (h : at ≤ length text) where
  -- the operator that was read
  abbrev Seen : Found → Type 0
  Seen i = (o : Binary) × (m : ℕ) × (peek (drop at text) ≡ op o m) × (i.level ≡ level o) × (i.right ≡ right_level o) × (i.next ≡ at + m) × (i.code ≡ binary_code o)

  seen : {a : Next} {i : Found} → a ≡ IsInfix i → Operator text at (Ok a) → Seen i
  seen {i = i} e f = by-peek (peek (drop at text)) refl (subst (λ (n : Next). PeekSaid at (peek (drop at text)) (Ok n)) e f)
    where
      by-peek : (k : Peek) → peek (drop at text) ≡ k → PeekSaid at k (Ok (IsInfix i)) → Seen i
      by-peek (op o m) q s = (o, m, q, s.0, s.1, s.2, s.3)
      by-peek (nothing m) q s = absurd s
      by-peek (cut m) q s = absurd s

  pub op-next : {a : Next} {i : Found} → a ≡ IsInfix i → Operator text at (Ok a) → (at < i.next) × (i.next ≤ length text) × (i.right ≤ 4)
  op-next e f =
      let s = seen e f in
      let p = rw s.2 at (some (drop at text)) in
      let w = (passage.pass-op text at h s.2 0).within in
      let o = sides s.0 in
      (omega (arith, p, s.5), omega (arith, w, s.5), omega (arith, s.4))

  -- nothing more is read
  ends : (n m : ℕ) (old : List ℕ) → QuietAt text n at → More file place old old text n at m (Ok (record { next = at; size = m }))
  ends n m old q = (omega arith, omega arith, omega arith, h, [], passage.no_more text (codes_by (names_in file)) place h, q, refl)

  pub more-low : (n m : ℕ) (old : List ℕ) {a : Next} {i : Found} → a ≡ IsInfix i → Operator text at (Ok a) → i.level < n
      → More file place old old text n at m (Ok (record { next = at; size = m }))
  more-low n m old e f g = let s = seen e f in let q : QuietAt text n at = rw s.2 (omega (arith, s.3)) in ends n m old q

  pub more-nothing : (n m : ℕ) (old : List ℕ) {a : Next} {i : ℕ} → a ≡ Nothing i → Operator text at (Ok a) → More file place old old text n at m (Ok (record { next = at; size = m }))
  more-nothing n m old {i = i} e f = ends n m old (by-peek (peek (drop at text)) (subst (λ (n : Next). PeekSaid at (peek (drop at text)) (Ok n)) e f))
    where
      by-peek : (k : Peek) → PeekSaid at k (Ok (Nothing i)) → IfOp (λ o. level o < n) ⊥ k
      by-peek (op o m) s = absurd s
      by-peek (nothing m) s = tt
      by-peek (cut m) s = absurd s

  pub more_cut : {e : Stop} → Operator text at (Err e) → (d : ℕ) → Stops text (after d) at e.0
  more_cut {e} f d = by-peek (peek (drop at text)) refl f
    where
      by-peek : (p : Peek) → peek (drop at text) ≡ p → PeekSaid at p (Err e) → Stops text (after d) at e.0
      by-peek (op o m) q s = absurd s
      by-peek (nothing m) q s = absurd s
      by-peek (cut m) q s = rw s (passage.stop-cut text at h q d)

  module _ {a : Next} {i : Found} (e : a ≡ IsInfix i) (f : Operator text at (Ok a)) where
    pub more-refused : {k : Stop} → Refuses text i.next k.0 → (d : ℕ) → Stops text (after d) at k.0
    more-refused {k} x d =
        let s = seen e f in
        let y : Refuses text (at + s.1) k.0 = rw s.5 at x in
        passage.pass-stop text (passage.pass-op text at h s.2 d) (y d)

    pub more-on : (old mid : List ℕ) (n before : ℕ) (both new : List ℕ) {b : Got} (c : Result Got Stop) → n ≤ i.level
        → Infix file (place + before) old mid text i.right i.next (Ok b)
        → both ≡ set mid (place + before + b.size) (pack (node i.code (place + before - 1) (place + before + b.size - 1) (1 + before + b.size)))
        → More file place both new text n b.next (1 + (before + b.size)) c → More file place old new text n at before c
    more-on old mid n before both new {b} c low g wrote m =
        let s = seen e f in
        let x : Infix file (place + before) old mid text (right_level s.0) (at + s.1) (Ok b) =
        subst (λ (v : ℕ). Infix file (place + before) old mid text (right_level s.0) v (Ok b)) s.5
        (subst (λ (v : ℕ). Infix file (place + before) old mid text v i.next (Ok b)) s.4 g) in
        let p = rw s.2 at (some (drop at text)) in
        by_answer c s.0 s.1 s.2 p (omega (arith, s.3)) s.6 x m
      where
        by_answer : (c : Result Got Stop) (o : Binary) (v : ℕ) → peek (drop at text) ≡ op o v → 1 ≤ v → n ≤ level o → i.code ≡ binary_code o
            → Infix file (place + before) old mid text (right_level o) (at + v) (Ok b) → More file place both new text n b.next (1 + (before + b.size)) c → More file place old new text n at before c
        by_answer (Ok last) o v p pos l k x m =
            let C = codes_by (names_in file) in
            let go = subst (λ (y : ℕ). Continues C place text n b.next last.next y last.size m.4) (ap (λ (y : ℕ). 1 + (before + y)) (sym x.3)) m.5 in (
              omega (arith, x.0.1, m.0),
              omega (arith, m.1),
              omega (arith, x.0.1, m.2),
              m.3,
              passage.behind_left text C place before o x.1 ++ m.4,
              passage.one_more text C place o p h l x.2 x.4 go,
              m.6,
              written-more file text place old mid both before o x.1 m.4 k x.3 x.5 wrote m.7,
            )
        by_answer (Err k) o v p pos l c x m = λ d. passage.pass-stop text (passage.pass-op text at h p d) (passage.pass-stop text (x.2.passes d) (m d))

-- ---- read_prefix

module _ (file text : List ℕ) (place : ℕ) (old mid : List ℕ) (at : ℕ) {f : Awaited} (g : Fronts text at (Ok f)) where
  -- what the operand's first token is
  first : {w : Awaited} → f ≡ w → Fronts text at (Ok w)
  first e = subst (λ (w : Awaited). Fronts text at (Ok w)) e g

  pub operator-next : {next c : ℕ} → f ≡ PrefixOperator next c → (at < next) × (next ≤ length text)
  operator-next e = let x = first e in (x.0, (x.2 0).within)

  pub open_next : {next : ℕ} → f ≡ Open next → (at < next) × (next ≤ length text)
  open_next e = let x = first e in (x.0, (x.1 0).within)

  pub word_next : {next start : ℕ} → f ≡ LeafWord next start → (at < next) × (start < next) × (next ≤ length text)
  word_next e = let x = first e in (x.0, x.3.some, x.3.within)

  pub prefix-operator : (new : List ℕ) {next c : ℕ} {b : Got} → f ≡ PrefixOperator next c → Prefix file place old mid text next (Ok b)
      → new ≡ set mid (place + b.size) (pack (node c (place + b.size - 1) 0 (1 + b.size))) → Prefix file place old new text at (Ok (record { next = b.next; size = 1 + b.size }))
  prefix-operator new e y wrote =
      let x = first e in (
        (omega arith, omega (arith, x.0, y.0.1), y.0.2),
        unary x.1 y.1,
        passage.is-prefix text x.1 x.2 y.2,
        ap (λ (v : ℕ). 1 + v) y.3,
        written-unary file text place old mid x.1 y.1 x.3 y.3 y.4 wrote,
      )

  pub prefix-operator-refused : {next c : ℕ} {k : Stop} → f ≡ PrefixOperator next c → Prefix file place old mid text next (Err k) → Prefix file place old mid text at (Err k)
  prefix-operator-refused e y = let x = first e in λ d. passage.pass-stop text (x.2 d) (y d)

  pub prefix-bracket : {next : ℕ} (r : Result Got Stop) → f ≡ Open next → Bracket file place old mid text next r → Prefix file place old mid text at r
  prefix-bracket (Ok end) e b =
      let x = first e in (
        (b.0.0, omega (arith, x.0, b.0.1), b.0.2),
        b.1,
        record { tokens = opens ∷ (b.2 ++ (closes ∷ [])); passes = λ d. passage.pass-then text (x.1 d) (b.3 d); derived = bracket b.4 },
        b.5,
        b.6,
      )
  prefix-bracket (Err k) e b = let x = first e in λ d. passage.pass-stop text (x.1 d) (b d)

  pub prefix-leaf : {next start code left : ℕ} → f ≡ LeafWord next start → LeafFields file text start (next - start) code left
      → mid ≡ set old place (pack (node code left 0 1)) → Prefix file place old mid text at (Ok (record { next = next; size = 1 }))
  prefix-leaf e l wrote =
      let x = first e in
      ((omega arith, omega (arith, x.0), x.3.within), _, passage.is_leaf text x.1 x.2, refl, written-leaf file text place old x.1 (l x.1 x.3.leaf) wrote)

  -- a name's number packs
  pub leaf-small : GoodNames file → {next start code left : ℕ} → f ≡ LeafWord next start → LeafFields file text start (next - start) code left → left < most_field
  leaf-small n e l = let x = first e in let m = field-small file n x.1 in let q = l x.1 x.3.leaf in omega (arith, q.1)

-- ---- read_text

module _ (file text old new : List ℕ) where
  pub whole-refused : {e : Stop} → Infix file 0 old new text 0 0 (Err e) → WholeText file old new text (Err e)
  whole-refused x = passage.is-refused text (x 0)

  module _ {g : Got} (x : Infix file 0 old new text 0 0 (Ok g)) where
    pub whole-ended : EndsAt text g.next (Ok tt) → WholeText file old new text (Ok g.size)
    whole-ended c = (x.1, passage.is-formula text x.2 (c x.4), x.3, x.5)

    pub whole_open : {e : Stop} → EndsAt text g.next (Err e) → WholeText file old new text (Err e)
    whole_open c = passage.is-refused text (passage.pass-stop text (x.2.passes 0) (c x.4))
