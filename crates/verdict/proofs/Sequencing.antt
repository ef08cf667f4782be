-- A formula's sequence on one session: what the evaluator's answer comes to, and that the contract leaves one answer. What passes the check with a root
-- passes it with each listed node in the root's stead.
-- Assumes nothing.
use mathlib.Core.Path.{◌≡◌, refl, sym, ap, ap₂, ◌∙◌, subst}
use mathlib.Core.Logic.{inl, inr}
use mathlib.Core.List.{List}
use Prim.Native.Nat.{ℕ, ◌*◌, ◌≤◌, ◌<◌}
use native.Mathlib.Omega.{arith}
use lib.ListN.{length}
use Rattle.words.specs.Word.{width}
use Rattle.words.proofs.At.{means-unique}
use Rattle.rules.specs.Refusals.{Decided}
use Rattle.rules.specs.Limits.{most_sessions, most_room}
use Rattle.rules.proofs.Refusals.{decided-unique, refusal-one}
use Rattle.sequence.specs.declared.CharSeq.{CharSeq}
use Rattle.sequence.specs.Sequence.{seq, Denotes}
use Rattle.session.specs.Data.{outside_numbers, too_long}
use Rattle.session.specs.Recording.{Recording, length_of}
use Rattle.formula.specs.Formula.{Formula, Holds}
use Rattle.formula.specs.Nodes.{Node, node_at}
use Rattle.formula.specs.Recorded.{marked_trace}
use Rattle.formula.specs.Rule.{Broken}
use Rattle.formula.specs.Rule.Broken.{too_many}
use Rattle.verdict.specs.Check.{check_rows}
use Rattle.verdict.specs.Sequences.{SequenceOn, SequenceAnswer}
use Rattle.formula.specs.Faultless.{Fits}
use Rattle.verdict.specs.Inner.{Evaluated, Checkable}
use Rattle.formula.specs.Faultless.Fits.{leaf, unary, binary}
use Rattle.std.specs.Prelude.{Option, None, Some, Result, Ok, Err}
use Rattle.rules.specs.declared.refusal.Refusal.{Refusal}
use Rattle.formula.proofs.Faults.{whole-fits, fits_whole}
use Rattle.formula.proofs.Spelled.{one-formula, spelled}

module _ (i : Recording) (k : List Node) (root : Node) (j : ℕ) where
  -- what the evaluator answers is the sequence of the formula that the root spells
  pub sequence-on : {w : CharSeq} → Checkable i k root → j < i.sessions
      → Evaluated (length_of i j) i.words (j * i.propositions) k root w → SequenceOn i k root j w
  sequence-on c h ev =
      let t = spelled i.propositions k c.all (length k) (omega arith) root c.fits in
      record { there = h; formula = t.0; spells = t.1; denotes = ev t.0 t.1 }

  one-sequence : (s t : CharSeq) → SequenceOn i k root j s → SequenceOn i k root j t → s ≡ t
  one-sequence s t a b =
      let e = one-formula k root b.formula a.formula b.spells a.spells in
      let d = subst (λ (u : Formula). Denotes (length_of i j) (Holds (marked_trace i j).trace u) t) e b.denotes in
      ap₂ seq (a.denotes.length ∙ sym d.length) (means-unique a.denotes.means d.means)

  pub sequence-unique : (a b : Result (Option CharSeq) Refusal) → SequenceAnswer i k root j a → SequenceAnswer i k root j b → a ≡ b
  sequence-unique (Ok (Some s)) (Ok (Some t)) p q = ap (λ (r : CharSeq). Ok (Some r)) (one-sequence s t p.carries q.carries)
  sequence-unique (Ok (Some s)) (Ok None) p q = absurd (omega (arith, p.carries.there, q.carries))
  sequence-unique (Ok (Some s)) (Err n) p q = absurd (omega (arith, decided-unique _ _ _ p.number q.number, q.carries))
  sequence-unique (Ok None) (Ok (Some t)) p q = absurd (omega (arith, p.carries, q.carries.there))
  sequence-unique (Ok None) (Ok None) p q = refl
  sequence-unique (Ok None) (Err n) p q = absurd (omega (arith, decided-unique _ _ _ p.number q.number, q.carries))
  sequence-unique (Err n) (Ok (Some t)) p q = absurd (omega (arith, decided-unique _ _ _ p.number q.number, p.carries))
  sequence-unique (Err n) (Ok None) p q = absurd (omega (arith, decided-unique _ _ _ p.number q.number, p.carries))
  sequence-unique (Err n) (Err o) p q = ap Err (refusal-one n o (decided-unique _ _ _ p.number q.number))

-- ---- a listed node in the root's stead

fits_wider : (m : ℕ) (k : List Node) (b d : ℕ) → b ≤ d → (n : Node) → Fits m k b n → Fits m k d n
fits_wider m k b d h n (leaf c e l i r s) = leaf c e l i r s
fits_wider m k b d h n (unary op e l r s q) = unary op e (omega arith) r s q
fits_wider m k b d h n (binary op e l r s q) = binary op e (omega arith) (omega arith) s q

listed-whole : (m : ℕ) (k : List Node) (root : Node) (p : ℕ) → p < length k → (Broken m k root → ⊥) → Broken m k (node_at k p) → ⊥
listed-whole m k root p h u =
    let w = whole-fits m k root u in
    let few : most_room < length k → ⊥ = λ g. u (too_many g) in
    fits_whole m k (node_at k p) (omega arith) w.0 (fits_wider m k p (length k) (omega arith) (node_at k p) (w.0 p h))

module _ (i : Recording) (k : List Node) (root : Node) where
  -- the numbers are inside, no length is above 64, the list is whole, and with another root that it is whole with every row stays ungiven
  passes : Decided (check_rows i k root) 0 → ((outside_numbers i.sessions i.propositions).given → ⊥)
      × ((too_long i).given → ⊥) × (Broken i.propositions k root → ⊥)
      × ((q : Node) → (Broken i.propositions k q → ⊥) → Decided (check_rows i k q) 0)
  unfolding Decided
  passes (inl p) = absurd (omega (arith, p.1))
  passes (inr (a, inl p)) = absurd (omega (arith, p.1))
  passes (inr (a, inr (b, inl p))) = absurd (omega (arith, p.1))
  passes (inr (a, inr (b, inr (c, inl p)))) = absurd (omega (arith, p.1))
  passes (inr (a, inr (b, inr (c, inr (e, inl p))))) = absurd (omega (arith, p.1))
  passes (inr (a, inr (b, inr (c, inr (e, inr (f, inl p)))))) = absurd (omega (arith, p.1))
  passes (inr (a, inr (b, inr (c, inr (e, inr (f, inr (g, z))))))) = (a, c, g, λ q u. inr (a, inr (b, inr (c, inr (e, inr (f, inr (u, refl)))))))

  module _ (d : Decided (check_rows i k root) 0) where
    pub passed-list : Broken i.propositions k root → ⊥
    passed-list = (passes d).2

    pub passed-sessions : i.sessions ≤ most_sessions
    passed-sessions = let x : most_sessions < i.sessions → ⊥ = λ h. (passes d).0 (inl (inr h)) in omega arith

    pub passed-lengths : (j : ℕ) → j < i.sessions → length_of i j ≤ width
    passed-lengths j h = let x : width < length_of i j → ⊥ = λ g. (passes d).1 (j, h, g) in omega arith

    -- the data are the same, and the node has no fault at its own place
    pub listed-passes : (p : ℕ) → p < length k → Decided (check_rows i k (node_at k p)) 0
    listed-passes p h = (passes d).3 (node_at k p) (listed-whole i.propositions k root p h passed-list)
