-- A code, and the loop over codes, which remembers those before. What the code looks at are the file's own bytes.
-- Assumes nothing.
use mathlib.Core.Path.{◌≡◌, refl, sym, ap, ◌∙◌}
use mathlib.Core.Bool.{Bool, true, false}
use mathlib.Core.List.{List, [], ◌∷◌, ◌++◌}
use Prim.Native.Nat.{ℕ, ◌+◌, ◌≤◌, ◌<◌}
use native.Mathlib.Omega.{arith}
use borrow.Author.Tests.{lt-ltb, le-ltb}
use lib.Dec.{eqb}
use lib.ListN.{length, get_or, take, drop}
use Rattle.std.proofs.Common.{Result, Ok, Err}
use Rattle.reading.specs.declared.Read.{Read}
use Rattle.reading.specs.declared.Broken.{Broken}
use Rattle.reading.specs.Reading.{each_item, byte, is_in, step_of, one}
use Rattle.sections.specs.Sections.{code}
use Rattle.reading.proofs.Spans.{head, inside}
use Rattle.reading.proofs.Steps.{step-read, step-broken, Loop, start, turn, broken}
use Rattle.sections.proofs.CodeLaws.{new-sound}
use Rattle.reading.proofs.Runs.{run_more}

-- ---- one code

module _ (group : ℕ → Bool) (before file : List ℕ) (at : ℕ) where
  pub code-ends : length file ≤ at → Err (record { 0 = length file }) ≡ step_of (λ c. c) (code group before file at)
  unfolding byte
  code-ends h = simp (le-ltb at (length file) h)

  module _ (h : at < length file) where
    pub code_off : group (get_or file at 0) ≡ false → Err (record { 0 = at }) ≡ step_of (λ c. c) (code group before file at)
    unfolding byte
    code_off e = simp (lt-ltb at (length file) h, e)

    module _ (e : group (get_or file at 0) ≡ true) where
      pub code-twice : is_in eqb (get_or file at 0) before ≡ true → Err (record { 0 = at }) ≡ step_of (λ c. c) (code group before file at)
      unfolding byte
      code-twice q = simp (lt-ltb at (length file) h, e, q)

      pub code-new : is_in eqb (get_or file at 0) before ≡ false → Ok (record { value = get_or file at 0; next = at + 1 }) ≡ step_of (λ c. c) (code group before file at)
      unfolding byte
      code-new q = simp (lt-ltb at (length file) h, e, q)

-- ---- the loop

-- the codes before are the file's bytes from `from` on

pub record Codes (group : ℕ → Bool) (file : List ℕ) (from count i p : ℕ) : Type 0 where
  pub loop : Loop (code group) file from count i p
  pub seen : loop.seen ≡ take i (drop from file)
  pub at : p ≡ from + i
  pub room : p ≤ length file

module _ (group : ℕ → Bool) (file : List ℕ) (from count : ℕ) where
  pub codes-start : from ≤ length file → Codes group file from count 0 from
  unfolding start
  codes-start h = record { loop = start (code group) file from count; seen = refl; at = omega arith; room = h }

  module _ {i p : ℕ} (l : Codes group file from count i p) (h : i < count) where
    item : {r : Result Read Broken} → r ≡ step_of (λ c. c) (code group (take i (drop from file)) file (from + i)) → r ≡ step_of (λ c. c) (code group l.loop.seen file p)
    item e = e ∙ ap (step_of (λ c. c)) (ap (λ (q : ℕ). code group (take i (drop from file)) file q) (sym l.at) ∙ ap (λ (b : List ℕ). code group b file p) (sym l.seen))

    pub codes-turn : {s : Read} → Ok s ≡ step_of (λ c. c) (code group (take i (drop from file)) file (from + i)) → Codes group file from count (i + 1) s.next
    unfolding turn
    codes-turn {s} e =
        let t = step-read (λ c. c) (code group l.loop.seen file p) (item e) in
        let spans = (new-sound group file l.loop.seen p t.0 s.next t.1).1 in
        let b = head file p t.0 (drop s.next file) spans.is in
        let g : get_or file (from + i) 0 ≡ t.0 = ap (λ (x : ℕ). get_or file x 0) (sym l.at) ∙ b.1 in
        let lt : from + i < length file = omega (arith, b.0, l.at) in
        record {
          loop = turn (code group) file l.loop h t.1;
          seen = ap (λ (x : List ℕ). x ++ (t.0 ∷ [])) l.seen ∙ ap (λ (x : ℕ). take i (drop from file) ++ (x ∷ [])) (sym g) ∙ sym (run_more file from i lt);
          at = omega (arith, spans.end, l.at);
          room = inside file (one t.0) spans l.room;
        }

    pub codes-broken : {o : Broken} → Err o ≡ step_of (λ c. c) (code group (take i (drop from file)) file (from + i)) → Err o ≡ step_of length (each_item (code group) count [] file from)
    codes-broken e = broken (code group) file l.loop h (step-broken (λ c. c) (code group l.loop.seen file p) (item e))
