-- How long a report can be. The places under the root are among those that its formula's tree names, one for each of its nodes but the first; a place has one
-- line; and a line is short, since one of the two first snapshots is 0 or none.
-- Assumes nothing.
use mathlib.Core.Path.{◌≡◌, refl, sym, ap, ◌∙◌, subst}
use mathlib.Core.Bool.{Bool, true, false, cond}
use mathlib.Core.Logic.{◌⊎◌, inl, inr, ⊎_elim}
use mathlib.Core.List.Memᴰ
use mathlib.Core.List.{List, [], ◌∷◌, ◌++◌}
use Prim.Native.Nat.{ℕ, zero, suc, ◌+◌, ◌*◌, ◌/◌, ◌%◌, ◌^◌, ◌≤◌, ◌<◌}
use native.Mathlib.Nat.{mul-le-mul_right, suc-mul, le_trans, le_of_eq, eq-or-lt_of_le}
use native.Mathlib.Decide.{dec_lt}
use native.Mathlib.Omega.{arith}
use lib.Dec.{ltb}
use lib.ListN.{length, length-append}
use borrow.Author.Tests.{lt-ltb}
use Rattle.words.specs.Ltlf.{Reading}
use Rattle.words.specs.Word.{width}
use Rattle.rules.specs.Limits.{most_size, most_room, most_sessions}
use Rattle.rules.specs.Lists.{◌∈◌}
use Rattle.rules.specs.Refusals.{Decided}
use Rattle.writing.specs.Writing.{digit, digits, decimal, most_digits}
use Rattle.session.specs.Recording.{Recording, length_of}
use Rattle.formula.specs.Formula.{Formula, leaf, unary, binary, size, Holds}
use Rattle.formula.specs.Nodes.{Node, node_at, Spells, codes}
use Rattle.formula.specs.Recorded.{marked_trace}
use Rattle.verdict.specs.Check.{check_rows}
use Rattle.formula.proofs.Faults.{not-both, not-unary-leaf, not-binary-leaf}
use Rattle.formula.proofs.Spelled.{list-spells}
use Rattle.verdict.proofs.Sequencing.{passed-list, passed-sessions, passed-lengths}
use Rattle.std.specs.Prelude.{Option, None, Some}
use Rattle.summary.specs.declared.values.Summary.{Summary}
use Rattle.summary.specs.Values.{LeastIn, CountIn, Fails, Summed}
use Rattle.report.specs.Under.{Child, Down, Under}
use Rattle.report.specs.Lines.{first_text, summary_text, place_line, root_line, newline, blank, root_word, PlaceLines, SessionLines, SessionsLines}
use Rattle.report.specs.Lines.PlaceLine.{one, none}
use Rattle.report.specs.Promises.{longest_line, longest_of, longest_report, most_report, ReportFits}
use Rattle.report.proofs.Marking.{few-places}

-- ---- digits

short-more : (k n d : ℕ) (l : List ℕ) → (10 ≤ n → length l ≤ d) → 1 ≤ suc d → (b : Bool) → ltb n 10 ≡ b
    → length (cond b (digit n ∷ []) (l ++ (digit (n % 10) ∷ []))) ≤ suc d
short-more k n d l h g true e = omega arith
short-more k n d l h g false e =
    let a = length-append l (digit (n % 10) ∷ []) in
    elim (dec_lt n 10) [ yes s ↦ (let z : ◌≡◌ {A = ℕ} 0 1 = cc (lt-ltb n 10 s, e) in omega arith) | no s ↦ omega (arith, h (omega arith)) ]

-- a number below 10 ^ d has at most d digits, and one where d is 0
few : (k n d : ℕ) → n < 10 ^ suc d → length (digits k n) ≤ suc d
unfolding digits
few zero n d h = omega arith
few (suc k) n zero h = short-more k n 0 (digits k (n / 10)) (λ g. omega arith) (omega arith) (ltb n 10) refl
few (suc k) n (suc d) h = short-more k n (suc d) (digits k (n / 10)) (λ g. few k (n / 10) d (omega arith)) (omega arith) (ltb n 10) refl

-- ---- one line

count-le : (n : ℕ) (f : Reading) (c : ℕ) → CountIn n f c → c ≤ n
count-le zero f c e = omega arith
count-le (suc n) f c (inl (a, (b, e, rest))) = let h = count-le n f b rest in omega arith
count-le (suc n) f c (inr (a, rest)) = let h = count-le n f c rest in omega arith

-- a snapshot below 64 has at most two digits
first_two : (n : ℕ) (f : Reading) (r : Option ℕ) → n ≤ width → LeastIn n f r → length (first_text r) ≤ 2
first_two n f None h l = omega arith
first_two n f (Some p) h l = let i = l.0 in few most_digits p 1 (omega arith)

-- at snapshot 0 it holds or not, so one of the two is 0 or never
firsts : (n : ℕ) (f : Reading) (a b : Option ℕ) → n ≤ width → LeastIn n f a → LeastIn n (Fails f) b → length (first_text a) + length (first_text b) ≤ 3
firsts n f None b h l m = let i = first_two n (Fails f) b h m in omega arith
firsts n f (Some zero) b h l m = let i = first_two n (Fails f) b h m in let j = few most_digits 0 0 (omega arith) in omega arith
firsts n f (Some (suc p)) None h l m = let i = first_two n f (Some (suc p)) h l in omega arith
firsts n f (Some (suc p)) (Some zero) h l m = let i = first_two n f (Some (suc p)) h l in let j = few most_digits 0 0 (omega arith) in omega arith
firsts n f (Some (suc p)) (Some (suc q)) h l m = absurd (m.2 0 (omega arith) (l.2 0 (omega arith)))

summary-short : (n : ℕ) (f : Reading) (s : Summary) → n ≤ width → Summed n f s → length (summary_text s) ≤ 9
summary-short n f s h a =
    let i = firsts n f s.holds s.fails h a.holds a.fails in
    let c = count-le n f s.count a.count in
    let d = few most_digits s.count 1 (omega arith) in
    let x = length-append (first_text s.holds) (blank ++ (first_text s.fails ++ (blank ++ (decimal s.count ++ newline)))) in
    let y = length-append (first_text s.fails) (blank ++ (decimal s.count ++ newline)) in
    let z = length-append (decimal s.count) newline in
    omega arith

place_short : (n : ℕ) (f : Reading) (j p : ℕ) (s : Summary) → n ≤ width → Summed n f s → p < most_room → length (place_line j p s) ≤ longest_line j
place_short n f j p s h a l =
    let i = summary-short n f s h a in
    let d = few most_digits p 3 (omega arith) in
    let x = length-append (decimal j) (blank ++ (decimal p ++ summary_text s)) in
    let y = length-append (decimal p) (summary_text s) in
    omega arith

root-short : (n : ℕ) (f : Reading) (j : ℕ) (s : Summary) → n ≤ width → Summed n f s → length (root_line j s) ≤ longest_line j
root-short n f j s h a =
    let i = summary-short n f s h a in
    let x = length-append (decimal j) (root_word ++ summary_text s) in
    omega arith

-- ---- the places that a tree names

named : (k : List Node) → Node → Formula → List ℕ
named k n (leaf c) = []
named k n (unary op t) = n.left ∷ named k (node_at k n.left) t
named k n (binary op l r) = n.left ∷ (n.right ∷ (named k (node_at k n.left) l ++ named k (node_at k n.right) r))

as_many : (k : List Node) (n : Node) (t : Formula) → suc (length (named k n t)) ≡ size t
unfolding named
as_many k n (leaf c) = refl
as_many k n (unary op t) = let h = as_many k (node_at k n.left) t in omega arith
as_many k n (binary op l r) =
    let h = as_many k (node_at k n.left) l in
    let g = as_many k (node_at k n.right) r in
    let e = length-append (named k (node_at k n.left) l) (named k (node_at k n.right) r) in
    omega arith

split : (s : List ℕ) {t : List ℕ} {a : ℕ} → a ∈ (s ++ t) → (a ∈ s) ⊎ (a ∈ t)
split [] m = inr m
split (x ∷ s) m = ⊎_elim (λ e. inl (Memᴰ.head e)) (λ n. ⊎_elim (λ h. inl (Memᴰ.tail h)) (λ h. inr h) (split s n)) (Memᴰ.cases_cons m)

child-named : (k : List Node) (n : Node) (t : Formula) → Spells codes k n t → (p : ℕ) → Child n p → p ∈ named k n t
unfolding named
child-named k n (leaf c) s p u =
    ⊎_elim (λ v. absurd (not-unary-leaf n.code v.0 (c, sym s.0))) (λ v. absurd (not-binary-leaf n.code v.0 (c, sym s.0))) u
child-named k n (unary op t) s p u = ⊎_elim (λ v. Memᴰ.head (sym v.1)) (λ v. absurd (not-both n.code (op, sym s.0) v.0)) u
child-named k n (binary op l r) s p u =
    ⊎_elim (λ v. absurd (not-both n.code v.0 (op, sym s.0)))
    (λ v. ⊎_elim (λ e. Memᴰ.head (sym e)) (λ e. Memᴰ.tail (Memᴰ.head (sym e))) v.1) u

-- the children of a place that is named are named
closed : (k : List Node) (n : Node) (t : Formula) → Spells codes k n t → (q p : ℕ) → q ∈ named k n t → Child (node_at k q) p → p ∈ named k n t
unfolding named
closed k n (leaf c) s q p m u = absurd (Memᴰ.not-nil m)
closed k n (unary op t) s q p m u =
    ⊎_elim (λ e. Memᴰ.tail (child-named k (node_at k n.left) t s.4 p (subst (λ (x : ℕ). Child (node_at k x) p) e u)))
    (λ h. Memᴰ.tail (closed k (node_at k n.left) t s.4 q p h u)) (Memᴰ.cases_cons m)
closed k n (binary op l r) s q p m u =
    let ls = named k (node_at k n.left) l in
    let rs = named k (node_at k n.right) r in
    let from-left : p ∈ ls → p ∈ (n.left ∷ (n.right ∷ (ls ++ rs))) = λ h. Memᴰ.tail (Memᴰ.tail (Memᴰ.append_left rs h)) in
    let from-right : p ∈ rs → p ∈ (n.left ∷ (n.right ∷ (ls ++ rs))) = λ h. Memᴰ.tail (Memᴰ.tail (Memᴰ.append_right ls h)) in
    ⊎_elim (λ e. from-left (child-named k (node_at k n.left) l s.3 p (subst (λ (x : ℕ). Child (node_at k x) p) e u)))
    (λ a. ⊎_elim (λ e. from-right (child-named k (node_at k n.right) r s.5 p (subst (λ (x : ℕ). Child (node_at k x) p) e u)))
    (λ b. ⊎_elim
    (λ h. from-left (closed k (node_at k n.left) l s.3 q p h u))
    (λ h. from-right (closed k (node_at k n.right) r s.5 q p h u))
    (split ls b))
    (Memᴰ.cases_cons a))
    (Memᴰ.cases_cons m)

under-named : (k : List Node) (n : Node) (t : Formula) → Spells codes k n t → (d p : ℕ) → Down k (Child n) d p → p ∈ named k n t
under-named k n t s zero p u = child-named k n t s p u
under-named k n t s (suc d) p (q, r, u) = closed k n t s q p (under-named k n t s d q r) u

-- ---- a place has one line

-- a list without one of its items is shorter
without : (l : List ℕ) (a : ℕ) → a ∈ l → (m : List ℕ) × (suc (length m) ≡ length l) × ((q : ℕ) → (q ≡ a → ⊥) → q ∈ l → q ∈ m)
without [] a h = absurd (Memᴰ.not-nil h)
without (x ∷ l) a h =
    ⊎_elim
    (λ e. (l, refl, λ q n g. ⊎_elim (λ f. absurd (n (f ∙ sym e))) (λ f. f) (Memᴰ.cases_cons g)))
    (λ r. let w = without l a r in
    (x ∷ w.0, ap suc w.1, λ q n g. ⊎_elim (λ f. Memᴰ.head f) (λ f. Memᴰ.tail (w.2 q n f)) (Memᴰ.cases_cons g)))
    (Memᴰ.cases_cons h)

module _ (i : Recording) (k : List Node) (reported : ℕ → Type 0) (j most : ℕ) (short : length_of i j ≤ width) where
  places-short : (n : ℕ) → n ≤ most_room → (l out : List ℕ) → longest_line j ≤ most → ((q : ℕ) → q < n → reported q → q ∈ l) → PlaceLines i k reported j n out
      → length out ≤ length l * most
  places-short zero h l out g in_List e = let z : length out ≡ 0 = ap length e in omega arith
  places-short (suc p) h l out g in_List (before, here, lines, one u s says e, f) =
      let w = without l p (in_List p (omega arith) u) in
      let m = w.0 in
      let a = places-short p (omega arith) m before g (λ q b v. w.2 q (λ c. omega arith) (in_List q (omega arith) v)) lines in
      let b = place_short (length_of i j) (Holds (marked_trace i j).trace says.formula) j p s short says.says (omega arith) in
      let c : length out ≡ length before + length here = ap length f ∙ length-append before here in
      let d : length here ≡ length (place_line j p s) = ap length e in
      let x : suc (length m) * most ≡ length m * most + most = suc-mul (length m) most in
      subst (λ (y : ℕ). length out ≤ y * most) w.1 (omega arith)
  places-short (suc p) h l out g in_List (before, here, lines, none u e, f) =
      let a = places-short p (omega arith) l before g (λ q b v. in_List q (omega arith) v) lines in
      let c : length out ≡ length before + length here = ap length f ∙ length-append before here in
      let d : length here ≡ 0 = ap length e in
      omega arith

-- ---- the whole

module _ (i : Recording) (k : List Node) (root : Node) (d : Decided (check_rows i k root) 0) where
  session-short : (j : ℕ) → j < i.sessions → (out : List ℕ) → SessionLines i k root j out → length out ≤ most_size * longest_line j
  session-short j h out a =
      let t = (list-spells i.propositions k root (passed-list i k root d)).0 in
      let l = named k root t.formula in
      let short = passed-lengths i k root d j h in
      let places = places-short i k (Under k root) j (longest_line j) short (length k) (few-places k root (i.propositions, passed-list i k root d)) l a.places (omega arith)
      (λ q b u. under-named k root t.formula t.spelled u.0 q u.1) a.listed in
      let last = root-short (length_of i j) (Holds (marked_trace i j).trace a.rooted.formula) j a.summary short a.rooted.says in
      let c : length out ≡ length a.places + length (root_line j a.summary) = ap length a.whole ∙ length-append a.places (root_line j a.summary) in
      let many : suc (length l) ≤ most_size = (let e = as_many k root t.formula in let s = t.small in omega arith) in
      let x : suc (length l) * longest_line j ≡ length l * longest_line j + longest_line j = suc-mul (length l) (longest_line j) in
      let y : suc (length l) * longest_line j ≤ most_size * longest_line j = mul-le-mul_right (longest_line j) many in
      omega arith

  sessions-short : (n : ℕ) → n ≤ i.sessions → (out : List ℕ) → SessionsLines i k root n out → length out ≤ longest_of n
  sessions-short zero h out e = let z : length out ≡ 0 = ap length e in omega arith
  sessions-short (suc j) h out (before, here, lines, line, e) =
      let a = sessions-short j (omega arith) before lines in
      let b = session-short j (omega arith) here line in
      let c : length out ≡ length before + length here = ap length e ∙ length-append before here in
      omega arith

longest-rises : (n m : ℕ) → n ≤ m → longest_of n ≤ longest_of m
longest-rises n zero h = let e : longest_of n ≡ longest_of 0 = ap longest_of (let x : n ≡ 0 = omega arith in x) in omega arith
longest-rises n (suc m) h =
    ⊎_elim (λ e. le_of_eq (ap longest_of e)) (λ g. let r = longest-rises n m (omega arith) in omega arith) (eq-or-lt_of_le {n = n} {m = suc m} h)

pub report-fits : ReportFits
report-fits i k root out d a =
    le_trans (sessions-short i k root d i.sessions (omega arith) out a) (longest-rises i.sessions most_sessions (passed-sessions i k root d))

-- its figure
pub longest-is : longest_report ≡ most_report
unfolding digits
longest-is = refl
