-- What a search leaves in arrays of its own, put over a lent list of nodes, is what it has to leave there: the refusals go by the lists' lengths alone, and
-- only places below the number kept are written.
-- Assumes nothing.
use mathlib.Core.Path.{◌≡◌, refl, sym, ap, ◌∙◌, subst}
use mathlib.Core.Logic.{inl, inr, ⊎_elim}
use mathlib.Core.List.{List, [], ◌∷◌, ◌++◌, map, flat_map, append_assoc}
use Prim.Native.Nat.{ℕ, zero, suc, ◌<◌, ◌≤◌, ◌*◌, min}
use native.Mathlib.Decide.{dec_le}
use native.Mathlib.Omega.{arith}
use lib.ListN.{length, take, drop, length-map, length-append, length-take, length-drop}
use lib.Seq.{take_at}
use Rattle.rules.specs.Refusals.{Row, Decided}
use Rattle.rules.specs.Answers.{Said, over}
use Rattle.walk.specs.Walk.{found, full, none, WalkState, going, ended, kept}
use Rattle.walk.specs.Input.{Input, search}
use Rattle.formula.specs.declared.kinds.Node.{Node}
use Rattle.search.specs.declared.SearchAnswer.{SearchAnswer}
use Rattle.search.specs.declared.SearchAnswer.TheVariants.{Found, None, Full}
use Rattle.rules.specs.declared.refusal.Refusal.{Refusal}
use Rattle.std.proofs.Common.{Result, Ok, Err}
use Rattle.table.specs.Slices.{Cols, table_over}
use Rattle.checks.specs.Refusals.{setting_wrong, no_room, search_rows}
use Rattle.search.specs.Search.{said_search, walk_said, Outcome, Searched}
use Rattle.nodes_out.specs.declared.Done.{Done}
use Rattle.nodes_out.specs.Columns.{node_cols}
use Rattle.nodes_out.specs.Arrays.{room, kept_of, put_over, ListFits, Works}
use Rattle.nodes_in.specs.Arrays.{FieldsFilled}
use Rattle.nodes_in.proofs.Fields.{map-take}

-- ---- the rows, over lists of other lengths

skip : (row : Row) (rows rows' : List Row) (k : ℕ) → ((row.given → ⊥) → Decided rows k → Decided rows' k) → Decided (row ∷ rows) k → Decided (row ∷ rows') k
unfolding Decided
skip row rows rows' k f (inl p) = inl p
skip row rows rows' k f (inr p) = inr (p.0, f p.0 p.1)

swap : (row row' : Row) (rows : List Row) (k : ℕ) → row.number ≡ row'.number → (row.given → row'.given) → (row'.given → row.given)
    → Decided (row ∷ rows) k → Decided (row' ∷ rows) k
unfolding Decided
swap row row' rows k e f g (inl p) = inl (f p.0, p.1 ∙ e)
swap row row' rows k e f g (inr p) = inr (λ x. p.0 (g x), p.1)

room_most : (i : Input) → ((setting_wrong i).given → ⊥) → i.room ≤ room
room_most i fine = elim (dec_le i.room room) [ yes h ↦ h | no h ↦ absurd (fine (inr (inl (inr (omega arith))))) ]

-- a list cut to the largest room is too short exactly where the whole one is
pub record CutTo (t u : Cols) : Type 0 where
  pub codes-cut : length t.codes ≡ min (length u.codes) room
  pub lefts-cut : length t.lefts ≡ min (length u.lefts) room
  pub rights-cut : length t.rights ≡ min (length u.rights) room
  pub sizes-cut : length t.sizes ≡ min (length u.sizes) room
  pub matrices-whole : length t.matrices ≡ length u.matrices

cut_short : (a b r : ℕ) → a ≡ min b room → r ≤ room → a < r → b < r
cut_short a b r e h l = omega arith

whole-short : (a b r : ℕ) → a ≡ min b room → r ≤ room → b < r → a < r
whole-short a b r e h l = omega arith

module _ (i : Input) (t u : Cols) (c : CutTo t u) where
  no-room : i.room ≤ room → (no_room i t).given → (no_room i u).given
  no-room h =
      ⊎_elim (λ x. inl (cut_short _ _ _ c.codes-cut h x))
      (⊎_elim (λ x. inr (inl (cut_short _ _ _ c.lefts-cut h x)))
      (⊎_elim (λ x. inr (inr (inl (cut_short _ _ _ c.rights-cut h x))))
      (⊎_elim (λ x. inr (inr (inr (inl (cut_short _ _ _ c.sizes-cut h x)))))
      (λ x. inr (inr (inr (inr (subst (λ (n : ℕ). n < i.room * i.recording.sessions) c.matrices-whole x))))))))

  still-no-room : i.room ≤ room → (no_room i u).given → (no_room i t).given
  still-no-room h =
      ⊎_elim (λ x. inl (whole-short _ _ _ c.codes-cut h x))
      (⊎_elim (λ x. inr (inl (whole-short _ _ _ c.lefts-cut h x)))
      (⊎_elim (λ x. inr (inr (inl (whole-short _ _ _ c.rights-cut h x))))
      (⊎_elim (λ x. inr (inr (inr (inl (whole-short _ _ _ c.sizes-cut h x)))))
      (λ x. inr (inr (inr (inr (subst (λ (n : ℕ). n < i.room * i.recording.sessions) (sym c.matrices-whole) x))))))))

  same_rows : (k : ℕ) → Decided (search_rows i t) k → Decided (search_rows i u) k
  same_rows k d =
      skip _ _ _ k (λ _. skip _ _ _ k (λ fine. skip _ _ _ k (λ _. swap (no_room i t) (no_room i u) _ k refl (no-room (room_most i fine)) (still-no-room (room_most i fine))))) d

-- ---- the number kept

kept_in : List ℕ → ℕ
kept_in [] = 0
kept_in (a ∷ []) = 0
kept_in (a ∷ b ∷ []) = 0
kept_in (a ∷ b ∷ c ∷ []) = 0
kept_in (a ∷ b ∷ c ∷ d ∷ []) = c
kept_in (a ∷ b ∷ c ∷ d ∷ e ∷ rest) = d

kept-walk : (S : WalkState (List ℕ)) → kept_in (walk_said S).values ≡ length (kept S)
unfolding kept_in
kept-walk (going k n) = refl
kept-walk (ended (found root) k n) = refl
kept-walk (ended none k n) = refl
kept-walk (ended (full s) k n) = refl

-- ---- a column

module _ {A B : Type 0} (f : A → B) where
  map-drop : (n : ℕ) (l : List A) → map f (drop n l) ≡ drop n (map f l)
  map-drop zero l = refl
  map-drop (suc n) [] = refl
  map-drop (suc n) (x ∷ l) = map-drop n l

  map_both : (l m : List A) → map f (l ++ m) ≡ map f l ++ map f m
  map_both [] m = refl
  map_both (x ∷ l) m = ap (λ (r : List B). f x ∷ r) (map_both l m)

-- the kept ones are the array's first, and stand over the list's first
pub column : (f : Node → ℕ) (xs old c tail : List ℕ) (ns list : List Node) (k : ℕ) → length xs ≡ k → c ≡ over xs old → take k (c ++ tail) ≡ take k (map f list)
    → map f (take k list ++ drop k ns) ≡ over xs (map f ns)
column f xs old c tail ns list k l e t =
    let first : take k (c ++ tail) ≡ xs =
    ap (λ (z : List ℕ). take k (z ++ tail)) e ∙ ap (λ (z : List ℕ). take k z) (append_assoc xs (drop (length xs) old) tail) ∙ take_at xs (drop (length xs) old ++ tail) k l in
    map_both f (take k list) (drop k ns)
    ∙ ap (λ (z : List ℕ). z ++ map f (drop k ns)) (map-take f k list ∙ sym t ∙ first)
    ∙ ap (λ (z : List ℕ). xs ++ z) (map-drop f k ns ∙ ap (λ (z : ℕ). drop z (map f ns)) (sym l))

pub within : (xs old c : List ℕ) → c ≡ over xs old → length c ≡ length old → length xs ≤ length old
within xs old c e l =
    let n : length c ≡ length (over xs old) = ap length e in
    omega (arith, n, length-append xs (drop (length xs) old), length-drop (length xs) old)

-- the number kept is at room the room
few : (i : Input) (t t' : Cols) (say : Said) → say ≡ walk_said (search i) → t' ≡ table_over (kept (search i)) t → length t'.codes ≡ length t.codes → kept_in say.values ≤ length t.codes
few i t t' say e p l =
    let K = kept (search i) in
    let k : kept_in say.values ≡ length K = ap (λ (x : Said). kept_in x.values) e ∙ kept-walk (search i) in
    omega (arith, k, within (map (λ c. c.node.code) K) t.codes t'.codes (ap (λ (x : Cols). x.codes) p) l, length-map K (λ c. c.node.code))

kept-within : (i : Input) (t t' : Cols) (a : Result SearchAnswer Refusal) → Searched i t a t' → length t'.codes ≡ length t.codes → kept_of a ≤ length t.codes
unfolding kept_in
kept-within i t t' (Ok (Found root n)) s l = few i t t' (said_search (Ok (Found root n))) s.outcome.0 s.outcome.1 l
kept-within i t t' (Ok (None n)) s l = few i t t' (said_search (Ok (None n))) s.outcome.0 s.outcome.1 l
kept-within i t t' (Ok (Full size n)) s l = few i t t' (said_search (Ok (Full size n))) s.outcome.0 s.outcome.1 l
kept-within i t t' (Err k) s l = omega arith

pub kept-in-room : (i : Input) (t t' : Cols) (a : Result SearchAnswer Refusal) (n k : ℕ) → Searched i t a t' → length t'.codes ≡ length t.codes
    → length t.codes ≡ min n room → k ≡ kept_of a → k ≤ room
kept-in-room i t t' a n k s l e h = omega (arith, kept-within i t t' a s l)

-- an array cut to the length of a list
pub cut-room : (n count : ℕ) (l : List ℕ) → count ≡ min n room → length l ≡ room → length (take count l) ≡ min n room
cut-room n count l e h = omega (arith, length-take count l)

-- ---- the whole

-- what the core was handed and left, and what was made of it
pub record Ran (i : Input) (n : ℕ) (old : List ℕ) (d : Done) (new : List ℕ) : Type 0 where
  pub given : Cols
  pub left : Cols
  pub codes-beyond : List ℕ
  pub lefts-beyond : List ℕ
  pub rights-beyond : List ℕ
  pub sizes-beyond : List ℕ
  pub codes-given : length given.codes ≡ min n room
  pub lefts-given : length given.lefts ≡ min n room
  pub rights-given : length given.rights ≡ min n room
  pub sizes-given : length given.sizes ≡ min n room
  pub codes-left : length left.codes ≡ length given.codes
  pub old-is : given.matrices ≡ old
  pub new_is : left.matrices ≡ new
  pub kept-is : d.listed.count ≡ kept_of d.answer
  pub room-is : length d.listed.nodes ≡ room
  pub searched : Searched i given d.answer left
  pub filled : FieldsFilled d.listed.nodes d.listed.count (left.codes ++ codes-beyond) (left.lefts ++ lefts-beyond) (left.rights ++ rights-beyond) (left.sizes ++ sizes-beyond)

module _ (i : Input) (n : ℕ) (old : List ℕ) (d : Done) (new : List ℕ) (ran : Ran i n old d new) (ns : List Node) (long : length ns ≡ n) where
  cut : CutTo ran.given (node_cols ns old)
  cut = record {
    codes-cut = ran.codes-given ∙ ap (λ (m : ℕ). min m room) (sym (length-map ns (λ m. m.code) ∙ long));
    lefts-cut = ran.lefts-given ∙ ap (λ (m : ℕ). min m room) (sym (length-map ns (λ m. m.left.0) ∙ long));
    rights-cut = ran.rights-given ∙ ap (λ (m : ℕ). min m room) (sym (length-map ns (λ m. m.right.0) ∙ long));
    sizes-cut = ran.sizes-given ∙ ap (λ (m : ℕ). min m room) (sym (length-map ns (λ m. m.size) ∙ long));
    matrices-whole = ap length ran.old-is;
  }

  Answered : Type 0
  Answered = ((d.listed.count ≤ room) × (d.listed.count ≤ n)) × (node_cols (put_over d.listed ns) new ≡ table_over (kept (search i)) (node_cols ns old))

  -- an answer that is no refusal
  answered : (say : Said) → d.listed.count ≡ kept_in say.values → say ≡ walk_said (search i) → ran.left ≡ table_over (kept (search i)) ran.given → Answered
  unfolding Answered
  answered say k e t =
      let K = kept (search i) in
      let l : d.listed.count ≡ length K = k ∙ ap (λ (x : Said). kept_in x.values) e ∙ kept-walk (search i) in
      let f = ran.filled in
      let w = within (map (λ c. c.node.code) K) ran.given.codes ran.left.codes (ap (λ (x : Cols). x.codes) t) ran.codes-left in
      let g = ran.codes-given in
      let m = length-map K (λ c. c.node.code) in (
        (omega (arith, w, g, m), omega (arith, w, g, m)),
        rw (
          column (λ x. x.code) (map (λ c. c.node.code) K) ran.given.codes ran.left.codes ran.codes-beyond ns d.listed.nodes d.listed.count
              (length-map K (λ c. c.node.code) ∙ sym l) (ap (λ (x : Cols). x.codes) t) f.codes-are,
          column (λ x. x.left.0) (map (λ c. c.node.left) K) ran.given.lefts ran.left.lefts ran.lefts-beyond ns d.listed.nodes d.listed.count
              (length-map K (λ c. c.node.left) ∙ sym l) (ap (λ (x : Cols). x.lefts) t) f.lefts-are,
          column (λ x. x.right.0) (map (λ c. c.node.right) K) ran.given.rights ran.left.rights ran.rights-beyond ns d.listed.nodes d.listed.count
              (length-map K (λ c. c.node.right) ∙ sym l) (ap (λ (x : Cols). x.rights) t) f.rights-are,
          column (λ x. x.size) (map (λ c. c.node.size) K) ran.given.sizes ran.left.sizes ran.sizes-beyond ns d.listed.nodes d.listed.count
              (length-map K (λ c. c.node.size) ∙ sym l) (ap (λ (x : Cols). x.sizes) t) f.sizes-are,
          sym ran.new_is ∙ ap (λ (x : Cols). x.matrices) t ∙ ap (λ (x : List ℕ). over (flat_map (λ c. c.matrix) K) x) ran.old-is,
        ),
      )

  -- each answer
  outcome-over : (a : Result SearchAnswer Refusal) → d.answer ≡ a → Outcome i ran.given a ran.left
      → ((d.listed.count ≤ room) × (d.listed.count ≤ n)) × Outcome i (node_cols ns old) a (node_cols (put_over d.listed ns) new)
  unfolding Answered kept_in
  outcome-over (Ok (Found root n)) e o =
      let x = answered (said_search (Ok (Found root n))) (ran.kept-is ∙ ap kept_of e) o.0 o.1 in (x.0, (o.0, x.1))
  outcome-over (Ok (None n)) e o =
      let x = answered (said_search (Ok (None n))) (ran.kept-is ∙ ap kept_of e) o.0 o.1 in (x.0, (o.0, x.1))
  outcome-over (Ok (Full size n)) e o =
      let x = answered (said_search (Ok (Full size n))) (ran.kept-is ∙ ap kept_of e) o.0 o.1 in (x.0, (o.0, x.1))
  outcome-over (Err k) e o =
      let z : d.listed.count ≡ 0 = ran.kept-is ∙ ap kept_of e in
      let m : new ≡ old = sym ran.new_is ∙ ap (λ (x : Cols). x.matrices) o.1 ∙ ran.old-is in
      ((omega arith, omega arith), (o.0, ap (λ (j : ℕ). node_cols (take j d.listed.nodes ++ drop j ns) new) z ∙ ap (node_cols ns) m))

  works-over : ListFits d.listed ns × Searched i (node_cols ns old) d.answer (node_cols (put_over d.listed ns) new)
  works-over =
      let x = outcome-over d.answer refl ran.searched.outcome in
      let b = x.0 in (
        (omega (arith, b.0, ran.room-is), omega (arith, b.1)),
        record { decided = same_rows i ran.given (node_cols ns old) cut (said_search d.answer).number ran.searched.decided; outcome = x.1 },
      )

pub works : (i : Input) (n : ℕ) (old : List ℕ) (d : Done) (new : List ℕ) → Ran i n old d new → Works i n old d new
works i n old d new ran ns long = works-over i n old d new ran ns long
