-- What the reader leaves in arrays, put over a lent list of nodes, is what it has to leave there: of a list it goes by the length alone, and no formula
-- has more nodes than the arrays.
-- Assumes nothing.
use mathlib.Core.Path.{◌≡◌, refl, sym, ap, ◌∙◌}
use mathlib.Core.Logic.{inl, inr}
use mathlib.Core.List.{List, [], ◌∷◌, ◌++◌, map, head-eq_of_cons-eq, nil≢cons}
use Prim.Native.Nat.{ℕ, ◌<◌, ◌≤◌, min}
use native.Mathlib.Decide.{dec_le}
use native.Mathlib.Omega.{arith}
use lib.ListN.{length, take, drop, length-map, length-take}
use Rattle.rules.specs.Answers.{Said}
use Rattle.formula.specs.Formula.{size, Formula}
use Rattle.formula.specs.Nodes.{codes}
use Rattle.formula.specs.Nodes as walk
use Rattle.formula.specs.declared.kinds.Node.{Node}
use Rattle.grammar.specs.Token.{Typed}
use Rattle.grammar.specs.Grammar.{Reads}
use Rattle.grammar.specs.Nodes.{nodes_of}
use Rattle.std.proofs.Common.{Result, Ok, Err}
use Rattle.std.specs.Result.{result_unwrap_or}
use Rattle.reader.specs.declared.ParseError.{ParseError}
use Rattle.reader.specs.declared.ParseError.TheVariants.{Broken, Stops, Unknown, Refused}
use Rattle.reader.specs.Parsing.{said_parsed, ParseRow, Decides, Columns, room_of, large_formula, short_node_room, parse_rows, nodes_over, Taken, Parses}
use Rattle.reader.proofs.Scratch.{nodes-length}
use Rattle.nodes_out.specs.declared.Read.{Read}
use Rattle.nodes_in.specs.Arrays.{FieldsFilled}
use Rattle.nodes_out.specs.Columns.{fields}
use Rattle.nodes_out.specs.Arrays.{room, count_in, put_over, ListFits, ReadIn}
use Rattle.nodes_out.proofs.Kept.{column, within}

-- ---- the rows, for slices of other lengths

skip : (row : ParseRow) (rows rows' : List ParseRow) (P Q : Said → Type 0) (s : Said) → (((vs : List ℕ) → row.given vs → ⊥) → Decides rows P s → Decides rows' Q s)
    → Decides (row ∷ rows) P s → Decides (row ∷ rows') Q s
unfolding Decides
skip row rows rows' P Q s f (inl p) = inl p
skip row rows rows' P Q s f (inr p) = inr (p.0, f p.0 p.1)

swap : (row row' : ParseRow) (P Q : Said → Type 0) (s : Said) → row.number ≡ row'.number → ((vs : List ℕ) → row.given vs → row'.given vs)
    → ((vs : List ℕ) → row'.given vs → row.given vs) → (P s → Q s) → Decides (row ∷ []) P s → Decides (row' ∷ []) Q s
unfolding Decides
swap row row' P Q s e f g k (inl p) = inl (p.0 ∙ e, f s.values p.1)
swap row row' P Q s e f g k (inr p) = inr ((λ vs x. p.0 vs (g vs x)), k p.1)

-- slices cut to the largest formula are too short exactly where the whole ones are
module _ (file text : List ℕ) (old whole : Columns) (cut : room_of old ≡ min (room_of whole) room) where
  abbrev Fine : Type 0
  Fine = (vs : List ℕ) → (large_formula file text old).given vs → ⊥

  small : Fine → (t : Typed) → Reads text t → size t ≤ room
  small fine t r = elim (dec_le (size t) room) [ yes h ↦ h | no h ↦ absurd (fine [] (refl, inl (t, r, omega arith))) ]

  cut_short : (n a b : ℕ) → n ≤ room → a ≡ min b room → a < n → b < n
  cut_short n a b h e l = omega arith

  whole-short : (n a b : ℕ) → n ≤ room → a ≡ min b room → b < n → a < n
  whole-short n a b h e l = omega arith

  same_rows : (P Q : Said → Type 0) (s : Said) → (P s → Q s) → Decides (parse_rows file text old) P s → Decides (parse_rows file text whole) Q s
  same_rows P Q s k d =
      skip _ _ _ P Q s (λ _. skip _ _ _ P Q s (λ _. skip _ _ _ P Q s (λ _. skip _ _ _ P Q s (λ _. skip _ _ _ P Q s (λ fine.
      swap (short_node_room file text old) (short_node_room file text whole) P Q s refl
      (λ vs x. (x.0, (x.1.0, x.1.1, cut_short _ _ _ (small fine x.1.0 x.1.1) cut x.1.2)))
      (λ vs x. (x.0, (x.1.0, x.1.1, whole-short _ _ _ (small fine x.1.0 x.1.1) cut x.1.2))) k))))) d

-- ---- the number of nodes

-- an answer with nodes is no refusal's
taken : (file text : List ℕ) (old new : Columns) (n : ℕ) → Decides (parse_rows file text old) (Taken file text old new) (said_parsed (Ok n)) → Taken file text old new (said_parsed (Ok n))
unfolding Decides
taken file text old new n (inl a) = absurd (omega (arith, a.0))
taken file text old new n (inr (_, inl a)) = absurd (omega (arith, a.0))
taken file text old new n (inr (_, inr (_, inl a))) = absurd (omega (arith, a.0))
taken file text old new n (inr (_, inr (_, inr (_, inl a)))) = absurd (omega (arith, a.0))
taken file text old new n (inr (_, inr (_, inr (_, inr (_, inl a))))) = absurd (omega (arith, a.0))
taken file text old new n (inr (_, inr (_, inr (_, inr (_, inr (_, inl a)))))) = absurd (omega (arith, a.0))
taken file text old new n (inr (_, inr (_, inr (_, inr (_, inr (_, inr (_, t))))))) = t

abbrev list : Formula → List walk.Node
list t = nodes_of codes 0 t

-- an answer's number of nodes, as the code takes it
pub count-of : (a : Result ℕ ParseError) (k : ℕ) → k ≡ result_unwrap_or a 0 → k ≡ count_in a
count-of (Ok n) k e = e
count-of (Err x) k e = e

count-within : (file text : List ℕ) (old new : Columns) (a : Result ℕ ParseError) → Parses file text old new (said_parsed a) → length new.codes ≡ length old.codes
    → count_in a ≤ length old.codes
count-within file text old new (Ok n) p l =
    let t = taken file text old new n p.answer in
    let e : n ≡ size t.formula = head-eq_of_cons-eq t.values in
    omega (
      arith,
      within (map (λ m. m.code) (list t.formula)) old.codes new.codes (ap (λ (x : Columns). x.codes) t.nodes) l,
      length-map (list t.formula) (λ m. m.code),
      nodes-length codes 0 t.formula,
    )
count-within file text old new (Err (Broken o)) p l = omega arith
count-within file text old new (Err (Stops o)) p l = omega arith
count-within file text old new (Err (Unknown o)) p l = omega arith
count-within file text old new (Err (Refused k)) p l = omega arith

pub count-in-room : (file text : List ℕ) (old new : Columns) (a : Result ℕ ParseError) (k : ℕ) → Parses file text old new (said_parsed a)
    → length new.codes ≡ length old.codes → length old.codes ≤ room → k ≡ count_in a → k ≤ room
count-in-room file text old new a k p l e h = omega (arith, count-within file text old new a p l)

-- where the number is 0, as many as the answer says; else none
count-taken : (a : Result ℕ ParseError) (k : ℕ) → (said_parsed a).number ≡ 0 → (said_parsed a).values ≡ k ∷ [] → count_in a ≡ k
count-taken (Ok n) k z e = head-eq_of_cons-eq e
count-taken (Err (Broken o)) k z e = absurd (omega (arith, z))
count-taken (Err (Stops o)) k z e = absurd (omega (arith, z))
count-taken (Err (Unknown o)) k z e = absurd (omega (arith, z))
count-taken (Err (Refused r)) k z e = absurd (nil≢cons e)

count-refused : (a : Result ℕ ParseError) → ((said_parsed a).number ≡ 0 → ⊥) → count_in a ≡ 0
count-refused (Ok n) f = absurd (f refl)
count-refused (Err (Broken o)) f = refl
count-refused (Err (Stops o)) f = refl
count-refused (Err (Unknown o)) f = refl
count-refused (Err (Refused r)) f = refl

-- an array cut to some length, and to that of a list
pub cut-within : (count : ℕ) (l : List ℕ) → length l ≡ room → length (take count l) ≤ room
cut-within count l h = omega (arith, length-take count l)

pub cut_most : (n count : ℕ) (l : List ℕ) → count ≡ min n room → length l ≡ room → length (take count l) ≡ min n room
cut_most n count l e h = omega (arith, length-take count l)

-- four slices of one length
alike : (a b c d m : ℕ) → a ≡ m → b ≡ m → c ≡ m → d ≡ m → min a (min b (min c d)) ≡ m
alike a b c d m p q r s = omega arith

-- ---- the whole

-- what the reader was handed and left, and what was made of it
pub record Ran (file text : List ℕ) (n : ℕ) (d : Read) : Type 0 where
  pub given : Columns
  pub left : Columns
  pub codes-beyond : List ℕ
  pub lefts-beyond : List ℕ
  pub rights-beyond : List ℕ
  pub sizes-beyond : List ℕ
  pub codes-given : length given.codes ≡ min n room
  pub lefts-given : length given.lefts ≡ min n room
  pub rights-given : length given.rights ≡ min n room
  pub sizes-given : length given.sizes ≡ min n room
  pub codes-left : length left.codes ≡ length given.codes
  pub count-is : d.listed.count ≡ count_in d.answer
  pub room-is : length d.listed.nodes ≡ room
  pub parsed : Parses file text given left (said_parsed d.answer)
  pub filled : FieldsFilled d.listed.nodes d.listed.count (left.codes ++ codes-beyond) (left.lefts ++ lefts-beyond) (left.rights ++ rights-beyond) (left.sizes ++ sizes-beyond)

module _ (file text : List ℕ) (n : ℕ) (d : Read) (ran : Ran file text n d) (ns : List Node) (long : length ns ≡ n) where
  abbrev answer : Said
  answer = said_parsed d.answer

  as_long : (f : Node → ℕ) → length (map f ns) ≡ n
  as_long f = length-map ns f ∙ long

  room_cut : room_of ran.given ≡ min (room_of (fields ns)) room
  room_cut =
      alike _ _ _ _ _ ran.codes-given ran.lefts-given ran.rights-given ran.sizes-given
      ∙ ap (λ (m : ℕ). min m room) (sym (alike _ _ _ _ n (as_long (λ m. m.code)) (as_long (λ m. m.left.0)) (as_long (λ m. m.right.0)) (as_long (λ m. m.size))))

  placed : (t : Formula) → d.listed.count ≡ size t → ran.left ≡ nodes_over (list t) ran.given → fields (put_over d.listed ns) ≡ nodes_over (list t) (fields ns)
  placed t k e =
      let f = ran.filled in
      let l : length (list t) ≡ d.listed.count = nodes-length codes 0 t ∙ sym k in
      rw (
        column (λ x. x.code) (map (λ m. m.code) (list t)) ran.given.codes ran.left.codes ran.codes-beyond ns d.listed.nodes d.listed.count
            (length-map (list t) (λ m. m.code) ∙ l) (ap (λ (x : Columns). x.codes) e) f.codes-are,
        column (λ x. x.left.0) (map (λ m. m.left) (list t)) ran.given.lefts ran.left.lefts ran.lefts-beyond ns d.listed.nodes d.listed.count
            (length-map (list t) (λ m. m.left) ∙ l) (ap (λ (x : Columns). x.lefts) e) f.lefts-are,
        column (λ x. x.right.0) (map (λ m. m.right) (list t)) ran.given.rights ran.left.rights ran.rights-beyond ns d.listed.nodes d.listed.count
            (length-map (list t) (λ m. m.right) ∙ l) (ap (λ (x : Columns). x.rights) e) f.rights-are,
        column (λ x. x.size) (map (λ m. m.size) (list t)) ran.given.sizes ran.left.sizes ran.sizes-beyond ns d.listed.nodes d.listed.count
            (length-map (list t) (λ m. m.size) ∙ l) (ap (λ (x : Columns). x.sizes) e) f.sizes-are,
      )

  taken-over : Taken file text ran.given ran.left answer → Taken file text (fields ns) (fields (put_over d.listed ns)) answer
  taken-over t = record {
    number = t.number;
    formula = t.formula;
    under = t.under;
    reads = t.reads;
    values = t.values;
    nodes = placed t.formula (ran.count-is ∙ count-taken d.answer (size t.formula) t.number t.values) t.nodes;
  }

  refused_over : (answer.number ≡ 0 → ⊥) → fields (put_over d.listed ns) ≡ fields ns
  refused_over f =
      let z : d.listed.count ≡ 0 = ran.count-is ∙ count-refused d.answer f in
      ap (λ (k : ℕ). fields (take k d.listed.nodes ++ drop k ns)) z

  over-list : ListFits d.listed ns × Parses file text (fields ns) (fields (put_over d.listed ns)) answer
  over-list =
      let b = count-within file text ran.given ran.left d.answer ran.parsed ran.codes-left in
      let g = ran.codes-given in
      let c = ran.count-is in
      let m = ran.room-is in (
        (omega (arith, b, g, c, m), omega (arith, b, g, c)),
        record {
          answer = same_rows file text ran.given (fields ns) room_cut (Taken file text ran.given ran.left)
              (Taken file text (fields ns) (fields (put_over d.listed ns))) answer taken-over ran.parsed.answer;
          refused = refused_over;
        },
      )

pub read-in : (file text : List ℕ) (n : ℕ) (d : Read) → Ran file text n d → ReadIn file text n d
read-in file text n d ran ns long = over-list file text n d ran ns long
