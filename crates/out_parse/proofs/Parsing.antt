-- Reading a formula at the boundary: a refusal's offset is small enough for its number, and every formula has a node, so that with no room lent the
-- core refuses, with 3 at the latest and by the rows that come before it.
-- Assumes nothing.
use mathlib.Core.Path.{◌≡◌, refl, sym, ap, ap₂, ◌∙◌}
use mathlib.Core.Logic.{◌⊎◌, inl, inr, ⊎_elim}
use mathlib.Core.List.{List, [], ◌∷◌}
use Prim.Native.Nat.{ℕ, ◌^◌, ◌≤◌, ◌<◌}
use native.Mathlib.Decide.{dec_lt}
use native.Mathlib.Omega.{arith}
use lib.ListN.{length}
use Rattle.rules.specs.Answers.{Said}
use Rattle.file.proofs.Offsets.{names-offset-small}
use Rattle.formula.specs.Formula.{size}
use Rattle.formula.proofs.Trees.{size-pos}
use Rattle.grammar.specs.Token.{Typed}
use Rattle.grammar.specs.Grammar.{Reads}
use Rattle.grammar.proofs.Theorems.{formula-or-offset}
use Rattle.std.proofs.Common.{Result, Ok, Err}
use Rattle.reader.specs.declared.ParseError.{ParseError}
use Rattle.reader.specs.declared.ParseError.TheVariants.{Broken, Stops, Unknown, Refused}
use Rattle.reader.specs.Parsing.{Decides, Columns, columns, no_formula, said_parsed, Taken, Parses}
use Rattle.reader.specs.Parsing as reader
use Rattle.reader.proofs.Unique.{parse-unique}
use Rattle.reader.proofs.Offsets.{within-11, within-13, at_most}
use Rattle.out.specs.Out.{out_words, number_with, written, returned_of, said_words}
use Rattle.out_parse.specs.Parse.{out_parse_rows, ParseDone}

-- no room at all
abbrev none : Columns
none = columns [] [] [] []

-- ---- the number

returned-with : (s : Said) (n : ℕ) (values : List ℕ) → s.number ≡ n → s.values ≡ values → returned_of s ≡ number_with n values
returned-with s n values e f = ap₂ number_with e f

module _ (names text : List ℕ) where
  fits : (lent lent' : Columns) (s : Said) → Decides (reader.parse_rows names text lent) (Taken names text lent lent') s → returned_of s < 2 ^ 32
  unfolding Decides
  fits lent lent' s (inl (e, (o, v, w))) = omega (arith, returned-with s 8 (o ∷ []) e v, names-offset-small names o w)
  fits lent lent' s (inr (_, inl (e, (v, _)))) = omega (arith, returned-with s 12 [] e v)
  fits lent lent' s (inr (_, inr (l, inl (e, (o, v, r))))) = omega (arith, returned-with s 11 (o ∷ []) e v, within-11 r, at_most text l)
  fits lent lent' s (inr (_, inr (l, inr (_, inl (e, (o, v, u)))))) = omega (arith, returned-with s 13 (o ∷ []) e v, within-13 u, at_most text l)
  fits lent lent' s (inr (_, inr (_, inr (_, inr (_, inl (e, (v, _))))))) = omega (arith, returned-with s 12 [] e v)
  fits lent lent' s (inr (_, inr (_, inr (_, inr (_, inr (_, inl (e, (v, _)))))))) = omega (arith, returned-with s 3 [] e v)
  fits lent lent' s (inr (_, inr (_, inr (_, inr (_, inr (_, inr (_, t))))))) =
      omega (arith, returned-with s 0 s.values t.number refl, zero_number s.values)
    where
      zero_number : (values : List ℕ) → number_with 0 values ≡ 0
      zero_number [] = refl
      zero_number (v ∷ vs) = refl

  -- with no room lent, a formula has none
  abbrev NoRoom : Type 0
  NoRoom = (t : Typed) × Reads text t × (0 < size t)

  needs-a-node : {tree : Typed} → Reads text tree → NoRoom
  needs-a-node {tree} r = (tree, r, size-pos tree)

  pub parse-fits : (lent lent' : Columns) (s : Said) → Parses names text lent lent' s → returned_of s < 2 ^ 32
  parse-fits lent lent' s a = fits lent lent' s a.answer

  module _ (lent : Columns) (old : List ℕ) where
    -- ---- `out` is too short

    module _ (h : length old < out_words) where
      to-short : (m u : Columns) (s : Said) → Decides (reader.parse_rows names text none) (Taken names text none m) s
          → Decides (out_parse_rows names text lent old) (Taken names text lent u) s
      unfolding Decides
      to-short m c s (inl a) = inl a
      to-short m c s (inr (x, inl a)) = inr (x, inl a)
      to-short m c s (inr (x, inr (y, inl a))) = inr (x, inr (y, inl a))
      to-short m c s (inr (x, inr (y, inr (z, inl a)))) = inr (x, inr (y, inr (z, inl a)))
      to-short m c s (inr (x, inr (y, inr (z, inr (u, inl a))))) = inr (x, inr (y, inr (z, inr (u, inl a))))
      to-short m c s (inr (x, inr (y, inr (z, inr (u, inr (v, inl (e, (f, _)))))))) = inr (x, inr (y, inr (z, inr (u, inr (v, inl (e, (f, h)))))))
      to-short m c s (inr (x, inr (y, inr (z, inr (u, inr (v, inr (w, t))))))) = absurd (w [] (refl, needs-a-node t.reads))

      -- a text that 11 doesn't refuse is a formula
      some-tree : ((values : List ℕ) → (no_formula names text lent).given values → ⊥) → NoRoom
      some-tree z = ⊎_elim (λ t. needs-a-node t.1) (λ k. absurd (z (k.0 ∷ []) (k.0, refl, k.1))) (formula-or-offset text)

      from-short : (u : Columns) (s : Said) → Decides (out_parse_rows names text lent old) (Taken names text lent u) s
          → Decides (reader.parse_rows names text none) (Taken names text none none) s
      unfolding Decides
      from-short c s (inl a) = inl a
      from-short c s (inr (x, inl a)) = inr (x, inl a)
      from-short c s (inr (x, inr (y, inl a))) = inr (x, inr (y, inl a))
      from-short c s (inr (x, inr (y, inr (z, inl a)))) = inr (x, inr (y, inr (z, inl a)))
      from-short c s (inr (x, inr (y, inr (z, inr (u, inl a))))) = inr (x, inr (y, inr (z, inr (u, inl a))))
      from-short c s (inr (x, inr (y, inr (z, inr (u, inr (v, inl (e, (f, _)))))))) =
          inr (x, inr (y, inr (z, inr (u, inr (v, inl (e, (f, some-tree z)))))))
      from-short c s (inr (x, inr (y, inr (z, inr (u, inr (v, inr (w, _))))))) = absurd (w [] (refl, h))

      short-refuses : (u : Columns) (s : Said) → Decides (out_parse_rows names text lent old) (Taken names text lent u) s → s.number ≡ 0 → ⊥
      unfolding Decides
      short-refuses c s (inl a) e = omega (arith, a.0)
      short-refuses c s (inr (x, inl a)) e = omega (arith, a.0)
      short-refuses c s (inr (x, inr (y, inl a))) e = omega (arith, a.0)
      short-refuses c s (inr (x, inr (y, inr (z, inl a)))) e = omega (arith, a.0)
      short-refuses c s (inr (x, inr (y, inr (z, inr (u, inl a))))) e = omega (arith, a.0)
      short-refuses c s (inr (x, inr (y, inr (z, inr (u, inr (v, inl a)))))) e = omega (arith, a.0)
      short-refuses c s (inr (x, inr (y, inr (z, inr (u, inr (v, inr (w, _))))))) e = w [] (refl, h)

    no_words : (p : Result ℕ ParseError) → ((said_parsed p).number ≡ 0 → ⊥) → old ≡ written (said_words (said_parsed p)) old
    no_words (Ok n) f = absurd (f refl)
    no_words (Err (Broken o)) f = refl
    no_words (Err (Stops o)) f = refl
    no_words (Err (Unknown o)) f = refl
    no_words (Err (Refused k)) f = refl

    pub parse-short : length old < out_words → (p : Result ℕ ParseError) (m : Columns) → Parses names text none m (said_parsed p)
        → ParseDone names text lent old (returned_of (said_parsed p)) lent old
    parse-short h p m a =
        let d = to-short h m lent (said_parsed p) a.answer in
        record { parsed = p; answer = d; refused = λ _. refl; number = refl; words = no_words p (short-refuses h lent (said_parsed p) d) }

    -- ---- `out` is long enough

    module _ (h : out_words ≤ length old) (u : Columns) where
      to-long : (s : Said) → Decides (reader.parse_rows names text lent) (Taken names text lent u) s → Decides (out_parse_rows names text lent old) (Taken names text lent u) s
      unfolding Decides
      to-long s (inl a) = inl a
      to-long s (inr (x, inl a)) = inr (x, inl a)
      to-long s (inr (x, inr (y, inl a))) = inr (x, inr (y, inl a))
      to-long s (inr (x, inr (y, inr (z, inl a)))) = inr (x, inr (y, inr (z, inl a)))
      to-long s (inr (x, inr (y, inr (z, inr (v, inl a))))) = inr (x, inr (y, inr (z, inr (v, inl a))))
      to-long s (inr (x, inr (y, inr (z, inr (v, inr (w, d)))))) = inr (x, inr (y, inr (z, inr (v, inr (w, inr (λ vs g. omega (arith, g.1), d))))))

      from-long : (s : Said) → Decides (out_parse_rows names text lent old) (Taken names text lent u) s → Decides (reader.parse_rows names text lent) (Taken names text lent u) s
      unfolding Decides
      from-long s (inl a) = inl a
      from-long s (inr (x, inl a)) = inr (x, inl a)
      from-long s (inr (x, inr (y, inl a))) = inr (x, inr (y, inl a))
      from-long s (inr (x, inr (y, inr (z, inl a)))) = inr (x, inr (y, inr (z, inl a)))
      from-long s (inr (x, inr (y, inr (z, inr (v, inl a))))) = inr (x, inr (y, inr (z, inr (v, inl a))))
      from-long s (inr (x, inr (y, inr (z, inr (v, inr (w, inl a)))))) = absurd (omega (arith, a.1.1))
      from-long s (inr (x, inr (y, inr (z, inr (v, inr (w, inr (_, d))))))) = inr (x, inr (y, inr (z, inr (v, inr (w, d)))))

    pub parse-long : out_words ≤ length old → (p : Result ℕ ParseError) (u : Columns) (new : List ℕ) → Parses names text lent u (said_parsed p)
        → new ≡ written (said_words (said_parsed p)) old → ParseDone names text lent old (returned_of (said_parsed p)) u new
    parse-long h p u new a e =
        record { parsed = p; answer = to-long h u (said_parsed p) a.answer; refused = a.refused; number = refl; words = e }

    -- ---- two results: by the reader's own uniqueness, over no room where `out` is too short

    pub same-parsed : {k l : ℕ} {u v : Columns} {x y : List ℕ} (a : ParseDone names text lent old k u x) (b : ParseDone names text lent old l v y)
        → (a.parsed ≡ b.parsed) × (u ≡ v)
    same-parsed {u = u} {v = v} a b = elim (dec_lt (length old) out_words) [
      | yes h ↦
          let p : Parses names text none none (said_parsed a.parsed) = record { answer = from-short h u _ a.answer; refused = λ _. refl } in
          let q : Parses names text none none (said_parsed b.parsed) = record { answer = from-short h v _ b.answer; refused = λ _. refl } in (
            (parse-unique names text none a.parsed b.parsed none none p q).0,
            a.refused (short-refuses h u _ a.answer) ∙ sym (b.refused (short-refuses h v _ b.answer)),
          )
      | no h ↦
          let p : Parses names text lent u (said_parsed a.parsed) = record { answer = from-long (omega arith) u _ a.answer; refused = a.refused } in
          let q : Parses names text lent v (said_parsed b.parsed) = record { answer = from-long (omega arith) v _ b.answer; refused = b.refused } in
          parse-unique names text lent a.parsed b.parsed u v p q
    ]
