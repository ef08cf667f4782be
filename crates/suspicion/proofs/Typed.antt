-- What the reader of formulas answers is within what the lines ask: a formula that is read has from 1 to 31 nodes, and an offset is within the text's
-- 4,096 bytes.
-- Assumes nothing.
use mathlib.Core.Path.{◌≡◌, refl, sym, ap, ◌∙◌, subst}
use mathlib.Core.Logic.{◌⊎◌, inl, inr}
use mathlib.Core.List.{List, [], ◌∷◌, map, head-eq_of_cons-eq}
use Prim.Native.Nat.{ℕ, zero, suc, ◌≤◌}
use native.Mathlib.Omega.{arith}
use lib.ListN.{length, take, drop, replicate, length-append, length-map}
use Rattle.rules.specs.Answers.{Said, over}
use Rattle.rules.specs.Limits.{most_size}
use Rattle.formula.specs.Formula.{Formula, size}
use Rattle.formula.proofs.Trees.{size-pos}
use Rattle.formula.specs.Nodes.{Node, codes}
use Rattle.grammar.specs.Nodes.{nodes_of}
use Rattle.reader.specs.Words.{most_bytes}
use Rattle.std.proofs.Common.{Ok, Err}
use Rattle.reader.specs.declared.ParseError.{ParseError}
use Rattle.reader.specs.declared.ParseError.TheVariants.{Stops, Unknown}
use Rattle.reader.specs.Parsing.{Decides, Columns, said_parsed, parse_rows, Taken, Parses}
use Rattle.reader.proofs.Scratch.{nodes-length}
use Rattle.reader.proofs.Offsets.{within-11, within-13, at_most}
use Rattle.round_trip.proofs.Contracts.{parse-passed}
use Rattle.suspicion.specs.Inner.{Unread}

module _ (names text : List ℕ) (old left : Columns) where
  -- an offset carried by a refusal is within the text
  Within : Said → Type 0
  Within s = (o : ℕ) → s.values ≡ o ∷ [] → (s.number ≡ 11) ⊎ (s.number ≡ 13) → (o ≤ most_bytes) × (length text ≤ most_bytes)

  other : {A : Type 0} {k n : ℕ} → k ≡ n → (n ≡ 11 → ⊥) → (n ≡ 13 → ⊥) → (k ≡ 11) ⊎ (k ≡ 13) → A
  other e f g (inl x) = absurd (f (sym e ∙ x))
  other e f g (inr x) = absurd (g (sym e ∙ x))

  within : (s : Said) → Decides (parse_rows names text old) (Taken names text old left) s → Within s
  unfolding Decides Within
  within s (inl a) o v n = other a.0 (λ z. omega arith) (λ z. omega arith) n
  within s (inr (_, inl a)) o v n = other a.0 (λ z. omega arith) (λ z. omega arith) n
  within s (inr (_, inr (l, inl (e, (k, w, r))))) o v n =
      let h : o ≡ k = head-eq_of_cons-eq (sym v ∙ w) in
      (omega (arith, h, within-11 r, at_most text l), at_most text l)
  within s (inr (_, inr (l, inr (_, inl (e, (k, w, u)))))) o v n =
      let h : o ≡ k = head-eq_of_cons-eq (sym v ∙ w) in
      (omega (arith, h, within-13 u, at_most text l), at_most text l)
  within s (inr (_, inr (_, inr (_, inr (_, inl a))))) o v n = other a.0 (λ z. omega arith) (λ z. omega arith) n
  within s (inr (_, inr (_, inr (_, inr (_, inr (_, inl a)))))) o v n = other a.0 (λ z. omega arith) (λ z. omega arith) n
  within s (inr (_, inr (_, inr (_, inr (_, inr (_, inr (_, t))))))) o v n = other t.number (λ z. omega arith) (λ z. omega arith) n

  pub stops-within : {o : ℕ} → Parses names text old left (said_parsed (Err (Stops o))) → (o ≤ most_bytes) × (length text ≤ most_bytes)
  unfolding Within
  stops-within {o} a = within (said_parsed (Err (Stops o))) a.answer o refl (inl refl)

  pub unknown-within : {o : ℕ} → Parses names text old left (said_parsed (Err (Unknown o))) → (o ≤ most_bytes) × (length text ≤ most_bytes)
  unfolding Within
  unknown-within {o} a = within (said_parsed (Err (Unknown o))) a.answer o refl (inr refl)

  pub unread : {e : ParseError} → Parses names text old left (said_parsed (Err e)) → Unread e
  unread {e} a = record {
    stops = λ o q. (stops-within (subst (λ (x : ParseError). Parses names text old left (said_parsed (Err x))) q a)).0;
    unknown = λ o q. (unknown-within (subst (λ (x : ParseError). Parses names text old left (said_parsed (Err x))) q a)).0;
  }

  -- what is read: from 1 to 31 nodes, within each slice
  pub record Few (n : ℕ) : Type 0 where
    pub some : 1 ≤ n
    pub most : n ≤ most_size
    pub codes-in : n ≤ length left.codes
    pub lefts_in : n ≤ length left.lefts
    pub rights-in : n ≤ length left.rights
    pub sizes-in : n ≤ length left.sizes

  front-in : (f : Node → ℕ) (t : Formula) (list : List ℕ) → size t ≤ length (over (map f (nodes_of codes 0 t)) list)
  front-in f t list =
      omega (arith, length-append (map f (nodes_of codes 0 t)) (drop (length (map f (nodes_of codes 0 t))) list), length-map (nodes_of codes 0 t) f, nodes-length codes 0 t)

  pub few-nodes : {n : ℕ} → Parses names text old left (said_parsed (Ok n)) → Few n
  few-nodes {n} a =
      let d = parse-passed names text old left (said_parsed (Ok n)) a refl in
      let t = d.taken in
      let f = t.formula in
      let h : size f ≡ n = head-eq_of_cons-eq (sym t.values) in
      subst Few h (record {
        some = size-pos f;
        most = d.small;
        codes-in = subst (λ (c : Columns). size f ≤ length c.codes) (sym t.nodes) (front-in (λ x. x.code) f old.codes);
        lefts_in = subst (λ (c : Columns). size f ≤ length c.lefts) (sym t.nodes) (front-in (λ x. x.left) f old.lefts);
        rights-in = subst (λ (c : Columns). size f ≤ length c.rights) (sym t.nodes) (front-in (λ x. x.right) f old.rights);
        sizes-in = subst (λ (c : Columns). size f ≤ length c.sizes) (sym t.nodes) (front-in (λ x. x.size) f old.sizes);
      })

-- the first of equal numbers
pub take-replicate : (k n : ℕ) (v : ℕ) → k ≤ n → take k (replicate n v) ≡ replicate k v
take-replicate zero n v h = refl
take-replicate (suc k) zero v h = absurd (omega arith)
take-replicate (suc k) (suc n) v h = ap (λ (l : List ℕ). v ∷ l) (take-replicate k n v (omega arith))
