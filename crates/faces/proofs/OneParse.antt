-- Uniqueness of the reader's face: any two results that its contract allows for the same input are equal.
-- Assumes nothing.
use mathlib.Core.Path.{◌≡◌, ap}
use mathlib.Core.List.{List}
use Prim.Native.Nat.{ℕ}
use Rattle.formula.specs.declared.kinds.Node.{Node}
use Rattle.std.proofs.Common.{Result}
use Rattle.reader.specs.declared.ParseError.{ParseError}
use Rattle.reader.specs.Parsing.{said_parsed, Columns, Parses}
use Rattle.reader.proofs.Unique.{parse-unique}
use Rattle.nodes_out.specs.Columns.{fields}
use Rattle.faces.proofs.Unique.{one_list}

-- the answer, and the nodes
pub parse-face-unique : (file text : List ℕ) (ns : List Node) (p q : Result ℕ ParseError) (ms ls : List Node)
    → Parses file text (fields ns) (fields ms) (said_parsed p) → Parses file text (fields ns) (fields ls) (said_parsed q) → (p ≡ q) × (ms ≡ ls)
parse-face-unique file text ns p q ms ls a b =
    let e = parse-unique file text (fields ns) p q (fields ms) (fields ls) a b in
    let t = e.1 in
    (e.0, one_list ms ls (ap (λ (x : Columns). x.codes) t) (ap (λ (x : Columns). x.lefts) t) (ap (λ (x : Columns). x.rights) t) (ap (λ (x : Columns). x.sizes) t))
