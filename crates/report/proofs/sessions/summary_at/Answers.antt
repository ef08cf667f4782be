-- `summary_at` meets its contract: what has passed the check has a sequence on each session.
use mathlib.Core.Path.{◌≡◌, sym, ap, ◌∙◌, subst}
use Rattle.std.specs.Prelude.{Option, Some, Result, Ok, is_ok, is_some}
use Rattle.rules.specs.declared.refusal.Refusal.{Refusal}
use Rattle.sequence.specs.declared.CharSeq.{CharSeq}
use Rattle.verdict.specs.Sequences.{SequenceAnswer}
use Rattle.formula.specs.Kinds.{node_of, nodes}
use Rattle.session.specs.Recording.{recording}
use Rattle.report.proofs.Composing.{node-says, sequence-there}
use Rattle.report.proofs.sessions.summary_at.Goals as goal

pub unwrap-requires : goal.unwrap-requires
unwrap-requires c =
    let a = c.args in
    let t = sequence-there (recording a.r a.m a.marks.now a.lengths.now a.words.now) (nodes a.codes.now a.lefts.now a.rights.now a.sizes.now) a.on.0
    (node_of a.node) c.sequence_of.result c.sequence_of.ensures c.requires.1 c.requires.0 in
    ap (λ (x : Result (Option CharSeq) Refusal). is_ok x) t.1

pub unwrap-seq-requires : goal.unwrap-seq-requires
unwrap-seq-requires c =
    let a = c.args in
    let t = sequence-there (recording a.r a.m a.marks.now a.lengths.now a.words.now) (nodes a.codes.now a.lefts.now a.rights.now a.sizes.now) a.on.0
    (node_of a.node) c.sequence_of.result c.sequence_of.ensures c.requires.1 c.requires.0 in
    let there : ◌≡◌ {A = Result (Option CharSeq) Refusal} (Ok c.unwrap.result) (Ok (Some t.0)) = sym c.unwrap.ensures ∙ t.1 in
    let some : c.unwrap.result ≡ Some t.0 = cc in
    ap (λ (x : Option CharSeq). is_some x) some

pub returns : goal.returns
returns c =
    let a = c.args in
    let i = recording a.r a.m a.marks.now a.lengths.now a.words.now in
    let k = nodes a.codes.now a.lefts.now a.rights.now a.sizes.now in
    let e : c.sequence_of.result ≡ Ok (Some c.unwrap-seq.result) = c.unwrap.ensures ∙ ap (λ (x : Option CharSeq). Ok x) c.unwrap-seq.ensures in
    node-says i k a.on.0 (node_of a.node) c.unwrap-seq.result (subst (SequenceAnswer i k (node_of a.node) a.on.0) e c.sequence_of.ensures)
    c.summary_of.result c.summary_of.ensures
