-- `put_listed` meets its contract: the mark decides whether there is a line.
use mathlib.Core.Path.{refl, sym, subst}
use Rattle.formula.specs.Kinds.{nodes}
use Rattle.session.specs.Recording.{recording}
use Rattle.rules.specs.Refusals.{Decided}
use Rattle.formula.specs.Nodes.{Node}
use Rattle.verdict.specs.Check.{check_rows}
use Rattle.report.specs.Lines.{place_line, NodeSays}
use Rattle.report.specs.Lines.PlaceLine.{one}
use Rattle.report.proofs.Composing.{no_line}
use Rattle.report.proofs.sessions.put_listed.Goals as goal

pub returns-then-under-p-ne1 : goal.returns-then-under-p-ne1
returns-then-under-p-ne1 c =
    let a = c.args in
    no_line (recording a.r a.m a.marks.now a.lengths.now a.words.now) (nodes a.codes.now a.lefts.now a.rights.now a.sizes.now) a.under.now
    a.on.0 a.p a.text.now a.at c.if-under-p-ne1.true

pub summary_at-s-requires : goal.summary_at-s-requires
summary_at-s-requires c =
    let a = c.args in
    let p = c.requires in (
      subst (λ (n : Node). Decided (check_rows (recording a.r a.m a.marks.now a.lengths.now a.words.now)
          (nodes a.codes.now a.lefts.now a.rights.now a.sizes.now) n) 0) (sym c.node_at-node.ensures) (p.0 a.p p.2),
      p.1,
    )

pub returns : goal.returns
returns c =
    let a = c.args in
    let s = c.summary_at-s in (
      place_line a.on.0 a.p s.result,
      one c.if-under-p-ne1.false s.result
          (subst (λ (n : Node). NodeSays (recording a.r a.m a.marks.now a.lengths.now a.words.now)
          (nodes a.codes.now a.lefts.now a.rights.now a.sizes.now) a.on.0 n s.result)
          c.node_at-node.ensures s.ensures) refl,
      c.put_place.ensures,
    )
