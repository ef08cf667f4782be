-- `code_at` meets its contract: the tests on the way to each return say which case of the rule holds.
use Prim.Native.Nat.{ℕ, ◌+◌}
use mathlib.Core.Bool.{Bool}
use mathlib.Core.Path.{◌≡◌, sym, ◌∙◌}
use lib.ListN.{take, drop}
use Rattle.rules.specs.Answers.{Tested}
use Rattle.operators.specs.Table.{GroupIs}
use Rattle.sections.specs.Sections.{group_of}
use Rattle.sections.proofs.CodeLaws.{tested-group}
use Rattle.sections.proofs.Turns.{code-ends, code_off, code-twice, code-new}
use Rattle.sections.proofs.codes.code_at.Goals as goal
use Rattle.sections.proofs.codes.code_at.Goals.{then-not-in_group-via-then-not-in_group, then-not-in_group-via-else-not-in_group+then-seen_code}

pub returns-then-file-at : goal.returns-then-file-at
returns-then-file-at c = let a = c.args in code-ends (group_of a.unary) (take a.count (drop a.from a.file.now)) a.file.now (a.from + a.count) c.if-file-at.true

-- the group's own test, as the rule asks it
group-is : (c : ℕ) (u : Bool) {b r : Bool} → Tested (GroupIs u c) r → r ≡ b → group_of u c ≡ b
group-is c u {b} {r} t e = sym (tested-group c u r t) ∙ e

pub returns-then-not-in_group : goal.returns-then-not-in_group
returns-then-not-in_group c =
    let a = c.args in
    let before = take a.count (drop a.from a.file.now) in
    elim c.then-not-in_group.branch [
      | then-not-in_group-via-then-not-in_group w ↦
          code_off (group_of a.unary) before a.file.now (a.from + a.count) c.if-file-at.false (group-is _ _ c.in_group.ensures w.if-not-in_group.true)
      | then-not-in_group-via-else-not-in_group+then-seen_code w ↦
          code-twice (group_of a.unary) before a.file.now (a.from + a.count) c.if-file-at.false
          (group-is _ _ c.in_group.ensures w.if-not-in_group.false) (sym w.seen_code.ensures ∙ w.if-seen_code.true)
    ]

pub returns : goal.returns
returns c =
    let a = c.args in
    code-new (group_of a.unary) (take a.count (drop a.from a.file.now)) a.file.now (a.from + a.count)
    c.if-file-at.false (group-is _ _ c.in_group.ensures c.if-not-in_group.false) (sym c.seen_code.ensures ∙ c.if-seen_code.false)
