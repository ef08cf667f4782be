-- `word` meets its contract: each return is a law of `Fronts`.
use mathlib.Core.Path.{sym, ◌∙◌}
use Rattle.std.proofs.Common.{arith, rules}
use Rattle.names.specs.Names.{is_name_byte}
use Rattle.operand.proofs.Fronts.{of-byte, word-long, word-strong, word_next, word-finally, word-globally, word-neither, word-leaf}
use Rattle.operand.proofs.word.Goals as goal

pub returns-then-is_name_byte : goal.returns-then-is_name_byte
returns-then-is_name_byte c =
    word-long _ c.args.at c.args.b c.requires.0 c.requires.1 c.requires.2 c.run-end.ensures
    (of-byte is_name_byte c.is_name_byte.ensures c.if-is_name_byte.true c.byte-c.ensures)

pub returns-then-c-eq91 : goal.returns-then-c-eq91
returns-then-c-eq91 c =
    word-strong _ c.args.at c.args.b c.requires.0 c.requires.1 c.requires.2 c.run-end.ensures
    (of-byte is_name_byte c.is_name_byte.ensures c.if-is_name_byte.false c.byte-c.ensures) c.if-end-at.true c.in-88.is (sym c.byte-c.ensures ∙ c.if-c-eq91.true) c.strong.result c.strong.ensures

pub returns-in-88 : goal.returns-in-88
returns-in-88 c =
    word_next _ c.args.at c.args.b c.requires.0 c.requires.1 c.requires.2 c.run-end.ensures
    (of-byte is_name_byte c.is_name_byte.ensures c.if-is_name_byte.false c.byte-c.ensures) c.if-end-at.true c.in-88.is (λ e. c.if-c-eq91.false (c.byte-c.ensures ∙ e))

pub returns-in-70 : goal.returns-in-70
returns-in-70 c =
    word-finally _ c.args.at c.args.b c.requires.0 c.requires.1 c.requires.2 c.run-end.ensures
    (of-byte is_name_byte c.is_name_byte.ensures c.if-is_name_byte.false c.byte-c.ensures) c.if-end-at.true c.in-70.is

pub returns-in-71 : goal.returns-in-71
returns-in-71 c =
    word-globally _ c.args.at c.args.b c.requires.0 c.requires.1 c.requires.2 c.run-end.ensures
    (of-byte is_name_byte c.is_name_byte.ensures c.if-is_name_byte.false c.byte-c.ensures) c.if-end-at.true c.in-71.is

pub returns-in-85 : goal.returns-in-85
returns-in-85 c =
    word-neither _ c.args.at c.args.b c.requires.0 c.requires.1 c.requires.2 c.run-end.ensures
    (of-byte is_name_byte c.is_name_byte.ensures c.if-is_name_byte.false c.byte-c.ensures) c.if-end-at.true c.in-85.is

pub returns-in_default : goal.returns-in_default
returns-in_default c =
    word-leaf _ c.args.at c.args.b c.requires.0 c.requires.1 c.requires.2 c.run-end.ensures
    (of-byte is_name_byte c.is_name_byte.ensures c.if-is_name_byte.false c.byte-c.ensures)
    (λ _. ((λ e. omega arith), (λ e. omega arith), (λ e. omega arith), (λ e. grind arith), λ e. search rules))

pub returns-else-end-at : goal.returns-else-end-at
returns-else-end-at c =
    word-leaf _ c.args.at c.args.b c.requires.0 c.requires.1 c.requires.2 c.run-end.ensures
    (of-byte is_name_byte c.is_name_byte.ensures c.if-is_name_byte.false c.byte-c.ensures) (λ o. absurd (c.if-end-at.false o))
