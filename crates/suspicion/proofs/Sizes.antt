-- 8,248 bytes hold every output: the longest text, the longest line with a caret and the longest refusal.
-- Assumes nothing.
use mathlib.Core.Path.{◌≡◌, ap}
use mathlib.Core.List.{List, ◌++◌}
use Prim.Native.Nat.{ℕ, ◌≤◌}
use native.Mathlib.Omega.{arith}
use lib.ListN.{length, replicate, length-append, length-replicate}
use Rattle.reading.specs.Reading.{Got, got, bad}
use Rattle.session.specs.Recording.{Recording}
use Rattle.file.specs.Format.{Parts}
use Rattle.file.specs.Offence.{whole_file}
use Rattle.verdict.specs.declared.Verdict.{Verdict}
use Rattle.verdict.specs.declared.Verdict.TheVariants.{Accepted, Disagrees}
use Rattle.reader.specs.Words.{most_bytes}
use Rattle.std.proofs.Common.{Result, Ok, Err}
use Rattle.rules.specs.declared.refusal.Refusal.{Refusal}
use Rattle.rules.specs.Refusals.{refusal_number}
use Rattle.reader.specs.declared.ParseError.{ParseError}
use Rattle.reader.specs.declared.ParseError.TheVariants.{Broken, Stops, Unknown, Refused}
use Rattle.reader.specs.Parsing.{Columns, said_parsed, Parses}
use Rattle.writing.specs.Writing.{decimal, most_digits, newline}
use Rattle.writing.proofs.Writing.{wrote-whole}
use Rattle.line.specs.Line.{refused_word, session_word, disagrees_word, disagrees_line, at_word, refused_at_line}
use Rattle.line.proofs.Digits.{refused-short}
use Rattle.writing.proofs.Digits.{few-digits}
use Rattle.suspicion.specs.Caret.{caret, pointed_lines}
use Rattle.suspicion.specs.Suspicion.{roomy, verdict_line, Shows, FileSays, TypedLinesOf}
use Rattle.suspicion.proofs.Typed.{stops-within, unknown-within}

disagrees-short : (session : ℕ) → length (disagrees_line session) ≤ 39
disagrees-short session = omega (arith, few-digits most_digits session, length-append (session_word ++ decimal session) disagrees_word)

refused-at-short : (number at : ℕ) → length (refused_at_line number at) ≤ 53
refused-at-short number at =
    omega (
      arith,
      few-digits most_digits number,
      few-digits most_digits at,
      length-append ((refused_word ++ decimal number) ++ (at_word ++ decimal at)) newline,
      length-append (refused_word ++ decimal number) (at_word ++ decimal at),
    )

pointed-short : (typed : List ℕ) (at number : ℕ) → length typed ≤ most_bytes → at ≤ most_bytes → length (pointed_lines typed at number) ≤ 8248
pointed-short typed at number h k =
    omega (
      arith,
      refused-at-short number at,
      length-append (((typed ++ newline) ++ replicate at 32) ++ caret) (refused_at_line number at),
      length-append ((typed ++ newline) ++ replicate at 32) caret,
      length-append (typed ++ newline) (replicate at 32),
      length-append typed newline,
      length-replicate {A = ℕ} at 32,
    )

verdict-short : (v : Result Verdict Refusal) → length (verdict_line v) ≤ 114
verdict-short (Ok Accepted) = omega arith
verdict-short (Ok (Disagrees j)) = omega (arith, disagrees-short j.0)
verdict-short (Err refusal) = refused-short (refusal_number refusal)

module _ (i : Recording) (names typed : List ℕ) (c : Columns) where
  shows-short : (p : Result ℕ ParseError) (out : List ℕ) → Parses names typed roomy c (said_parsed p) → Shows i typed c p out → length out ≤ 8248
  shows-short (Ok n) out a s = omega (arith, verdict-short s.0, ap length s.2)
  shows-short (Err (Broken o)) out a s = omega (arith, refused-at-short 8 o, ap length s)
  shows-short (Err (Stops o)) out a s =
      let w = stops-within names typed roomy c a in
      omega (arith, pointed-short typed o 11 w.1 w.0, ap length s)
  shows-short (Err (Unknown o)) out a s =
      let w = unknown-within names typed roomy c a in
      omega (arith, pointed-short typed o 13 w.1 w.0, ap length s)
  shows-short (Err (Refused refusal)) out a s = omega (arith, refused-short (refusal_number refusal), ap length s)

pub says-short : (g : Got Parts) (typed out : List ℕ) → FileSays g typed out → length out ≤ 8248
says-short (bad o) typed out s = omega (arith, refused-at-short 8 o, ap length s)
says-short (got p next) typed out s = shows-short _ _ typed s.left s.answer out s.parses s.shows

-- where as much is lent, all lines stand
pub suspicion-fits : {typed file old new : List ℕ} {r : ℕ} → 8248 ≤ length old → (w : TypedLinesOf typed file old new r) → r ≡ length w.lines
suspicion-fits {typed} {file} h w =
    let s = says-short (whole_file file) typed w.lines w.says in
    omega (arith, wrote-whole w.lines w.wrote (omega arith))
