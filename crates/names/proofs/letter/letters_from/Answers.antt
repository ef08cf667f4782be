-- The goals of `letters_from` that the search leaves.
use Prim.Native.Nat.{ℕ}
use mathlib.Core.Path.{◌≡◌, sym, ap, ◌∙◌}
use mathlib.Core.List.{List}
use Rattle.std.proofs.Common.{Result}
use Rattle.std.proofs.lemmas.Result.{err_from_is_err_and}
use Rattle.names.specs.Names.{letter}
use Rattle.names.specs.Inner.{fits_at}
use Rattle.reading.specs.declared.Read.{Read}
use Rattle.reading.specs.declared.Broken.{Broken}
use Rattle.reading.specs.Reading.{byte, step_of}
use Rattle.reading.proofs.Steps.{step-read, step-broken, Loop, start, turn, broken, done}
use Rattle.names.proofs.NameLaws.{letter-same}
use Rattle.names.proofs.letter.letters_from.Goals as goal

step : {file : List ℕ} {at n i p : ℕ} {r : Result Read Broken} (l : Loop letter file at n i p) → r ≡ step_of (λ b. b) (byte (fits_at i) file p) → r ≡ step_of (λ b. b) (letter l.seen file p)
step {file} {at} {n} {i} {p} l e = e ∙ ap (step_of (λ b. b)) (ap (λ (k : ℕ). byte (fits_at k) file p) (sym l.count) ∙ letter-same l.seen file p)

pub loop-i-init : goal.loop-i-init
loop-i-init c = start letter _ _ _

pub returns-in_err-p : goal.returns-in_err-p
returns-in_err-p c =
    let l = c.loop-i.invariant in
    let p = err_from_is_err_and c.from_residual.result c.from_residual.ensures.1 in
    rw (p.1, p.2) (broken letter _ l c.loop-i-test.true (step-broken (λ b. b) _ (step l c.in_err-p.ensures)))

pub loop-i-preserved : goal.loop-i-preserved
loop-i-preserved c =
    let l = c.loop-i.invariant in
    turn letter _ l c.loop-i-test.true (step-read (λ b. b) _ (step l c.in_ok-p.ensures)).1

pub returns : goal.returns
returns c = done letter _ c.loop-i.invariant c.loop-i-test.false
