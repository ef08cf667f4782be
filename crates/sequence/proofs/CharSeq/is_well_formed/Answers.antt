-- `CharSeq::is_well_formed` meets its contract: the word is clear from the places of the length on.
use mathlib.Core.Path.{sym, subst}
use Prim.Native.Nat.{ℕ}
use Rattle.words.specs.Word.{Wf}
use Rattle.sequence.proofs.CharSeq.is_well_formed.Goals as goal

pub returns : goal.returns
returns c =
    let s = c.args.self in
    let e = c.places.ensures in
    let f = c.is_clear.ensures in
    (λ t. subst (λ (n : ℕ). Wf n s.values) e (f.0 t), λ w. f.1 (subst (λ (n : ℕ). Wf n s.values) (sym e) w))
