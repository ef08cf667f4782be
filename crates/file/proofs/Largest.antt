-- "the largest good file is 4,450 bytes": no good file is longer, and one is as long.
-- Assumes nothing.
use mathlib.Core.Path.{◌≡◌, refl, sym, ap}
use mathlib.Core.List.{List, [], ◌∷◌, ◌++◌, flat_map}
use Prim.Native.Nat.{ℕ, zero, suc, ◌+◌, ◌-◌, ◌*◌, ◌^◌, ◌≤◌}
use native.Mathlib.Nat.{mul-le-mul}
use native.Mathlib.Omega.{arith}
use lib.Dec.{lit<, lit≤}
use lib.ListN.{length, replicate, length-append}
use Rattle.words.specs.Word.{Wf}
use Rattle.words.proofs.At.{lt-wf}
use Rattle.file.specs.Format.{FileSession, Parts, file_bytes, GoodSession, Good}
use Rattle.sequence.specs.Operators.{decode}
use Rattle.reading.specs.Reading.{one, section, got, each_item, byte}
use Rattle.names.specs.Reserved.{reserved}
use Rattle.names.specs.Names.{name_bytes, GoodName, name, names_up_to}
use Rattle.rules.specs.Lists.{Each}
use Rattle.file.specs.Offence.{all_codes, is_unary, is_binary}
use Rattle.file.specs.Promises.{most_file, Largest, SomeLargest}
use Rattle.reading.proofs.Lists.{ones}
use Rattle.file.proofs.CodeLaws.{unary_good, good-unary, binary-good, good-binary}
use Rattle.reading.proofs.Ends.{each_map}
use Rattle.file.proofs.Whole.{few-unary, few-binary, codes-sound}
use Rattle.names.proofs.NameLaws.{names-sound}
use Rattle.file.proofs.Positions.{layout}

-- ---- none is longer

name-size : (before : List (List ℕ)) (n : List ℕ) → GoodName before n → length (name_bytes n) ≤ 17
name-size before n g = omega (arith, g.short, ap length (ones n))

names-size : (l before : List (List ℕ)) → Each GoodName before l → length (flat_map name_bytes l) ≤ 17 * length l
unfolding Each flat_map
names-size [] before e = omega arith
names-size (n ∷ l) before e = omega (arith, length-append (name_bytes n) (flat_map name_bytes l), name-size before n e.0, names-size l (before ++ (n ∷ [])) e.1)

pub largest : Largest
largest p g =
    let w : 2 + 8 * length p.names ≤ 130 = omega (arith, g.few_names) in
    let s : length p.sessions * (2 + 8 * length p.names) ≤ 32 * 130 = mul-le-mul g.few_sessions w in
    let u = few-unary p.unary (each_map good-unary p.unary [] g.unary) in
    let v = few-binary p.binary (each_map good-binary p.binary [] g.binary) in
    omega (arith, s, u, v, g.few_names, names-size p.names [] g.names, (layout p (file_bytes p) g refl).room)

-- ---- and one is as long

name_of : ℕ → List ℕ
name_of i = replicate 15 97 ++ ((97 + i) ∷ [])

names_of : ℕ → List (List ℕ)
names_of zero = []
names_of (suc n) = names_of n ++ (name_of n ∷ [])

names : List (List ℕ)
names = names_of 16

names-there : names_up_to 16 (section name_bytes names) 0 ≡ got names 273
unfolding names names_of name_of each_item byte name reserved flat_map
names-there = refl

repeated : {A : Type 0} (P : A → Type 0) (a : A) → P a → (n : ℕ) (before : List A) → Each (λ _ x. P x) before (replicate n a)
unfolding Each
repeated P a h zero before = tt
repeated P a h (suc n) before = (h, repeated P a h n (before ++ (a ∷ [])))

longest : FileSession
longest = record { mark = 1; length = 64; words = replicate 16 (2 ^ 64 - 1) }

longest-good : GoodSession 16 longest
unfolding longest
longest-good = record { mark = lit≤ tt; short = lit≤ tt; count = refl; words = repeated (Wf 64) (2 ^ 64 - 1) (lt-wf (lit≤ tt) (lit< tt)) 16 [] }

unary : List ℕ
unary = 0 ∷ 1 ∷ 2 ∷ 3 ∷ 4 ∷ []

unary-there : all_codes is_unary (section one unary) 0 ≡ got unary 6
unfolding unary each_item byte flat_map decode
unary-there = refl

binary : List ℕ
binary = 5 ∷ 6 ∷ 7 ∷ 8 ∷ 9 ∷ 10 ∷ []

binary-there : all_codes is_binary (section one binary) 0 ≡ got binary 7
unfolding binary each_item byte flat_map decode
binary-there = refl

pub biggest : Parts
biggest = record { names = names; sessions = replicate 32 longest; unary = unary; binary = binary; constants = 1; bound = 31 }

biggest-good : Good biggest
unfolding biggest names names_of unary binary
biggest-good =
    record {
      some_names = lit≤ tt;
      few_names = lit≤ tt;
      names = (names-sound (section name_bytes names) 16 0 names-there).fits;
      some_sessions = lit≤ tt;
      few_sessions = lit≤ tt;
      sessions = repeated (GoodSession 16) longest longest-good 32 [];
      unary = each_map unary_good unary [] (codes-sound (section one unary) is_unary 0 unary-there).fits;
      binary = each_map binary-good binary [] (codes-sound (section one binary) is_binary 0 binary-there).fits;
      constants = lit≤ tt;
      some_bound = lit≤ tt;
      low_bound = lit≤ tt;
    }

biggest-size : length (file_bytes biggest) ≡ most_file
unfolding biggest names names_of name_of unary binary flat_map
biggest-size = sym (layout biggest (file_bytes biggest) biggest-good refl).room

pub some-largest : SomeLargest
some-largest = (biggest, biggest-good, biggest-size)
