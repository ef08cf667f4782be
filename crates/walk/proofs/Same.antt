-- Inputs that agree where they are looked at have one search: their offers are equal but for the words of propositions that are not offered,
-- and a walk looks only at those of its leaves.
-- Assumes nothing.
use mathlib.Core.Path.{◌≡◌, refl, sym, ap, ap₂, ◌∙◌, fun_ext}
use mathlib.Core.Bool.{Bool, true, false, ◌&&◌, ◌||◌, beq}
use mathlib.Core.List.Memᴰ
use mathlib.Core.List.{List, [], ◌∷◌, map, foldl}
use Prim.Native.Nat.{ℕ, zero, suc, ◌+◌, ◌*◌, ◌<◌}
use native.Mathlib.Omega.{arith}
use native.Mathlib.Nat.{mul_comm, mul-le-mul_right, suc-mul}
use lib.ListN.{length, get_or}
use lib.Dec.{eqb, leb}
use Rattle.sequence.specs.Operators.{Unary, Binary}
use Rattle.formula.specs.Formula.{Leaf, proposition, constant}
use Rattle.walk.specs.Walk.{Offer, Candidate, Placed, Tally, one_tried, WalkState, going, ended, kept, seed, orders, unary_candidates, pairs, layer, known, judge, consider}
use Rattle.walk.specs.Walk.{through, after, finish, walk}
use Rattle.rules.specs.Lists.{count, ◌∈◌}
use Rattle.walk.specs.Rows.{unary_row, binary_row, constant_row, accepts_row}
use Rattle.walk.specs.Input.{Input, row, rows, every, leaves, separating, offer, search, input_of}
use Rattle.walk.specs.Promises.{SameWhereRead}
use Rattle.walk.proofs.Members.{from-count}
use Rattle.walk.proofs.Reading.{from-leaf}

-- ---- a walk looks at no leaf's matrix but its own leaves'

map_same : {A B : Type 0} (f g : A → B) (xs : List A) → ((x : A) → x ∈ xs → f x ≡ g x) → map f xs ≡ map g xs
map_same f g [] h = refl
map_same f g (x ∷ xs) h = ap₂ (λ a b. a ∷ b) (h x (Memᴰ.head refl)) (map_same f g xs (λ y m. h y (Memᴰ.tail m)))

module _ {L U B Mat : Type 0} (O : Offer L U B Mat) where
  -- the offer with other matrices of leaves
  abbrev given : (L → Mat) → Offer L U B Mat
  given f = record {
    leaves = O.leaves;
    unaries = O.unaries;
    binaries = O.binaries;
    codes = O.codes;
    leaf_matrix = f;
    unary_matrix = O.unary_matrix;
    binary_matrix = O.binary_matrix;
    commutes = O.commutes;
    same = O.same;
    agrees = O.agrees;
  }

  module _ (f g : L → Mat) (h : (c : L) → c ∈ O.leaves → f c ≡ g c) (C : ℕ) where
    known-given : (x : Mat) (k : List (Candidate Mat)) → known (given f) x k ≡ known (given g) x k
    unfolding known
    known-given x [] = refl
    known-given x (c ∷ k) = ap (λ (b : Bool). O.same x c.matrix || b) (known-given x k)

    judge-given : (a b r : Bool) (c : Candidate Mat) (k : List (Candidate Mat)) (n : Tally) → judge (given f) a b r c k n ≡ judge (given g) a b r c k n
    unfolding judge
    judge-given true b r c k n = refl
    judge-given false true r c k n = refl
    judge-given false false true c k n = refl
    judge-given false false false c k n = refl

    consider-given : (st : WalkState Mat) (c : Candidate Mat) → consider (given f) C st c ≡ consider (given g) C st c
    unfolding consider
    consider-given (going k n) c =
        ap (λ (b : Bool). judge (given f) (O.agrees c.matrix) b (leb C (length k)) c k (one_tried n)) (known-given c.matrix k)
        ∙ judge-given (O.agrees c.matrix) (known (given g) c.matrix k) (leb C (length k)) c k (one_tried n)
    consider-given (ended e k n) c = refl

    orders-given : (b : Bool) (op : B) (l q : Placed Mat) → orders (given f) b op l q ≡ orders (given g) b op l q
    unfolding orders
    orders-given true op l q = refl
    orders-given false op l q = refl

    pairs-given : (i j : ℕ) (k : List (Candidate Mat)) → pairs (given f) i j k ≡ pairs (given g) i j k
    unfolding pairs
    pairs-given i j k = simp orders-given

    layer-given : (s : ℕ) (k : List (Candidate Mat)) → layer (given f) s k ≡ layer (given g) s k
    unfolding layer unary_candidates
    layer-given zero k = refl
    layer-given (suc zero) k =
        map_same (seed (given f)) (seed (given g)) O.leaves
        (λ c m. ap (λ (x : Mat). record { node = record { code = O.codes.of_leaf c; left = O.codes.leaf_field c; right = 0; size = 1 }; matrix = x }) (h c m))
    layer-given (suc (suc m)) k = simp pairs-given

    after-given : (b : ℕ) → after (given f) C b ≡ after (given g) C b
    unfolding after through
    after-given zero = refl
    after-given (suc b) =
        ap (λ (st : WalkState Mat). foldl (consider (given f) C) st (layer (given f) (suc b) (kept st))) (after-given b)
        ∙ ap₂ (λ (j : WalkState Mat → Candidate Mat → WalkState Mat) (cs : List (Candidate Mat)). foldl j (after (given g) C b) cs)
        (fun_ext λ st. fun_ext λ c. consider-given st c) (layer-given (suc b) (kept (after (given g) C b)))

    walk-given : (b : ℕ) → walk (given f) C b ≡ walk (given g) C b
    unfolding walk
    walk-given b = ap finish (after-given b)

-- ---- two inputs

rows_same : (r : ℕ) (f g : ℕ → ℕ) → ((j : ℕ) → j < r → f j ≡ g j) → rows r f ≡ rows r g
rows_same r f g h = map_same f g (count 0 r) (λ j m. let w = from-count 0 r j m in h j (omega arith))

every-same : (js : List ℕ) (f g : ℕ → Bool) → ((j : ℕ) → j ∈ js → f j ≡ g j) → every js f ≡ every js g
unfolding every
every-same [] f g h = refl
every-same (j ∷ js) f g h = ap₂ (λ (a b : Bool). a && b) (h j (Memᴰ.head refl)) (every-same js f g (λ k m. h k (Memᴰ.tail m)))

-- the words lie m per session
pub inside : (m r q p : ℕ) → q < r → p < m → q * m + p < m * r
inside m r q p h l = omega (arith, suc-mul q m, mul-le-mul_right m h, mul_comm m r)

module _ (r m b room constants : ℕ) (us bs : List ℕ) where
  abbrev input : List ℕ → List ℕ → List ℕ → Input
  input M N W = input_of r m b room constants M N W us bs

  search_of : List ℕ → List ℕ → List ℕ → WalkState (List ℕ)
  search_of M N W = search (input M N W)

  module _ (M M' N N' W W' : List ℕ) (e_m : (p : ℕ) → p < r → get_or M p 0 ≡ get_or M' p 0) (e_n : (p : ℕ) → p < r → get_or N p 0 ≡ get_or N' p 0)
      (e_w : (p : ℕ) → p < m * r → get_or W p 0 ≡ get_or W' p 0) where
    abbrev i : Input
    i = input M N W

    abbrev i' : Input
    i' = input M' N' W'

    unary-same : (offer i).unary_matrix ≡ (offer i').unary_matrix
    unary-same = fun_ext λ op. fun_ext λ x. rows_same r _ _ (λ j h. ap (λ (n : ℕ). unary_row op n (row x j)) (e_n j h))

    binary-same : (offer i).binary_matrix ≡ (offer i').binary_matrix
    binary-same = fun_ext λ op. fun_ext λ x. fun_ext λ y. rows_same r _ _ (λ j h. ap (λ (n : ℕ). binary_row op n (row x j) (row y j)) (e_n j h))

    separating-same : separating i ≡ separating i'
    unfolding separating
    separating-same = fun_ext λ x. every-same (count 0 r) _ _ (λ j m. let w = from-count 0 r j m in
        let h : j < r = omega arith in
        ap (λ (a : ℕ). beq (accepts_row (row x j)) (eqb a 1)) (e_m j h))

    leaf-same : (c : Leaf) → c ∈ leaves i → (offer i).leaf_matrix c ≡ (offer i').leaf_matrix c
    leaf-same (proposition p) w = rows_same r _ _ (λ j h. e_w (j * m + p) (inside m r j p h (from-leaf i (proposition p) w)))
    leaf-same (constant t) w = rows_same r _ _ (λ j h. ap (constant_row t) (e_n j h))

    abbrev made : (Unary → List ℕ → List ℕ) → (Binary → List ℕ → List ℕ → List ℕ) → (List ℕ → Bool) → Offer Leaf Unary Binary (List ℕ)
    made u v a = record {
      leaves = (offer i).leaves;
      unaries = (offer i).unaries;
      binaries = (offer i).binaries;
      codes = (offer i).codes;
      leaf_matrix = (offer i').leaf_matrix;
      unary_matrix = u;
      binary_matrix = v;
      commutes = (offer i).commutes;
      same = (offer i).same;
      agrees = a;
    }

    same-offer : made (offer i).unary_matrix (offer i).binary_matrix (separating i) ≡ offer i'
    same-offer =
        ap (λ (u : Unary → List ℕ → List ℕ). made u (offer i).binary_matrix (separating i)) unary-same
        ∙ ap₂ (λ (v : Binary → List ℕ → List ℕ → List ℕ) (a : List ℕ → Bool). made (offer i').unary_matrix v a) binary-same separating-same

    same-search : search_of M N W ≡ search_of M' N' W'
    unfolding search_of
    same-search =
        walk-given (offer i) (offer i).leaf_matrix (offer i').leaf_matrix leaf-same room b
        ∙ ap (λ (o : Offer Leaf Unary Binary (List ℕ)). walk o room b) same-offer

search-of : (i : Input)
    → search_of i.recording.sessions i.recording.propositions i.bound i.room i.constants i.unary i.binary i.recording.marks
    i.recording.lengths i.recording.words ≡ search i
unfolding search_of
search-of i = refl

pub same-where-read : SameWhereRead
same-where-read i j s =
    sym (search-of i)
    ∙ same-search i.recording.sessions i.recording.propositions i.bound i.room i.constants i.unary i.binary
    i.recording.marks j.recording.marks i.recording.lengths j.recording.lengths i.recording.words j.recording.words s.marks s.lengths s.words
    ∙ (cc)
    ∙ search-of j
