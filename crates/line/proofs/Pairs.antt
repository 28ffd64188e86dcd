-- Laws on lines of hex pairs, a pair at a time.
use Prim.Native.Nat.{ℕ, zero, suc, ◌+◌, ◌*◌, ◌/◌, ◌%◌, ◌≤◌, ◌<◌}
use mathlib.Core.Bool.{Bool, true, false}
use mathlib.Core.Path.{◌≡◌, refl, sym, ap, ◌∙◌}
use mathlib.Core.List.{List, [], ◌∷◌, ◌++◌, append_assoc, append-nil}
use native.Mathlib.Numerals.{add-one}
use native.Mathlib.Omega.{arith}
use lib.ListN.{length, get_or, take, drop, set, drop_of_length-le}
use lib.Seq.{drop-cons, take-suc-set}
use Rattle.std.specs.Prelude.{Option, Some, None, slice_index_or}
use Rattle.std.proofs.lemmas.List.{drop-drop}
use Rattle.std.specs.Simd.{first_chunks}
use Rattle.basics.specs.Choice.{pick}
use Rattle.line.specs.Hex.{is_hex, pair_of, are_pairs, bytes_of}

-- a pair before what is no pairs
never : (a b : Bool) → pick a (pick b false false) false ≡ false
unfolding pick
never true true = refl
never true false = refl
never false b = refl

-- a line of an odd length is no pairs
pub odd_no : (s : List ℕ) → (length s % 2 ≡ 0 → ⊥) → are_pairs s ≡ false
unfolding are_pairs
odd_no [] h = absurd (h refl)
odd_no (a ∷ []) h = refl
odd_no (a ∷ b ∷ s) h =
    ap (λ (r : Bool). pick (is_hex a) (pick (is_hex b) r false) false) (odd_no s (λ e. h (omega arith)))
    ∙ never (is_hex a) (is_hex b)

-- two digits or not
no_two : (a b r : Bool) (v : ℕ) → pick a (pick b (Some v) None) None ≡ None → pick a (pick b r false) false ≡ false
unfolding pick
no_two true true r v e = cc
no_two true false r v e = refl
no_two false b r v e = refl

two : (a b r : Bool) (v w : ℕ) → pick a (pick b (Some v) None) None ≡ Some w → (pick a (pick b r false) false ≡ r) × (v ≡ w)
unfolding pick
two true true r v w e = (refl, cc)
two true false r v w e = cc
two false b r v w e = cc

-- what is left from the pair i on is that pair and what is left from the next
from_pair : (s : List ℕ) (i : ℕ) → 2 * i + 1 < length s → drop (2 * i) s ≡ get_or s (2 * i) 0 ∷ get_or s (2 * i + 1) 0 ∷ drop (2 * (i + 1)) s
from_pair s i h =
    let e : suc (2 * i) ≡ 2 * i + 1 = omega arith in
    let f : suc (2 * i + 1) ≡ 2 * (i + 1) = omega arith in
    drop-cons s (2 * i) 0 (omega arith)
    ∙ ap (λ (k : ℕ). get_or s (2 * i) 0 ∷ drop k s) e
    ∙ ap (λ (l : List ℕ). get_or s (2 * i) 0 ∷ l) (drop-cons s (2 * i + 1) 0 h ∙ ap (λ (k : ℕ). get_or s (2 * i + 1) 0 ∷ drop k s) f)

-- the pair i of a line that is cut into pairs
cut : (n : ℕ) (s : List ℕ) (i : ℕ) → i < n → slice_index_or (first_chunks 2 n s) i [] ≡ take 2 (drop (2 * i) s)
cut zero s i h = absurd (omega arith)
cut (suc n) s zero h = refl
cut (suc n) s (suc i) h =
    let e : 2 + 2 * i ≡ 2 * suc i = omega arith in
    cut n (drop 2 s) i (omega arith) ∙ ap (λ (l : List ℕ). take 2 l) (drop-drop (2 * i) 2 s ∙ ap (λ (k : ℕ). drop k s) e)

module _ (s : List ℕ) (pairs : List (List ℕ)) (are_cut : pairs ≡ first_chunks 2 (length s / 2) s) (i : ℕ) (h : i < length s / 2) where
  there : drop (2 * i) s ≡ slice_index_or (slice_index_or pairs i []) 0 0 ∷ slice_index_or (slice_index_or pairs i []) 1 0 ∷ drop (2 * (i + 1)) s
  there =
      let two : slice_index_or pairs i [] ≡ get_or s (2 * i) 0 ∷ get_or s (2 * i + 1) 0 ∷ [] =
      ap (λ (ps : List (List ℕ)). slice_index_or ps i []) are_cut ∙ cut (length s / 2) s i h ∙ ap (λ (l : List ℕ). take 2 l) (from_pair s i (omega arith)) in
      rw two (from_pair s i (omega arith))

  module _ (r : Option ℕ) (is : r ≡ pair_of (slice_index_or (slice_index_or pairs i []) 0 0) (slice_index_or (slice_index_or pairs i []) 1 0)) where
    pub bad : r ≡ None → are_pairs (drop (2 * i) s) ≡ false
    unfolding are_pairs
    bad e = ap are_pairs there ∙ no_two _ _ _ _ (sym is ∙ e)

    pub good : (v : ℕ) → r ≡ Some v → are_pairs (drop (2 * i) s) ≡ are_pairs (drop (2 * (i + 1)) s)
    unfolding are_pairs
    good v e = ap are_pairs there ∙ (two _ _ _ _ v (sym is ∙ e)).0

    pub one_more : (v : ℕ) → r ≡ Some v → bytes_of (drop (2 * i) s) ≡ v ∷ bytes_of (drop (2 * (i + 1)) s)
    unfolding bytes_of
    one_more v e = ap bytes_of there ∙ ap (λ (x : ℕ). x ∷ bytes_of (drop (2 * (i + 1)) s)) (two _ _ true _ v (sym is ∙ e)).1

-- a byte stored behind those that stand there
pub stored : (out : List ℕ) (i v : ℕ) (rest : List ℕ) → i < length out → take (i + 1) (set out i v) ++ rest ≡ take i out ++ (v ∷ rest)
stored out i v rest h = ap (λ (k : ℕ). take k (set out i v) ++ rest) (add-one i) ∙ ap (λ (l : List ℕ). l ++ rest) (take-suc-set out i v h) ∙ append_assoc (take i out) (v ∷ []) rest

-- at the end of a line of an even length nothing is left
pub all_pairs : (s : List ℕ) (i : ℕ) → length s ≤ 2 * i → are_pairs (drop (2 * i) s) ≡ true
unfolding are_pairs
all_pairs s i h = ap are_pairs (drop_of_length-le s {i = 2 * i} h)

pub all_bytes : (s out : List ℕ) (i : ℕ) → length s ≤ 2 * i → take i out ++ bytes_of (drop (2 * i) s) ≡ take i out
unfolding bytes_of
all_bytes s out i h = ap (λ (l : List ℕ). take i out ++ bytes_of l) (drop_of_length-le s {i = 2 * i} h) ∙ append-nil (take i out)
