-- Laws of `begins`, `find` and `total`, as the loops go.
use Rattle.std.proofs.Common.{◌≡◌, ℕ, zero, suc, ◌+◌, ◌-◌, ◌*◌, ◌/◌, ◌<◌, ◌≤◌, Bool, true, false, ◌&&◌, eqb, List, [], ◌∷◌, ◌++◌, length, get_or, take, drop, sym, refl, ap, ◌∙◌, ⊎_elim, le_of_suc-le-suc, not-suc-le-zero, mod-lt, add-mul, eq-or-lt_of_le, one-mul, add-one, arith, length-drop, take_all, drop-cons, eq-eqb, ne_eqb}
use lib.ListN.{drop_of_length-le}
use lib.Seq.{take-nil}
use lib.Pointwise.{pointwise}
use Rattle.basics.specs.Choice.{pick}
use Rattle.std.specs.Int.{from_le_bytes}
use native.Mathlib.Decide.{dec_lt}
use mir.Syntax.{w32}
use Rattle.std.specs.Simd.{first_chunks}
use Rattle.std.specs.Prelude.{Option, Some, None}
use Rattle.image.specs.Sums.{total, sum_of, begins}
use Rattle.image.specs.Images.{mark, find}

pick_false : (b : Bool) → pick b false false ≡ false
unfolding pick
pick_false true = refl
pick_false false = refl

pub begins_short : (s m : List ℕ) → length s < length m → begins s m ≡ false
unfolding begins
begins_short s [] h = absurd (not-suc-le-zero h)
begins_short [] (m ∷ ms) h = refl
begins_short (x ∷ s) (m ∷ ms) h = ap (λ r. pick (eqb x m) r false) (begins_short s ms (le_of_suc-le-suc h)) ∙ pick_false (eqb x m)

turned : (x m : ℕ) → eqb x m ≡ eqb m x
turned x m = elim (dec_lt x m) [
  | yes h ↦ ne_eqb x m (omega arith) ∙ sym (ne_eqb m x (omega arith))
  | no h ↦ elim (dec_lt m x) [ yes l ↦ ne_eqb x m (omega arith) ∙ sym (ne_eqb m x (omega arith)) | no l ↦ eq-eqb x m (omega arith) ∙ sym (eq-eqb m x (omega arith)) ]
]

as_and : (a b : Bool) → pick a b false ≡ a && b
unfolding pick
as_and true b = refl
as_and false b = refl

-- the same as the library says it
pub begins_is : (s m : List ℕ) → begins s m ≡ pointwise eqb m (take (length m) s)
unfolding begins pick
begins_is s [] = refl
begins_is [] (m ∷ ms) = refl
begins_is (x ∷ s) (m ∷ ms) = rw (begins_is s ms, turned x m) (as_and (eqb m x) (pointwise eqb ms (take (length ms) s)))

-- what stands in front of a list is what it begins with
pub begins_front : (m rest : List ℕ) → begins (m ++ rest) m ≡ true
unfolding begins pick
begins_front [] rest = refl
begins_front (x ∷ m) rest = rw (eq-eqb x x refl) (begins_front m rest)

-- no more of s counts than m has
pub begins_take : (n : ℕ) (s m : List ℕ) → length m ≤ n → begins (take n s) m ≡ begins s m
unfolding begins
begins_take n s [] h = refl
begins_take n [] (m ∷ ms) h = ap (λ l. begins l (m ∷ ms)) (take-nil n)
begins_take zero (x ∷ s) (m ∷ ms) h = absurd (not-suc-le-zero h)
begins_take (suc n) (x ∷ s) (m ∷ ms) h = ap (λ r. pick (eqb x m) r false) (begins_take n s ms (le_of_suc-le-suc h))

-- whether sector t starts with the mark, by the five bytes at its start
pub starts_there : (F : List ℕ) (a : ℕ) (r b : Bool) → r ≡ begins (take (a + 5 - a) (drop a F)) mark → r ≡ b → begins (drop a F) mark ≡ b
starts_there F a r b e q = let five : a + 5 - a ≡ 5 = omega arith in sym (begins_take 5 (drop a F) mark (omega arith)) ∙ ap (λ k. begins (take k (drop a F)) mark) (sym five) ∙ sym e ∙ q

-- the part of a list from a on
pub from_there : (F : List ℕ) (a : ℕ) → take (length F - a) (drop a F) ≡ drop a F
from_there F a = take_all (length F - a) (drop a F) (simp length-drop (omega arith))

-- the sector below t ends where t begins
pub last : (t S : ℕ) → 0 < t → (t - 1) * S + S ≡ t * S
last t S h = let e : t - 1 + 1 ≡ t = omega arith in rw (add-mul, one-mul) at (ap (λ k. k * S) e)

module _ (S : ℕ) (F : List ℕ) where
  below : (t : ℕ) → 0 < t → find S F t ≡ pick (begins (drop ((t - 1) * S) F) mark) (Some (t - 1)) (find S F (t - 1))
  unfolding find
  below t h = let e : t ≡ suc (t - 1) = omega arith in ap (find S F) e

  pub find_hit : (t : ℕ) → 0 < t → begins (drop ((t - 1) * S) F) mark ≡ true → Some (t - 1) ≡ find S F t
  unfolding pick
  find_hit t h e = sym (below t h ∙ rw e)

  pub find_miss : (t : ℕ) → 0 < t → begins (drop ((t - 1) * S) F) mark ≡ false → find S F t ≡ find S F (t - 1)
  unfolding pick
  find_miss t h e = below t h ∙ rw e

  pub find_none : (t : ℕ) → t ≤ 0 → find S F t ≡ None
  unfolding find
  find_none t h = let e : t ≡ 0 = omega arith in ap (find S F) e

-- what is found lies below
pick_below : (t p : ℕ) (f : Option ℕ) (r : Bool) → (f ≡ Some p → p < t) → pick r (Some t) f ≡ Some p → p < suc t
unfolding pick
pick_below t p f true low e = let q : t ≡ p = cc in omega arith
pick_below t p f false low e = let q : p < t = low e in omega arith

pub find_below : (S : ℕ) (F : List ℕ) (b p : ℕ) → find S F b ≡ Some p → p < b
unfolding find
find_below S F zero p e = let z : ◌≡◌ {A = ℕ} 0 1 = cc in absurd (omega arith)
find_below S F (suc t) p e = pick_below t p (find S F t) (begins (drop (t * S) F) mark) (find_below S F t p) e

-- the highest sector below b with the mark is what is found
pub find_highest : (S : ℕ) (F : List ℕ) (p b : ℕ) → p < b → begins (drop (p * S) F) mark ≡ true
    → ((t : ℕ) → p < t → t < b → begins (drop (t * S) F) mark ≡ false) → find S F b ≡ Some p
unfolding find pick
find_highest S F p zero low hit above = absurd (not-suc-le-zero low)
find_highest S F p (suc t) low hit above =
    ⊎_elim
    (λ (e : p ≡ t). rw (← e, hit))
    (λ (h : p < t). rw (above t h (omega arith)) (find_highest S F p t h hit (λ u g k. above u g (omega arith))))
    (eq-or-lt_of_le (le_of_suc-le-suc low))

-- the byte at i and those from j on, with j one further
next_byte : (s : List ℕ) (i j : ℕ) → j ≡ i + 1 → i < length s → drop i s ≡ get_or s i 0 ∷ drop j s
next_byte s i j e h = drop-cons s i 0 h ∙ ap (λ k. get_or s i 0 ∷ drop k s) (sym (e ∙ add-one i))

total_short : (l : List ℕ) → length l < 4 → total l ≡ 0
unfolding total
total_short [] h = refl
total_short (a ∷ []) h = refl
total_short (a ∷ b ∷ []) h = refl
total_short (a ∷ b ∷ c ∷ []) h = refl
total_short (a ∷ b ∷ c ∷ d ∷ r) h = absurd (not-suc-le-zero (le_of_suc-le-suc (le_of_suc-le-suc (le_of_suc-le-suc (le_of_suc-le-suc h)))))

-- the words of a body, as the library cuts them and reads them
unfoldable pub values : List (List ℕ) → ℕ
values [] = 0
values (w ∷ ws) = from_le_bytes w32 w + values ws

pub total_is : (n : ℕ) (s : List ℕ) → n ≡ length s / 4 → total s ≡ values (first_chunks 4 n s)
unfolding total values
total_is zero s e = total_short s (omega arith)
total_is (suc n) [] e = absurd (omega arith)
total_is (suc n) (a ∷ []) e = absurd (omega arith)
total_is (suc n) (a ∷ b ∷ []) e = absurd (omega arith)
total_is (suc n) (a ∷ b ∷ c ∷ []) e = absurd (omega arith)
total_is (suc n) (a ∷ b ∷ c ∷ d ∷ s) e = omega (arith, total_is n s (omega arith))

-- one word more
pub values_more : (i : ℕ) (ws : List (List ℕ)) → i < length ws → values (drop i ws) ≡ from_le_bytes w32 (get_or ws i []) + values (drop (i + 1) ws)
unfolding values
values_more i ws h = rw (drop-cons ws i [] h, add-one)

pub values_end : (i : ℕ) (ws : List (List ℕ)) → length ws ≤ i → values (drop i ws) ≡ 0
unfolding values
values_end i ws h = rw (drop_of_length-le ws h)

-- the sum is a word
pub sum_word : (body : List ℕ) → sum_of body < 4294967296
unfolding sum_of
sum_word body = mod-lt (total body) (omega arith)
