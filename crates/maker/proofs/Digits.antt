-- Laws of digits, one at a time.
use Prim.Native.Nat.{ℕ, ◌+◌, ◌*◌, ◌≤◌, ◌<◌}
use mathlib.Core.Path.{◌≡◌, refl, sym, ap, ◌∙◌}
use mathlib.Core.Bool.{Bool, true, false}
use mathlib.Core.List.{List, [], ◌∷◌}
use native.Mathlib.Nat.{le_trans, mul-le-mul_left, mul-one}
use native.Mathlib.Numerals.{add-one}
use native.Mathlib.Omega.{arith}
use lib.Dec.{eqb}
use lib.ListN.{length, drop, get_or}
use lib.Seq.{drop-cons}
use borrow.Author.Tests.{lt-ltb, le-ltb, ltb-true, ltb-false, ne_eqb}
use Rattle.basics.specs.Choice.{pick, yes_by, no_by}
use Rattle.line.specs.Hex.{nibble_of}
use Rattle.image.specs.Sums.{begins}
use lib.Pointwise.{pointwise}
use Rattle.std.specs.Prelude.{◌&&◌, Option, Some, None, take, nat_eq}
use Rattle.maker.specs.Versions.{digit_in, word_of, are_digits, value_of, digits_of}

-- what a test picks or not
none_picked : (t : Bool) (v : ℕ) → pick t (Some v) None ≡ None → t ≡ false
unfolding pick
none_picked true v e = cc
none_picked false v e = refl

some_picked : (t : Bool) (v w : ℕ) → pick t (Some v) None ≡ Some w → (t ≡ true) × (v ≡ w)
unfolding pick
some_picked true v w e = (refl, cc)
some_picked false v w e = cc

-- the digit at i and what follows it
module _ (base : ℕ) (s : List ℕ) (i : ℕ) (h : i < length s) (r : Option ℕ) (is : r ≡ digit_in base (get_or s i 0)) where
  here : drop i s ≡ get_or s i 0 ∷ drop (i + 1) s
  here = drop-cons s i 0 h ∙ rw add-one

  pub bad_digit : r ≡ None → are_digits base (drop i s) ≡ false
  unfolding are_digits
  bad_digit e = ap (are_digits base) here ∙ sym (no_by _ _ _ _ (none_picked _ _ (sym is ∙ e)) refl)

  pub good_digit : (d : ℕ) → r ≡ Some d → are_digits base (drop i s) ≡ are_digits base (drop (i + 1) s)
  unfolding are_digits
  good_digit d e = ap (are_digits base) here ∙ sym (yes_by _ _ _ _ (some_picked _ _ _ (sym is ∙ e)).0 refl)

  pub next_value : (d n : ℕ) → r ≡ Some d → value_of base n (drop i s) ≡ value_of base (n * base + d) (drop (i + 1) s)
  unfolding value_of
  next_value d n e = ap (value_of base n) here ∙ ap (λ (k : ℕ). value_of base (n * base + k) (drop (i + 1) s)) (some_picked _ _ _ (sym is ∙ e)).1

-- a number of 32 bits or not
pub too_long : (n : ℕ) → word_of n ≡ None → 4294967296 ≤ n
too_long n e = ltb-false n 4294967296 (none_picked _ _ e)

pub short_enough : (n w : ℕ) → word_of n ≡ Some w → (n < 4294967296) × (n ≡ w)
short_enough n w e = (ltb-true n 4294967296 (some_picked _ _ _ e).0, (some_picked _ _ _ e).1)

-- more digits make no smaller number
pub grows : (base n : ℕ) (s : List ℕ) → 1 ≤ base → n ≤ value_of base n s
unfolding value_of
grows base n [] h = omega arith
grows base n (c ∷ s) h =
    let m : n * 1 ≤ n * base = mul-le-mul_left n h in
    le_trans (omega (arith, mul-one n)) (grows base (n * base + nibble_of c) s h)

no_either : (t : Bool) → ◌≡◌ {A = Option ℕ} None (pick t None None)
unfolding pick
no_either true = refl
no_either false = refl

module _ (base : ℕ) (s : List ℕ) where
  pub no_digits : are_digits base s ≡ false → None ≡ digits_of base s
  unfolding digits_of pick
  no_digits e = rw e (no_either (eqb (length s) 0))

  pub too_large : 4294967296 ≤ value_of base 0 s → None ≡ digits_of base s
  unfolding digits_of pick
  too_large h = rw (le-ltb (value_of base 0 s) 4294967296 h, ← no_either (are_digits base s)) (no_either (eqb (length s) 0))

  pub number : (v : ℕ) → 0 < length s → are_digits base s ≡ true → value_of base 0 s ≡ v → v < 4294967296 → Some v ≡ digits_of base s
  unfolding digits_of pick
  number v some all is small = rw (is, ne_eqb (length s) 0 (λ e. omega arith), all, lt-ltb v 4294967296 small)

-- to begin with m is to have m as prefix
picked_both : (t r : Bool) → pick t r false ≡ t && r
unfolding pick
picked_both true r = refl
picked_both false r = refl

pub prefixed : (s m : List ℕ) → begins s m ≡ pointwise nat_eq (take (length m) s) m
unfolding begins
prefixed s [] = refl
prefixed [] (m ∷ ms) = refl
prefixed (x ∷ s) (m ∷ ms) = ap (λ (r : Bool). pick (nat_eq x m) r false) (prefixed s ms) ∙ picked_both (nat_eq x m) (pointwise nat_eq (take (length ms) s) ms)
