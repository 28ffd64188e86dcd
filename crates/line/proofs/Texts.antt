-- Laws on the lines that are written.
use Prim.Native.Nat.{ℕ, suc, ◌+◌, ◌/◌, ◌%◌, ◌<◌, ◌≤◌}
use mathlib.Core.Path.{◌≡◌, refl, ap, ◌∙◌}
use mathlib.Core.List.{List, [], ◌∷◌, ◌++◌}
use native.Mathlib.Numerals.{add-one}
use native.Mathlib.Omega.{arith}
use lib.ListN.{length, take, drop, set, length-append}
use lib.Seq.{sets, sets-eq, take_at, length-take-le}
use borrow.Author.Tests.{lt-ltb, le-ltb}
use Rattle.basics.specs.Choice.{yes_by, no_by}
use Rattle.line.specs.Hex.{decimal_of}

-- bytes stored behind the first `at` of a list, up to their end
behind : (l : List ℕ) (at : ℕ) (vs : List ℕ) → at + length vs ≤ length l → take (at + length vs) (sets l at vs) ≡ take at l ++ vs
behind l at vs h =
    let n : length (take at l ++ vs) ≡ at + length vs = length-append (take at l) vs ∙ ap (λ (k : ℕ). k + length vs) (length-take-le at l (omega arith)) in
    ap (take (at + length vs)) (sets-eq vs l at h) ∙ take_at (take at l ++ vs) (drop (at + length vs) l) (at + length vs) n

-- the decimal digits of n and the newline, stored there
module _ (l : List ℕ) (at n : ℕ) (h : at + 4 ≤ length l) where
  as_decimal : (ds : List ℕ) → ds ≡ decimal_of n → take at l ++ (ds ++ (10 ∷ [])) ≡ take at l ++ (decimal_of n ++ (10 ∷ []))
  as_decimal ds e = ap (λ (xs : List ℕ). take at l ++ (xs ++ (10 ∷ []))) e

  pub one_digit : n < 10 → take (at + 2) (set (set l at (48 + n)) (at + 1) 10) ≡ take at l ++ (decimal_of n ++ (10 ∷ []))
  one_digit e =
      let ds : List ℕ = (48 + n) ∷ [] in
      rw (add-one at) (behind l at (ds ++ (10 ∷ [])) (omega arith) ∙ as_decimal ds (yes_by _ _ _ _ (lt-ltb n 10 e) refl))

  pub two_digits : 10 ≤ n → n < 100 → take (at + 3) (set (set (set l at (48 + n / 10)) (at + 1) (48 + n % 10)) (at + 2) 10) ≡ take at l ++ (decimal_of n ++ (10 ∷ []))
  two_digits e f =
      let ds : List ℕ = (48 + n / 10) ∷ (48 + n % 10) ∷ [] in
      let s : at + 2 ≡ suc (suc at) = omega arith in
      rw (add-one at, s) (behind l at (ds ++ (10 ∷ [])) (omega arith) ∙ as_decimal ds (no_by _ _ _ _ (le-ltb n 10 e) (yes_by _ _ _ _ (lt-ltb n 100 f) refl)))

  pub three_digits : 10 ≤ n → 100 ≤ n → take (at + 4) (set (set (set (set l at (48 + n / 100)) (at + 1) (48 + n / 10 % 10)) (at + 2) (48 + n % 10)) (at + 3) 10) ≡ take at l ++ (decimal_of n ++ (10 ∷ []))
  three_digits e f =
      let ds : List ℕ = (48 + n / 100) ∷ (48 + n / 10 % 10) ∷ (48 + n % 10) ∷ [] in
      let s : at + 2 ≡ suc (suc at) = omega arith in
      let t : at + 3 ≡ suc (suc (suc at)) = omega arith in
      rw (add-one at, s, t) (behind l at (ds ++ (10 ∷ [])) (omega arith) ∙ as_decimal ds (no_by _ _ _ _ (le-ltb n 10 e) (no_by _ _ _ _ (le-ltb n 100 f) refl)))
