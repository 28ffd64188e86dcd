-- The library's folds over the line's bytes. Assumes nothing.
use Rattle.std.proofs.Common.{ℕ, zero, suc, ◌≡◌, refl, ap, ◌∙◌, List, [], ◌∷◌, ◌≤◌, false, eqb, arith, reverse}
use Rattle.std.specs.List.{fold}
use Rattle.std.proofs.lemmas.Grind.{fold-append}
use Rattle.std.proofs.lemmas.List.{reverse-append}
use Rattle.std.proofs.lemmas.Nat.{le_or_l}
use lib.Bits.{bit_xor, bit_or, or_zero_l}
use borrow.Author.Tests.{ne_eqb}
use Rattle.serial.specs.Line.{xor_of}
use Rattle.serial.specs.InPlace.{all_zero}

-- XOR from the end to the front
pub xor_back : (s : List ℕ) → fold (λ x b. bit_xor b x) 0 (reverse s) ≡ xor_of s
unfolding xor_of
xor_back [] = refl
xor_back (b ∷ s) =
    ap (fold (λ x b. bit_xor b x) 0) (reverse-append (b ∷ []) s)
    ∙ fold-append (λ x b. bit_xor b x) 0 (reverse s) (b ∷ [])
    ∙ ap (bit_xor b) (xor_back s)

-- OR is 0 where every byte is
or_most : (a : ℕ) (s : List ℕ) → a ≤ fold (λ any b. bit_or any b) a s
or_most a [] = omega arith
or_most a (b ∷ s) = omega (arith, le_or_l a b, or_most (bit_or a b) s)

pub or_none : (s : List ℕ) → eqb (fold (λ any b. bit_or any b) 0 s) 0 ≡ all_zero s
unfolding all_zero
or_none [] = refl
or_none (zero ∷ s) = rw (or_zero_l 0) (or_none s)
or_none (suc m ∷ s) =
    let some : eqb (fold (λ any b. bit_or any b) (suc m) s) 0 ≡ false = ne_eqb _ 0 (λ e. omega (arith, or_most (suc m) s, e)) in
    rw (or_zero_l (suc m), some, ne_eqb (suc m) 0 (λ e. omega arith))
