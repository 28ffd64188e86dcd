-- The word VERSION: decimal digits, or hex digits after 0x, that stand for a number below 2^32.
use Rattle.std.specs.Prelude.{ℕ, ◌+◌, ◌*◌, Bool, true, false, List, [], ◌∷◌, Option, Some, None, eqb, ltb, length, drop}
use Rattle.basics.specs.Choice.{pick}
use Rattle.line.specs.Hex.{nibble_of}
use Rattle.image.specs.Sums.{begins}

-- the value of a digit of the base, if it is one
abbrev pub digit_in : ℕ → ℕ → Option ℕ
digit_in base c = pick (ltb (nibble_of c) base) (Some (nibble_of c)) None

-- a number of 32 bits, if it is one
abbrev pub word_of : ℕ → Option ℕ
word_of n = pick (ltb n 4294967296) (Some n) None

-- are these digits of the base?
unfoldable pub are_digits : ℕ → List ℕ → Bool
are_digits base [] = true
are_digits base (c ∷ s) = pick (ltb (nibble_of c) base) (are_digits base s) false

-- the number that they stand for, where n was read before them
unfoldable pub value_of : ℕ → ℕ → List ℕ → ℕ
value_of base n [] = n
value_of base n (c ∷ s) = value_of base (n * base + nibble_of c) s

-- one digit or more, and a number of 32 bits
unfoldable pub digits_of : ℕ → List ℕ → Option ℕ
digits_of base s =
    pick (eqb (length s) 0)
    None
    (pick (are_digits base s)
    (pick (ltb (value_of base 0 s) 4294967296)
    (Some (value_of base 0 s))
    None)
    None)

-- hex after 0x, else decimal
unfoldable pub version_of : List ℕ → Option ℕ
version_of s = pick (begins s (0x30 ∷ 0x78 ∷ [])) (digits_of 16 (drop 2 s)) (digits_of 10 s)
