-- A line of hex digits, in pairs, and the digits that are printed.
use Rattle.std.specs.Prelude.{ℕ, ◌+◌, ◌-◌, ◌*◌, ◌/◌, ◌%◌, Bool, true, false, List, [], ◌∷◌, Option, Some, None, ltb}
use Rattle.basics.specs.Choice.{pick}

-- the value of a digit of either case, and 16 of any other character
abbrev pub nibble_of : ℕ → ℕ
nibble_of c =
    pick (ltb c 48) 16
    (pick (ltb c 58) (c - 48)
    (pick (ltb c 65) 16
    (pick (ltb c 71) (c - 55)
    (pick (ltb c 97) 16
    (pick (ltb c 103) (c - 87) 16)))))

abbrev pub is_hex : ℕ → Bool
is_hex c = ltb (nibble_of c) 16

-- the value of a digit, if it is one
abbrev pub digit_of : ℕ → Option ℕ
digit_of c = pick (is_hex c) (Some (nibble_of c)) None

-- the byte that two of them stand for
abbrev pub pair_of : ℕ → ℕ → Option ℕ
pair_of a b = pick (is_hex a) (pick (is_hex b) (Some (16 * nibble_of a + nibble_of b)) None) None

-- the line is pairs of digits and nothing else
unfoldable pub are_pairs : List ℕ → Bool
are_pairs [] = true
are_pairs (a ∷ []) = false
are_pairs (a ∷ b ∷ s) = pick (is_hex a) (pick (is_hex b) (are_pairs s) false) false

-- the bytes that they stand for
unfoldable pub bytes_of : List ℕ → List ℕ
bytes_of [] = []
bytes_of (a ∷ []) = []
bytes_of (a ∷ b ∷ s) = (16 * nibble_of a + nibble_of b) ∷ bytes_of s

-- a digit in capitals, and a number of two bytes in four of them
abbrev pub capital : ℕ → ℕ
capital d = pick (ltb d 10) (48 + d) (55 + d)

abbrev pub hex_of : ℕ → List ℕ
hex_of n = capital (n / 4096) ∷ capital (n / 256 % 16) ∷ capital (n / 16 % 16) ∷ capital (n % 16) ∷ []

-- a number below 1,000 in decimal, with no leading zero
abbrev pub decimal_of : ℕ → List ℕ
decimal_of n =
    pick (ltb n 10) ((48 + n) ∷ [])
    (pick (ltb n 100) ((48 + n / 10) ∷ (48 + n % 10) ∷ [])
    ((48 + n / 100) ∷ (48 + n / 10 % 10) ∷ (48 + n % 10) ∷ []))
