-- Bytes in lists: numbers of two and four bytes, low byte first; zeros; a part put into a list.
use Rattle.std.specs.Prelude.{ℕ, ◌+◌, ◌*◌, ◌/◌, ◌%◌, Bool, true, false, List, [], ◌∷◌, ◌++◌, length, get_or, take, drop, replicate}

-- the byte at an index, 0 past the end
abbrev pub byte_at : List ℕ → ℕ → ℕ
byte_at s at = get_or s at 0

-- the number in two bytes, and in four
abbrev pub half_at : List ℕ → ℕ → ℕ
half_at s at = byte_at s at + 256 * byte_at s (at + 1)

abbrev pub joined : ℕ → ℕ → ℕ → ℕ → ℕ
joined a b c d = a + 256 * b + 65536 * c + 16777216 * d

abbrev pub word_at : List ℕ → ℕ → ℕ
word_at s at = joined (byte_at s at) (byte_at s (at + 1)) (byte_at s (at + 2)) (byte_at s (at + 3))

-- a flag's byte
abbrev pub flag : Bool → ℕ
flag true = 1
flag false = 0

-- the bytes of a number of two bytes, and of four
abbrev pub low : ℕ → ℕ
low n = n % 256

abbrev pub high : ℕ → ℕ
high n = n / 256

abbrev pub word_bytes : ℕ → List ℕ
word_bytes n = n % 256 ∷ n / 256 % 256 ∷ n / 65536 % 256 ∷ n / 16777216 % 256 ∷ []

unfoldable pub zeros : ℕ → List ℕ
zeros n = replicate n 0

-- l with s from the index at on
abbrev pub put_at : List ℕ → ℕ → List ℕ → List ℕ
put_at l at s = take at l ++ (s ++ drop (length s) (drop at l))
