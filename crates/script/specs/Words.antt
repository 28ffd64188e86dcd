-- The words of a line: one from another, decimal numbers, pairs of hex digits.
use Rattle.std.specs.Prelude.{ℕ, ◌+◌, ◌-◌, ◌*◌, Bool, true, false, List, [], ◌∷◌, Option, Some, None, eqb, leb, ltb, length, take, drop}
use Rattle.std.specs.List.{position_or_len}
use Rattle.basics.specs.Choice.{pick}
use Rattle.basics.specs.Words.{byte_at}
use Rattle.line.specs.Hex.{pair_of, are_pairs, bytes_of}

-- how many bytes stand before the first b: its index, or the length where there is none
abbrev pub index_of : ℕ → List ℕ → ℕ
index_of b s = position_or_len (λ c. eqb c b) s

-- the first word: all before the first blank
abbrev pub first_of : List ℕ → List ℕ
first_of s = take (index_of 32 s) s

-- where what follows the first blank begins; the end, where there is no blank
abbrev pub rest_at : List ℕ → ℕ
rest_at s = pick (ltb (index_of 32 s) (length s)) (index_of 32 s + 1) (index_of 32 s)

abbrev pub rest_of : List ℕ → List ℕ
rest_of s = drop (rest_at s) s

-- the place of a byte by its offset in a text that begins at a place
abbrev pub place_in : ℕ × ℕ → ℕ → ℕ × ℕ
place_in begin offset = (begin.0, offset + begin.1)

unfoldable pub are_digits : List ℕ → Bool
are_digits [] = true
are_digits (c ∷ s) = pick (ltb c 48) false (pick (ltb 57 c) false (are_digits s))

-- the number that digits stand for, behind digits that stand for v
unfoldable pub value_from : ℕ → List ℕ → ℕ
value_from v [] = v
value_from v (c ∷ s) = value_from (10 * v + (c - 48)) s

-- one decimal digit or more, and the number is below the limit
unfoldable pub decimal_in : ℕ → List ℕ → Option ℕ
decimal_in limit s =
    pick (eqb (length s) 0) None
    (pick (are_digits s) (pick (leb limit (value_from 0 s)) None (Some (value_from 0 s))) None)

-- two hex digits and nothing else
unfoldable pub pair_in : List ℕ → Option ℕ
pair_in s = pick (eqb (length s) 2) (pair_of (byte_at s 0) (byte_at s 1)) None

-- the bytes of up to 260 hex pairs; none of anything else
unfoldable pub packet_bytes : List ℕ → List ℕ
packet_bytes s = pick (leb (length s) 520) (pick (are_pairs s) (bytes_of s) []) []
