-- Paper 01, "Bench images": the sum of a body, and whether bytes begin with others.
use Rattle.std.specs.Prelude.{ℕ, ◌+◌, ◌%◌, ◌^◌, Bool, true, false, List, [], ◌∷◌, ◌==◌}
use Rattle.basics.specs.Choice.{pick}
use Rattle.basics.specs.Words.{joined}

-- the 32-bit words of a body, added; an empty body adds up to 0, and up to three bytes behind the last word do not count
unfoldable pub total : List ℕ → ℕ
total [] = 0
total (a ∷ []) = 0
total (a ∷ b ∷ []) = 0
total (a ∷ b ∷ c ∷ []) = 0
total (a ∷ b ∷ c ∷ d ∷ rest) = joined a b c d + total rest

-- the sum wraps at 2^32
unfoldable pub sum_of : List ℕ → ℕ
sum_of body = total body % 2 ^ 32

-- does s begin with m?
unfoldable pub begins : List ℕ → List ℕ → Bool
begins s [] = true
begins [] (m ∷ ms) = false
begins (x ∷ s) (m ∷ ms) = pick (x == m) (begins s ms) false
