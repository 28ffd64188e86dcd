-- A flash is a list of bytes, cut into sectors of S bytes.
use Rattle.std.specs.Prelude.{ℕ, ◌+◌, ◌-◌, ◌*◌, ◌/◌, List, ◌++◌, take, drop, replicate}

-- sector t, and the flash with x in its place
unfoldable pub sector : ℕ → List ℕ → ℕ → List ℕ
sector S F t = take S (drop (t * S) F)

unfoldable pub put_sector : ℕ → List ℕ → ℕ → List ℕ → List ℕ
put_sector S F t x = take (t * S) F ++ (x ++ drop S (drop (t * S) F))

-- an erased sector is all 0xFF
unfoldable pub erased : ℕ → List ℕ
erased S = replicate S 0xFF

-- the first n bytes of a sector; bytes past them become 0xFF
unfoldable pub fit : ℕ → ℕ → List ℕ → List ℕ
fit S n x = take n x ++ replicate (S - n) 0xFF

-- how many sectors n bytes take: n divided by S, rounded up
abbrev pub sectors_for : ℕ → ℕ → ℕ
sectors_for S n = (n + (S - 1)) / S
