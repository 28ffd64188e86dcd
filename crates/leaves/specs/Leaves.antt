-- The leaves that touch flash, for every input: what asks for a sector that is not there does nothing.
use Rattle.std.specs.Prelude.{ℕ, ◌/◌, List, Bool, not, ◌&&◌, eqb, leb, ltb, length, Option, Some, None}
use Rattle.basics.specs.Choice.{pick}
use Rattle.sectors.specs.Sectors.{sector, put_sector, erased, fit}
use Rattle.image.specs.Images.{find}

-- how many sectors of S bytes n bytes hold
unfoldable pub held : ℕ → ℕ → ℕ
held S n = pick (eqb S 0) 0 (n / S)

unfoldable pub erase_of : ℕ → List ℕ → ℕ → List ℕ
erase_of S F t = pick (ltb t (held S (length F))) (put_sector S F t (erased S)) F

abbrev pub copies : ℕ → ℕ → ℕ → ℕ → ℕ → Bool
copies S n s t count = ltb s (held S n) && ltb t (held S n) && leb count S && not (eqb s t)

unfoldable pub copy_of : ℕ → List ℕ → ℕ → ℕ → ℕ → List ℕ
copy_of S F s t count = pick (copies S (length F) s t count) (put_sector S F t (fit S count (sector S F s))) F

-- the sector that was found, or the boundary
abbrev pub sector_or : Option ℕ → ℕ → ℕ
sector_or (Some p) boundary = p
sector_or None boundary = boundary

-- mark and version have five bytes
abbrev pub searches : ℕ → ℕ → ℕ → Bool
searches S n boundary = leb 5 S && leb boundary (held S n)

unfoldable pub search_of : ℕ → List ℕ → ℕ → ℕ
search_of S F boundary = pick (searches S (length F) boundary) (sector_or (find S F boundary) boundary) boundary
