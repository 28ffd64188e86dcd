-- The code's LONGEST is check 3's own limit.
use Prim.Native.Nat.{ℕ, ◌+◌, ◌-◌, ◌*◌, ◌≤◌, ◌<◌}
use mathlib.Core.Path.{◌≡◌}
use mathlib.Core.Bool.{true, false}
use native.Mathlib.Omega.{arith}
use borrow.Author.Tests.{le-leb, lt-leb}
use Rattle.sectors.specs.Sectors.{sectors_for}
use Rattle.image.specs.Images.{room_for}
use Rattle.device.specs.Kind.{sector_size, fus_sector}

-- LONGEST
abbrev longest : ℕ
longest = (fus_sector - 1) * sector_size - 84

-- it is the most that has room at sector 0 of a device with no stack
pub fits : (n : ℕ) → n ≤ longest → room_for sector_size 0 (84 + n) fus_sector ≡ true
fits n h = le-leb (0 + sectors_for sector_size (84 + n) + 1) fus_sector (omega arith)

pub too_long : (n : ℕ) → longest < n → room_for sector_size 0 (84 + n) fus_sector ≡ false
too_long n h = lt-leb (0 + sectors_for sector_size (84 + n) + 1) fus_sector (omega arith)
