-- Paper 01, "The device that is played": its numbers, and a fresh device.
use Rattle.std.specs.Prelude.{ℕ, ◌*◌, false}
use lib.Dec.{lit≤}
use Rattle.basics.specs.Words.{zeros}
use Rattle.device.specs.declared.Board.{Board}
use Rattle.device.specs.declared.Head.{Head}
use Rattle.device.specs.Types.{Device}
use Rattle.device.specs.declared.Mode.TheVariants.{Idle}

-- bytes in a sector, sectors of the lent flash, and the first sector of FUS: Device::SECTOR_SIZE, SECTOR_COUNT and FUS_SECTOR
abbrev pub sector_size : ℕ
sector_size = 4096

abbrev pub sector_count : ℕ
sector_count = 244

abbrev pub fus_sector : ℕ
fus_sector = 244

-- the numbers of the first kind of device
abbrev pub first : Board
first =
    record { size = sector_size; count = sector_count; top = fus_sector; header = lit≤ tt; small = lit≤ tt; below = lit≤ tt; few = lit≤ tt }

-- the lent flash: 999,424 bytes
abbrev pub flash_length : ℕ
flash_length = sector_count * sector_size

-- no stack (so the boundary is where FUS begins and the version 0xFFFFFFFF), no keys, no job, anti-rollback off, FUS running
abbrev pub fresh_head : Head
fresh_head =
    record { present = false; version = 0xFFFFFFFF; sectors = 0; boundary = fus_sector; mode = Idle; count = 0; auth = false; locked = false; rollback = false; floor = 0; loaded = 0; asked = false; error = 0; made = 0 }

unfoldable pub fresh_device : Device
fresh_device =
    record { head = fresh_head; locks = zeros 101; key = zeros 64; kinds = zeros 101; sizes = zeros 101; bytes = zeros 4444 }
