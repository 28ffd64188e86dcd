-- What a store to a field of a record's bytes does to the device that they are.
use Rattle.std.specs.Prelude.{ℕ, ◌≡◌, List, length}
use Rattle.device.specs.declared.Head.{Head}
use Rattle.device.specs.Types.{Look, Device}
use Rattle.device.specs.Whole.{look, with_head, lost}
use Rattle.device.specs.Layout.{record_length, locks_in, kinds_in, encode, decode}

-- the bytes of a device
pub record Held (l : List ℕ) : Type 0 where
  pub size : length l ≡ record_length
  pub same : l ≡ encode (decode l)

-- what stands at a key's index
abbrev pub look_in : List ℕ → ℕ → Look
look_in l i = look (kinds_in l) (locks_in l) i

-- bytes of a device become those of the device with another head
abbrev pub Becomes : List ℕ → List ℕ → (Head → Head) → Type 0
Becomes l r f = (d : Device) → l ≡ encode d → r ≡ encode (with_head (f d.head) d)

-- bytes of a device become those of the device that lost what is lost
abbrev pub Loses : List ℕ → List ℕ → Type 0
Loses l r = (d : Device) → length d.locks ≡ 101 → l ≡ encode d → r ≡ encode (lost d)
