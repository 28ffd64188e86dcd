-- Paper 01, "Bench images and the upgrade": where an image starts, its header, and the seven checks in their order.
-- S is the size of a sector; `s` is the flash from the image's first byte on.
use Rattle.std.specs.Prelude.{ℕ, zero, suc, ◌+◌, ◌-◌, ◌*◌, ◌%◌, ◌≤◌, Bool, not, ◌&&◌, ◌||◌, List, [], ◌∷◌, take, drop, ◌==◌, nat_le, Option, Some, None}
use Rattle.basics.specs.Choice.{pick}
use Rattle.basics.specs.Words.{byte_at, word_at}
use Rattle.answer.specs.declared.Failure.TheVariants.{NoImage, BadHeader, NoRoom, WrongSum, NotSealed, WrongTag, UnderFloor}
use Rattle.answer.specs.declared.Checked.{Checked}
use Rattle.answer.specs.declared.Checked.TheVariants.{Good, Fails, Erases}
use Rattle.sectors.specs.Sectors.{sectors_for, put_sector, erased}
use Rattle.image.specs.declared.Header.{Header}
use Rattle.image.specs.declared.Terms.{Terms}
use Rattle.image.specs.Sums.{begins, sum_of}

-- "BNI" and the 16-bit version 1
abbrev pub mark : List ℕ
mark = 0x42 ∷ 0x4E ∷ 0x49 ∷ 1 ∷ 0 ∷ []

-- the search: from boundary - 1 down to 0, the first sector that starts with the five bytes of mark and version
unfoldable pub find : ℕ → List ℕ → ℕ → Option ℕ
find S F zero = None
find S F (suc t) = pick (begins (drop (t * S) F) mark) (Some t) (find S F t)

-- kind (5), seal (6), user tag (7), size of all (8), image version (12), sum (16)
abbrev pub header_of : List ℕ → Header
header_of s = record { kind = byte_at s 5; seal = byte_at s 6; tag = byte_at s 7; size = word_at s 8; version = word_at s 12; sum = word_at s 16 }

-- the tag key (20 to 83) is the key
abbrev pub tag_key_is : List ℕ → List ℕ → Bool
tag_key_is s key = begins (drop 20 s) key

-- the sum of the body (84 to the size)
abbrev pub body_sum : List ℕ → ℕ → ℕ
body_sum s size = sum_of (take (size - 84) (drop 84 s))

-- an image's size and version, as check 2 and a sound job have them
abbrev pub size_lawful : ℕ → Bool
size_lawful size = nat_le 84 size && size % 4 == 0

abbrev pub version_lawful : ℕ → Bool
version_lawful version = not (version == 0xFFFFFFFF)

-- check 2
abbrev pub header_lawful : Header → Bool
header_lawful h =
    (h.kind == 1) && nat_le h.seal 1 && nat_le h.tag 1 && size_lawful h.size && version_lawful h.version

-- check 3: p + b + 1 is not over the boundary
abbrev pub room_for : (S p size boundary : ℕ) → Bool
room_for S p size boundary = nat_le (p + sectors_for S size + 1) boundary

-- check 6: with an authentication key stored, tag 1 and that very tag key
abbrev pub tag_lawful : Bool → ℕ → Bool → Bool
tag_lawful auth tag same = not auth || (tag == 1 && same)

-- check 7: with anti-rollback on, a version that is not under the floor
abbrev pub floor_lawful : Bool → ℕ → ℕ → Bool
floor_lawful rollback floor version = not rollback || nat_le floor version

-- checks 2 to 7 of an image at sector p, by its header, the sum of its body, and whether its tag key is the device's
unfoldable pub decided : ℕ → Terms → ℕ → Header → ℕ → Bool → Checked
decided S terms p h sum same =
    pick (header_lawful h)
    (pick (room_for S p h.size terms.boundary)
    (pick (sum == h.sum)
    (pick (h.seal == 1)
    (pick (tag_lawful terms.auth h.tag same)
    (pick (floor_lawful terms.rollback terms.floor h.version)
    (Good p h.size h.version)
    (Fails UnderFloor))
    (Fails WrongTag))
    (Fails NotSealed))
    (Erases WrongSum p))
    (Fails NoRoom))
    (Erases BadHeader p)

unfoldable pub judged : ℕ → Terms → List ℕ → List ℕ → ℕ → Checked
judged S terms key s p = decided S terms p (header_of s) (body_sum s (header_of s).size) (tag_key_is s key)

-- check 1, then those
abbrev pub after_find : ℕ → Terms → List ℕ → List ℕ → Option ℕ → Checked
after_find S terms key F None = Fails NoImage
after_find S terms key F (Some p) = judged S terms key (drop (p * S) F) p

unfoldable pub checked_of : ℕ → Terms → List ℕ → List ℕ → Checked
checked_of S terms key F = after_find S terms key F (find S F terms.boundary)

-- the flash after the checks: two of them erase sector p
abbrev pub flash_after : ℕ → Checked → List ℕ → List ℕ
flash_after S (Good p size version) F = F
flash_after S (Fails failure) F = F
flash_after S (Erases failure p) F = put_sector S F p (erased S)

-- that sector lies within a flash of n bytes
abbrev pub Erasable : ℕ → ℕ → Checked → Type 0
Erasable S n (Good p size version) = Unit {0}
Erasable S n (Fails failure) = Unit {0}
Erasable S n (Erases failure p) = (p + 1) * S ≤ n
