-- Paper 01, "Next message takes both reply buffers".
use Rattle.std.specs.Prelude.{ℕ, Bool, ◌&&◌, List, [], leb, eqb, length, take}
use Rattle.basics.specs.Choice.{pick}
use Rattle.basics.specs.Words.{byte_at}

-- the buffer has n bytes or more and starts with the three given
abbrev pub holds : List ℕ → ℕ → ℕ → ℕ → ℕ → Bool
holds s n a b c = leb n (length s) && eqb (byte_at s 0) a && eqb (byte_at s 1) b && eqb (byte_at s 2) c

-- the event's first 6; else the response of 7 or 8; else nothing
unfoldable pub next_message : List ℕ → List ℕ → List ℕ
next_message event response =
    pick (holds event 6 0x12 0xFF 0x03) (take 6 event)
    (pick (holds response 7 0x11 0x0E 4) (take 7 response)
    (pick (holds response 8 0x11 0x0E 5) (take 8 response) []))

-- the buffer that the part lies in, by where it begins
unfoldable pub next_from : List ℕ → ℕ × ℕ → ℕ × ℕ → ℕ × ℕ
next_from event atEvent atResponse = pick (holds event 6 0x12 0xFF 0x03) atEvent atResponse
