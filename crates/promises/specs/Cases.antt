-- Paper 01, "Cases": every line marked P, in one table. What a line says is tested on the definitions that the calls' contracts cite;
-- F stands for any flash, since none of these lines looks into it.
use Rattle.std.specs.Prelude.{ℕ, ◌-◌, Bool, true, false, not, ◌&&◌, List, [], ◌∷◌, ◌++◌, eqb, length, replicate, Result, Ok, Err}
use Rattle.basics.specs.Words.{zeros}
use Rattle.packet.specs.declared.Request.{Request}
use Rattle.packet.specs.declared.Refusal.{Refusal}
use Rattle.packet.specs.Packets.{number_of, read_of}
use Rattle.image.specs.Images.{room_for}
use Rattle.plan.specs.declared.Job.{Job}
use Rattle.plan.specs.Placement.{blocks, goal, cleared, store_count}
use Rattle.device.specs.Types.{Device}
use Rattle.device.specs.declared.Mode.TheVariants.{Stack}
use Rattle.device.specs.Whole.{with_head}
use Rattle.device.specs.Kind.{sector_size, fus_sector, fresh_head, fresh_device}
use Rattle.soundness.specs.Sound.{sound}
use Rattle.device.specs.Heads.{with_stack}
use Rattle.services.specs.Calls.{HandleResult, first, by_reading, restarted}

-- a device with an old stack in sectors 240 to 243, which runs
unfoldable pub stacked : Device
stacked = with_head (with_stack true 7 4 240 0 Stack fresh_head) fresh_device

-- a line of the paper
pub data Case : Type 0 where
  -- packets handled one after the other, each with the response that it gets
  talk : Device → List (List ℕ × List ℕ) → Case
  -- a packet that is refused by this number
  refusal : List ℕ → ℕ → Case
  -- the event of a restart
  start : Device → List ℕ → Case
  -- where a job goes: b, q, the cleared sectors, the stores
  placed : Job → ℕ → ℕ → List ℕ → ℕ → Case
  -- is there room for an image of this size at p with this boundary? No: E 04
  room : (p size boundary : ℕ) → Bool → Case

abbrev pub same : List ℕ → List ℕ → Bool
same [] [] = true
same (x ∷ xs) (y ∷ ys) = eqb x y && same xs ys
same [] (y ∷ ys) = false
same (x ∷ xs) [] = false

-- a packet to a device with a response buffer of 12 bytes
abbrev pub given : List ℕ → Device → List ℕ → HandleResult
given F d packet = by_reading (read_of packet) first d F packet (zeros 12)

unfoldable pub talked : List ℕ → Device → List (List ℕ × List ℕ) → Bool
talked F d [] = true
talked F d ((packet, reply) ∷ rest) =
    sound sector_size fus_sector d
    && same (given F d packet).reply (reply ++ zeros (12 - length reply))
    && talked F (given F d packet).device rest

abbrev pub number_is : Result Request Refusal → ℕ → Bool
number_is (Ok request) number = false
number_is (Err r) number = eqb (number_of r) number

abbrev pub agree : Bool → Bool → Bool
agree true b = b
agree false b = not b

unfoldable pub holds : List ℕ → Case → Bool
holds F (talk d packets) = talked F d packets
holds F (refusal packet number) = number_is (read_of packet) number
holds F (start d bytes) = same (restarted first d (zeros 6)).reply bytes
holds F (placed job b q sectors stores) =
    eqb (blocks sector_size job) b
    && eqb (goal sector_size fus_sector job) q
    && same (cleared sector_size fus_sector job) sectors
    && eqb (store_count sector_size fus_sector job) stores
holds F (room p size boundary fits) = agree (room_for sector_size p size boundary) fits

unfoldable pub every : List ℕ → List Case → Bool
every F [] = true
every F (c ∷ cs) = holds F c && every F cs

abbrev pub ask_state : List ℕ
ask_state = 0x10 ∷ 0x52 ∷ 0xFC ∷ 0x00 ∷ []

abbrev pub state : ℕ → ℕ → List ℕ
state s e = 0x11 ∷ 0x0E ∷ 0x05 ∷ 0xFF ∷ 0x52 ∷ 0xFC ∷ s ∷ e ∷ []

abbrev pub store_key16 : ℕ → List ℕ
store_key16 size = 0x10 ∷ 0x58 ∷ 0xFC ∷ 0x12 ∷ 0x01 ∷ size ∷ replicate 16 0xA5

unfoldable pub table : List Case
table =
    talk fresh_device ((ask_state, state 0x00 0x00) ∷ [])
    ∷ talk stacked ((ask_state, state 0xFF 0xFE) ∷ [])
    ∷ talk fresh_device
    ((0x10 ∷ 0x55 ∷ 0xFC ∷ 0x00 ∷ [], 0x11 ∷ 0x0E ∷ 0x04 ∷ 0xFF ∷ 0x55 ∷ 0xFC ∷ 0x01 ∷ [])
    ∷ (ask_state, state 0xFF 0x01)
    ∷ (ask_state, state 0x00 0x00)
    ∷ [])
    ∷ talk fresh_device ((store_key16 0x10, 0x11 ∷ 0x0E ∷ 0x05 ∷ 0xFF ∷ 0x58 ∷ 0xFC ∷ 0x00 ∷ 0x01 ∷ []) ∷ [])
    ∷ refusal (store_key16 0x11) 9
    ∷ start fresh_device (0x12 ∷ 0xFF ∷ 0x03 ∷ 0x00 ∷ 0x92 ∷ 0x01 ∷ [])
    ∷ placed (record { p = 230; size = 8196; boundary = 240 }) 3 241 (230 ∷ 231 ∷ 232 ∷ 240 ∷ []) 18
    ∷ placed (record { p = 240; size = 8196; boundary = 244 }) 3 241 (240 ∷ []) 12
    ∷ room 240 8196 244 true
    ∷ room 241 8196 244 false
    ∷ room 0 995328 244 true
    ∷ room 0 995332 244 false
    ∷ []
