-- Paper 02 §5 and source document 000 section 7.1: a command on the serial line, by its bytes. Sizes and opcodes stand high byte first.
use Rattle.std.specs.Prelude.{Option, Some, None, ℕ, ◌+◌, ◌-◌, ◌*◌, Bool, true, false, not, ◌&&◌, ◌||◌, List, [], ◌∷◌, leb, ltb, eqb, length, take, drop}
use Rattle.std.specs.Int.Bits.{bit_xor}
use Rattle.basics.specs.Choice.{pick}
use Rattle.basics.specs.Words.{byte_at}
use Rattle.packet.specs.declared.Command.{Command}
use Rattle.packet.specs.declared.Command.TheVariants.{GetState, FwUpgrade, FwDelete, UpdateAuthKey, LockAuthKey, StoreUsrKey, LoadUsrKey, StartWs, LockUsrKey, UnloadUsrKey, ActivateAntirollback}
use Rattle.packet.specs.Lawful.{packet_of}
use Rattle.serial.specs.declared.Fate.{Fate}
use Rattle.serial.specs.declared.Fate.TheVariants.{More, Right, Whole, Wrong}

abbrev pub ack : ℕ
ack = 0x79

abbrev pub nack : ℕ
nack = 0x1F

-- a number of two bytes, high byte first
abbrev pub number_at : List ℕ → ℕ → ℕ
number_at s at = 256 * byte_at s at + byte_at s (at + 1)

-- THE PAIR: special read 50 AF, special write 51 AE
abbrev pub pair_right : List ℕ → Bool
pair_right s = (eqb (byte_at s 0) 0x50 && eqb (byte_at s 1) 0xAF) || (eqb (byte_at s 0) 0x51 && eqb (byte_at s 1) 0xAE)

abbrev pub is_write : List ℕ → Bool
is_write s = eqb (byte_at s 0) 0x51

-- THE OPCODE: the line's opcodes of each pair, which are not the packets' low bytes
unfoldable pub line_command : Bool → ℕ → Option Command
line_command write opcode =
    pick (not write) (pick (eqb opcode 0x54) (Some GetState) None)
    (pick (eqb opcode 0x52) (Some FwDelete)
    (pick (eqb opcode 0x53) (Some FwUpgrade)
    (pick (eqb opcode 0x56) (Some UpdateAuthKey)
    (pick (eqb opcode 0x57) (Some LockAuthKey)
    (pick (eqb opcode 0x58) (Some StoreUsrKey)
    (pick (eqb opcode 0x59) (Some LoadUsrKey)
    (pick (eqb opcode 0x5A) (Some StartWs) None)))))))

abbrev pub command_in : List ℕ → Option Command
command_in s = line_command (is_write s) (number_at s 2)

abbrev pub is_listed : Option Command → Bool
is_listed (Some command) = true
is_listed None = false

-- its check is the complement of each byte, in the same order
abbrev pub opcode_right : List ℕ → Bool
opcode_right s =
    eqb (byte_at s 4) (255 - byte_at s 2) && eqb (byte_at s 5) (255 - byte_at s 3) && is_listed (command_in s)

-- THE ADDRESS: its size is 0, and its check the XOR of the size's two bytes
abbrev pub address_right : List ℕ → Bool
address_right s = eqb (number_at s 6) 0

abbrev pub address_checked : List ℕ → Bool
address_checked s = eqb (byte_at s 8) (bit_xor (byte_at s 6) (byte_at s 7))

-- THE DATA of a write: their size, which the command must allow, they themselves, and the XOR of the size's two bytes and all of them
abbrev pub size_in : List ℕ → ℕ
size_in s = number_at s 9

abbrev pub size_allowed : Option Command → ℕ → Bool
size_allowed (Some GetState) n = false
size_allowed (Some FwUpgrade) n = eqb n 0
size_allowed (Some FwDelete) n = eqb n 0
size_allowed (Some UpdateAuthKey) n = eqb n 65
size_allowed (Some LockAuthKey) n = eqb n 0
size_allowed (Some StoreUsrKey) n = leb 2 n && leb n 46
size_allowed (Some LoadUsrKey) n = eqb n 1
size_allowed (Some StartWs) n = eqb n 0
size_allowed (Some LockUsrKey) n = false
size_allowed (Some UnloadUsrKey) n = false
size_allowed (Some ActivateAntirollback) n = false
size_allowed None n = false

abbrev pub size_right : List ℕ → Bool
size_right s = size_allowed (command_in s) (size_in s)

abbrev pub data_in : List ℕ → List ℕ
data_in s = take (size_in s) (drop 11 s)

unfoldable pub xor_of : List ℕ → ℕ
xor_of [] = 0
xor_of (b ∷ s) = bit_xor b (xor_of s)

abbrev pub data_checked : List ℕ → Bool
data_checked s = eqb (byte_at s (11 + size_in s)) (xor_of (take (2 + size_in s) (drop 9 s)))

-- THE BYTES RECEIVED, the newest among them: a phase is tested after its last byte, and no byte but that brings an answer. Right means ACK,
-- Wrong means NACK; a size that is right brings nothing
abbrev pub whole_if : Option Command → Fate
whole_if (Some command) = Whole command
whole_if None = Wrong

unfoldable pub opening_fate : List ℕ → Fate
opening_fate s =
    pick (ltb (length s) 2) More
    (pick (eqb (length s) 2) (pick (pair_right s) Right Wrong)
    (pick (ltb (length s) 6) More (pick (opcode_right s) Right Wrong)))

unfoldable pub address_fate : List ℕ → Fate
address_fate s =
    pick (ltb (length s) 8) More
    (pick (eqb (length s) 8) (pick (address_right s) More Wrong)
    (pick (address_checked s) (pick (is_write s) Right (whole_if (command_in s))) Wrong))

unfoldable pub data_fate : List ℕ → Fate
data_fate s =
    pick (ltb (length s) 11) More
    (pick (eqb (length s) 11) (pick (size_right s) More Wrong)
    (pick (ltb (length s) (12 + size_in s)) More (pick (data_checked s) (whole_if (command_in s)) Wrong)))

-- pair and opcode are 6 bytes, the address 3 more
unfoldable pub judged : List ℕ → Fate
judged s = pick (ltb (length s) 7) (opening_fate s) (pick (ltb (length s) 10) (address_fate s) (data_fate s))

-- a command under way: every phase that is complete passed its test, and the command is not whole
abbrev pub passed_by : ℕ → List ℕ → Bool → Bool
passed_by n s right = ltb (length s) n || right

unfoldable pub is_open : List ℕ → Bool
is_open s =
    passed_by 2 s (pair_right s)
    && passed_by 6 s (opcode_right s)
    && passed_by 8 s (address_right s)
    && passed_by 9 s (address_checked s && is_write s)
    && passed_by 11 s (size_right s)
    && ltb (length s) (12 + size_in s)

-- the packet of a whole command: 0x10, the packets' opcode, the size, the data in the order received
abbrev pub packet_in : Command → List ℕ → List ℕ
packet_in command s = packet_of command (data_in s)
