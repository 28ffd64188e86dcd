-- Paper 01, "Packets" and the refusals of reading: a command is 0x10, opcode low byte first, payload length (1 byte), payload.
use Rattle.std.specs.Prelude.{ℕ, ◌+◌, Bool, true, List, Option, Some, None, Result, Ok, Err, leb, ltb, eqb, length}
use Rattle.basics.specs.Choice.{pick}
use Rattle.basics.specs.Words.{byte_at, half_at}
use Rattle.packet.specs.declared.Refusal.{Refusal}
use Rattle.packet.specs.declared.Refusal.TheVariants.{UnsoundRecord, FlashLength, ReplyShort, PacketShort, NoCommand, LengthDiffers, OpcodeUnlisted, PayloadLength, InnerSize, FillerLength}
use Rattle.packet.specs.declared.Command.{Command}
use Rattle.packet.specs.declared.Command.TheVariants.{GetState, FwUpgrade, FwDelete, UpdateAuthKey, LockAuthKey, StoreUsrKey, LoadUsrKey, StartWs, LockUsrKey, UnloadUsrKey, ActivateAntirollback}
use Rattle.packet.specs.declared.Request.{Request}

-- the number of each refusal
abbrev pub number_of : Refusal → ℕ
number_of UnsoundRecord = 1
number_of FlashLength = 2
number_of ReplyShort = 3
number_of PacketShort = 4
number_of NoCommand = 5
number_of LengthDiffers = 6
number_of OpcodeUnlisted = 7
number_of PayloadLength = 8
number_of InnerSize = 9
number_of FillerLength = 10

-- the table of opcodes
abbrev pub opcode_of : Command → ℕ
opcode_of GetState = 0xFC52
opcode_of FwUpgrade = 0xFC54
opcode_of FwDelete = 0xFC55
opcode_of UpdateAuthKey = 0xFC56
opcode_of LockAuthKey = 0xFC57
opcode_of StoreUsrKey = 0xFC58
opcode_of LoadUsrKey = 0xFC59
opcode_of StartWs = 0xFC5A
opcode_of LockUsrKey = 0xFC5D
opcode_of UnloadUsrKey = 0xFC5E
opcode_of ActivateAntirollback = 0xFC5F

-- the same table read from the opcode; no other opcode is lawful
unfoldable pub command_of : ℕ → Option Command
command_of opcode =
    pick (eqb opcode 0xFC52) (Some GetState)
    (pick (eqb opcode 0xFC54) (Some FwUpgrade)
    (pick (eqb opcode 0xFC55) (Some FwDelete)
    (pick (eqb opcode 0xFC56) (Some UpdateAuthKey)
    (pick (eqb opcode 0xFC57) (Some LockAuthKey)
    (pick (eqb opcode 0xFC58) (Some StoreUsrKey)
    (pick (eqb opcode 0xFC59) (Some LoadUsrKey)
    (pick (eqb opcode 0xFC5A) (Some StartWs)
    (pick (eqb opcode 0xFC5D) (Some LockUsrKey)
    (pick (eqb opcode 0xFC5E) (Some UnloadUsrKey)
    (pick (eqb opcode 0xFC5F) (Some ActivateAntirollback) None))))))))))

-- the payload bytes that the table allows; a length is one byte, so STORE's 255 is the most there is
abbrev pub length_allowed : Command → ℕ → Bool
length_allowed GetState n = eqb n 0
length_allowed FwUpgrade n = eqb n 0
length_allowed FwDelete n = eqb n 0
length_allowed UpdateAuthKey n = eqb n 65
length_allowed LockAuthKey n = eqb n 0
length_allowed StoreUsrKey n = leb 2 n
length_allowed LoadUsrKey n = eqb n 1
length_allowed StartWs n = eqb n 0
length_allowed LockUsrKey n = eqb n 1
length_allowed UnloadUsrKey n = eqb n 1
length_allowed ActivateAntirollback n = eqb n 0

-- the size inside the payload of the packet s: 64 before an authentication key, N = n - 2 before a user key's bytes
abbrev pub inner_allowed : Command → List ℕ → ℕ → Bool
inner_allowed GetState s n = true
inner_allowed FwUpgrade s n = true
inner_allowed FwDelete s n = true
inner_allowed UpdateAuthKey s n = eqb (byte_at s 4) 64
inner_allowed LockAuthKey s n = true
inner_allowed StoreUsrKey s n = eqb (byte_at s 5 + 2) n
inner_allowed LoadUsrKey s n = true
inner_allowed StartWs s n = true
inner_allowed LockUsrKey s n = true
inner_allowed UnloadUsrKey s n = true
inner_allowed ActivateAntirollback s n = true

-- what reading a lawful packet gives, and where there is no such command refusal 7
abbrev pub lawful_of : Command → ℕ → Result Request Refusal
lawful_of command n = Ok (record { command = command; length = n })

abbrev pub known : Option Command → Result Command Refusal
known None = Err OpcodeUnlisted
known (Some command) = Ok command

-- refusals 7, 8 and 9 of the packet s with n payload bytes
abbrev pub judged : Option Command → List ℕ → ℕ → Result Request Refusal
judged None s n = Err OpcodeUnlisted
judged (Some command) s n =
    pick (length_allowed command n) (pick (inner_allowed command s n) (lawful_of command n) (Err InnerSize)) (Err PayloadLength)

-- reading a packet: refusals 4, 5 and 6, then those
unfoldable pub read_of : List ℕ → Result Request Refusal
read_of s =
    pick (ltb (length s) 4) (Err PacketShort)
    (pick (eqb (byte_at s 0) 0x10)
    (pick (eqb (byte_at s 3 + 4) (length s)) (judged (command_of (half_at s 1)) s (byte_at s 3)) (Err LengthDiffers))
    (Err NoCommand))
