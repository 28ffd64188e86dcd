-- Paper 01, "Packets": the response, the event, and the buffer that is zeroed beyond them.
use Rattle.std.specs.Prelude.{ℕ, ◌-◌, Bool, true, false, List, [], ◌∷◌, ◌++◌, leb, length}
use Rattle.basics.specs.Choice.{pick}
use Rattle.basics.specs.Words.{low, high, zeros}
use Rattle.packet.specs.declared.Command.{Command}
use Rattle.packet.specs.declared.Command.TheVariants.{GetState, FwUpgrade, FwDelete, UpdateAuthKey, LockAuthKey, StoreUsrKey, LoadUsrKey, StartWs, LockUsrKey, UnloadUsrKey, ActivateAntirollback}
use Rattle.packet.specs.Packets.{opcode_of}

-- GET_STATE and STORE have one payload byte
abbrev pub has_payload : Command → Bool
has_payload GetState = true
has_payload FwUpgrade = false
has_payload FwDelete = false
has_payload UpdateAuthKey = false
has_payload LockAuthKey = false
has_payload StoreUsrKey = true
has_payload LoadUsrKey = false
has_payload StartWs = false
has_payload LockUsrKey = false
has_payload UnloadUsrKey = false
has_payload ActivateAntirollback = false

-- 0x11, 0x0E, length, 0xFF, opcode low byte first, status, and the payload byte; length is 4, or 5 with payload
unfoldable pub response : Command → ℕ → ℕ → List ℕ
response command status payload =
    pick (has_payload command)
    (0x11 ∷ 0x0E ∷ 5 ∷ 0xFF ∷ low (opcode_of command) ∷ high (opcode_of command) ∷ status ∷ payload ∷ [])
    (0x11 ∷ 0x0E ∷ 4 ∷ 0xFF ∷ low (opcode_of command) ∷ high (opcode_of command) ∷ status ∷ [])

-- code 0 = stack running, 1 = FUS running
abbrev pub code_of : Bool → ℕ
code_of stack = pick stack 0 1

unfoldable pub event : Bool → List ℕ
event stack = 0x12 ∷ 0xFF ∷ 0x03 ∷ 0x00 ∷ 0x92 ∷ code_of stack ∷ []

-- a buffer of n bytes with the message and zeros beyond it; one that is shorter than `least` is zeros alone
unfoldable pub replied : ℕ → ℕ → List ℕ → List ℕ
replied least n message = pick (leb least n) (message ++ zeros (n - length message)) (zeros n)
