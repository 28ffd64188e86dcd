-- Paper 01, "Packets" and the refusals of reading, once more and each rule by itself: what a lawful packet is, and when a
-- refusal applies. Nothing here follows the order in which reading tests; proofs/Lawful.antt shows that reading agrees.
use Rattle.std.specs.Prelude.{ℕ, ◌-◌, ◌<◌, ◌≤◌, ◌≡◌, ◌≢◌, ◌⊎◌, List, [], ◌∷◌, length, drop}
use Rattle.basics.specs.Words.{byte_at, half_at, low, high}
use Rattle.packet.specs.declared.Refusal.{Refusal}
use Rattle.packet.specs.declared.Refusal.TheVariants.{UnsoundRecord, FlashLength, ReplyShort, PacketShort, NoCommand, LengthDiffers, OpcodeUnlisted, PayloadLength, InnerSize, FillerLength}
use Rattle.packet.specs.declared.Command.{Command}
use Rattle.packet.specs.declared.Command.TheVariants.{GetState, FwUpgrade, FwDelete, UpdateAuthKey, LockAuthKey, StoreUsrKey, LoadUsrKey, StartWs, LockUsrKey, UnloadUsrKey, ActivateAntirollback}
use Rattle.packet.specs.Packets.{number_of, opcode_of}

-- the table's last column: "0"; "1: index"; "65: size 64, then key"; "2 to 255: type, size N, N bytes"
pub data Payload : Type 0 where
  empty : Payload
  index : Payload
  auth_key : Payload
  user_key : Payload

abbrev pub payload_of : Command → Payload
payload_of GetState = empty
payload_of FwUpgrade = empty
payload_of FwDelete = empty
payload_of UpdateAuthKey = auth_key
payload_of LockAuthKey = empty
payload_of StoreUsrKey = user_key
payload_of LoadUsrKey = index
payload_of StartWs = empty
payload_of LockUsrKey = index
payload_of UnloadUsrKey = index
payload_of ActivateAntirollback = empty

abbrev pub shortest : Payload → ℕ
shortest empty = 0
shortest index = 1
shortest auth_key = 65
shortest user_key = 2

abbrev pub longest : Payload → ℕ
longest empty = 0
longest index = 1
longest auth_key = 65
longest user_key = 255

-- the bytes of a payload
abbrev pub Holds : Payload → List ℕ → Type 0
Holds empty s = s ≡ []
Holds index s = (i : ℕ) × (s ≡ i ∷ [])
Holds auth_key s = (key : List ℕ) × (s ≡ 64 ∷ key) × (length key ≡ 64)
Holds user_key s = (kind : ℕ) × (key : List ℕ) × (s ≡ kind ∷ length key ∷ key) × (length s ≤ 255)

abbrev pub Allowed : Command → List ℕ → Type 0
Allowed command payload = Holds (payload_of command) payload

-- a command: 0x10, opcode low byte first, payload length (1 byte), payload
abbrev pub packet_of : Command → List ℕ → List ℕ
packet_of command payload = 0x10 ∷ low (opcode_of command) ∷ high (opcode_of command) ∷ length payload ∷ payload

pub data LawfulPacket : List ℕ → Type 0 where
  lawful : (command : Command) (payload : List ℕ) → Allowed command payload → LawfulPacket (packet_of command payload)

-- the numbers are bytes
abbrev pub Bytes : List ℕ → Type 0
Bytes s = (at : ℕ) → byte_at s at < 256

-- the payload length is in the list
abbrev pub LengthListed : Command → ℕ → Type 0
LengthListed command n = (shortest (payload_of command) ≤ n) × (n ≤ longest (payload_of command))

-- the refusals of reading, 4 to 9, each as the table words it
abbrev pub Applies : Refusal → List ℕ → Type 0
Applies UnsoundRecord s = ⊥
Applies FlashLength s = ⊥
Applies ReplyShort s = ⊥
Applies PacketShort s = length s < 4
Applies NoCommand s = byte_at s 0 ≢ 0x10
Applies LengthDiffers s = byte_at s 3 ≢ length (drop 4 s)
Applies OpcodeUnlisted s = (command : Command) → opcode_of command ≢ half_at s 1
Applies PayloadLength s = (command : Command) × (opcode_of command ≡ half_at s 1) × (LengthListed command (byte_at s 3) → ⊥)
Applies InnerSize s =
    ((opcode_of StoreUsrKey ≡ half_at s 1) × (byte_at s 5 ≢ byte_at s 3 - 2))
    ⊎ ((opcode_of UpdateAuthKey ≡ half_at s 1) × (byte_at s 4 ≢ 64))
Applies FillerLength s = ⊥

-- no refusal with a number below n applies
abbrev pub NoneBelow : ℕ → List ℕ → Type 0
NoneBelow n s = (refusal : Refusal) → number_of refusal < n → Applies refusal s → ⊥

-- a refusal is given exactly when it applies and no lower number does
abbrev pub Given : Refusal → List ℕ → Type 0
Given refusal s = Applies refusal s × NoneBelow (number_of refusal) s
