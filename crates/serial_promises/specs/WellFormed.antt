-- Paper 02 §5 and source document 000 section 7.1 once more, as strings of bytes: what a well-formed command is. Nothing here follows how a
-- stream is read; proofs/Reaching.antt and proofs/Only.antt show that exactly these strings reach handle from a new reader.
use Rattle.std.specs.Prelude.{ℕ, ◌-◌, ◌≤◌, ◌≡◌, Bool, true, false, List, [], ◌∷◌, ◌++◌, length}
use Rattle.packet.specs.declared.Command.{Command}
use Rattle.packet.specs.declared.Command.TheVariants.{GetState, FwUpgrade, FwDelete, UpdateAuthKey, LockAuthKey, StoreUsrKey, LoadUsrKey, StartWs}
use Rattle.serial.specs.declared.Fate.{Fate}
use Rattle.serial.specs.declared.Fate.TheVariants.{More, Right, Whole, Wrong}
use Rattle.serial.specs.Line.{xor_of, judged}

-- the commands of special write: the line's opcode, and the fewest and the most bytes of data
pub data Written : Command → (opcode least most : ℕ) → Type 0 where
  delete : Written FwDelete 0x52 0 0
  upgrade : Written FwUpgrade 0x53 0 0
  update : Written UpdateAuthKey 0x56 65 65
  lock : Written LockAuthKey 0x57 0 0
  store : Written StoreUsrKey 0x58 2 46
  load : Written LoadUsrKey 0x59 1 1
  start : Written StartWs 0x5A 0 0

-- pair, opcode and its complement, address size and XOR; a write's data size, data and XOR
pub data WellFormed : List ℕ → Command → List ℕ → Type 0 where
  read : WellFormed (0x50 ∷ 0xAF ∷ 0x00 ∷ 0x54 ∷ 0xFF ∷ 0xAB ∷ 0x00 ∷ 0x00 ∷ 0x00 ∷ []) GetState []
  write : {command : Command} {opcode least most : ℕ} (payload : List ℕ) → Written command opcode least most
      → least ≤ length payload → length payload ≤ most
      → WellFormed
      (0x51 ∷ 0xAE ∷ 0x00 ∷ opcode ∷ 0xFF ∷ (255 - opcode) ∷ 0x00 ∷ 0x00 ∷ 0x00
      ∷ 0x00 ∷ length payload ∷ (payload ++ (xor_of (0x00 ∷ length payload ∷ payload) ∷ [])))
      command payload

-- the command goes on
abbrev pub kept : Fate → Bool
kept More = true
kept Right = true
kept (Whole command) = false
kept Wrong = false

-- after the bytes s the rest comes with no NACK, and with its last byte the command is whole
pub data Reaches : List ℕ → List ℕ → Command → Type 0 where
  last : {s : List ℕ} {b : ℕ} {c : Command} → judged (s ++ (b ∷ [])) ≡ Whole c → Reaches s (b ∷ []) c
  on : {s : List ℕ} {b : ℕ} {bs : List ℕ} {c : Command} → kept (judged (s ++ (b ∷ []))) ≡ true → Reaches (s ++ (b ∷ [])) bs c → Reaches s (b ∷ bs) c
