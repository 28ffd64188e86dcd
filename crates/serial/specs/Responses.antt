-- Paper 02 §5: what the line answers to a whole command, behind the ACK of its last packet.
use Rattle.std.specs.Prelude.{ℕ, Bool, List, [], ◌∷◌, Ok, Err, eqb}
use Rattle.basics.specs.Choice.{pick}
use Rattle.basics.specs.Words.{byte_at}
use Rattle.packet.specs.declared.Command.{Command}
use Rattle.packet.specs.Packets.{opcode_of}
use Rattle.device.specs.declared.Head.{Head}
use Rattle.device.specs.Modes.{stack_runs, has_job}
use Rattle.services.specs.Calls.{Verdict}
use Rattle.serial.specs.declared.Peek.{Peek}
use Rattle.serial.specs.Line.{ack, nack}

-- the state and the error that GET_STATE would next reply, with no effect of it
abbrev pub peeked : ℕ → ℕ → Peek
peeked state error = record { state = state; error = error }

unfoldable pub peek : Head → Peek
peek h =
    pick (stack_runs h.mode) (peeked 0xFF 0xFE)
    (pick (has_job h.mode) (peeked 0x10 0x00) (pick (eqb h.error 0) (peeked 0x00 0x00) (peeked 0xFF h.error)))

abbrev pub is_get_state : Command → Bool
is_get_state command = eqb (opcode_of command) 0xFC52

abbrev pub is_store : Command → Bool
is_store command = eqb (opcode_of command) 0xFC58

-- by the response's status and payload: GET_STATE's state and error, and its status packet; a failure's state and error; a stored key's
-- state and index; or that the command is accepted. A packet is its size, high byte first, and as many bytes; an ACK ends it all
unfoldable pub response : Command → (status payload : ℕ) → Peek → List ℕ
response command status payload next =
    pick (is_get_state command) (0x00 ∷ 0x03 ∷ 0x00 ∷ status ∷ payload ∷ 0x00 ∷ 0x01 ∷ 0x00 ∷ ack ∷ [])
    (pick (eqb status 0x01) (0x00 ∷ 0x03 ∷ 0x01 ∷ next.state ∷ next.error ∷ ack ∷ [])
    (pick (is_store command) (0x00 ∷ 0x03 ∷ 0x00 ∷ next.state ∷ payload ∷ ack ∷ []) (0x00 ∷ 0x01 ∷ 0x00 ∷ ack ∷ [])))

-- by handle's verdict and reply, and the device after it: a refusal is a NACK in place of the response
abbrev pub answer_to : Verdict → Command → List ℕ → Head → List ℕ
answer_to (Ok done) command reply h = response command (byte_at reply 6) (byte_at reply 7) (peek h)
answer_to (Err refusal) command reply h = nack ∷ []
