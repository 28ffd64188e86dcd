-- Paper 01, "What lawful commands do": the three situations, and which command is which.
use Rattle.std.specs.Prelude.{ℕ, Bool, ◌&&◌, eqb}
use Rattle.packet.specs.Packets.{opcode_of}
use Rattle.packet.specs.declared.Command.{Command}
use Rattle.packet.specs.declared.Command.TheVariants.{GetState, FwUpgrade, FwDelete, UpdateAuthKey, LockAuthKey, StoreUsrKey, LoadUsrKey, StartWs, LockUsrKey, UnloadUsrKey, ActivateAntirollback}
use Rattle.answer.specs.declared.Checked.{Checked}
use Rattle.device.specs.declared.Head.{Head}
use Rattle.device.specs.Types.{Step, Look}
use Rattle.device.specs.declared.Mode.{Mode}
use Rattle.device.specs.declared.Mode.TheVariants.{Stack, Idle, Upgrade, Delete}
use Rattle.device.specs.Modes.{is_idle}
use Rattle.keys.specs.Keys.{store_key, load_key, lock_key, unload_key}
use Rattle.commands.specs.Commands.{stack_running, job_under_way, get_state, delete_stack, start_stack, update_auth, lock_auth, antirollback, upgrade}

-- a command while FUS is idle: what was looked up at the payload's first byte, what the checks found, that byte, and the number N of key bytes
abbrev pub idle : Head → Look → Checked → Command → ℕ → ℕ → Step
idle h l checked GetState i n = get_state h
idle h l checked FwUpgrade i n = upgrade h checked
idle h l checked FwDelete i n = delete_stack h
idle h l checked UpdateAuthKey i n = update_auth h
idle h l checked LockAuthKey i n = lock_auth h
idle h l checked StoreUsrKey i n = store_key h l i n
idle h l checked LoadUsrKey i n = load_key h l i
idle h l checked StartWs i n = start_stack h
idle h l checked LockUsrKey i n = lock_key h i
idle h l checked UnloadUsrKey i n = unload_key h i
idle h l checked ActivateAntirollback i n = antirollback h

-- the three situations
abbrev pub situated : Mode → Step → Step → Step → Step
situated Stack running under idle = running
situated Idle running under idle = idle
situated (Upgrade p size version recorded) running under idle = under
situated (Delete recorded) running under idle = under

unfoldable pub decided : Head → Look → Checked → Command → ℕ → ℕ → Step
decided h l checked command i n =
    situated h.mode (stack_running h command) (job_under_way h command) (idle h l checked command i n)

-- an image is looked for by FW_UPGRADE while FUS is idle, and by nothing else
abbrev pub searches : Mode → Command → Bool
searches mode command = is_idle mode && eqb (opcode_of command) 0xFC54
