-- Paper 01, "What lawful commands do": each command on the head, but for the user keys.
use Rattle.std.specs.Prelude.{Bool, true, false, eqb}
use Rattle.basics.specs.Choice.{pick}
use Rattle.packet.specs.Packets.{opcode_of}
use Rattle.packet.specs.declared.Command.{Command}
use Rattle.answer.specs.declared.Failure.TheVariants.{StackRuns, JobUnderWay, NoStack, AuthLocked, NoAuthKey}
use Rattle.answer.specs.declared.Answer.{Answer}
use Rattle.answer.specs.declared.Answer.TheVariants.{State, Accepted, Failed}
use Rattle.answer.specs.declared.Checked.{Checked}
use Rattle.answer.specs.declared.Checked.TheVariants.{Good, Fails, Erases}
use Rattle.device.specs.declared.Head.{Head}
use Rattle.device.specs.Types.{Step, Keep, Drop, Auth}
use Rattle.device.specs.declared.Mode.TheVariants.{Stack, Idle, Upgrade, Delete}
use Rattle.device.specs.Heads.{with_error, with_mode, with_asked, with_auth, with_locked, with_floor, lost_head}
use Rattle.device.specs.Steps.{step, failed, accepted}

abbrev pub is_get_state : Command → Bool
is_get_state command = eqb (opcode_of command) 0xFC52

-- STACK RUNNING. GET_STATE replies state 0xFF, error 0xFE. A second one with no other lawful command and no restart between replies the
-- same, then FUS runs and the lost things are lost. Every other command fails with no E
unfoldable pub stack_running : Head → Command → Step
stack_running h command =
    pick (is_get_state command)
    (pick h.asked (step (with_mode Idle (lost_head h)) (State 0xFF 0xFE) Drop) (step (with_asked true h) (State 0xFF 0xFE) Keep))
    (step (with_asked false h) (Failed StackRuns) Keep)

-- JOB UNDER WAY. GET_STATE replies 0x10, 0x00. Every other command fails with no E
unfoldable pub job_under_way : Head → Command → Step
job_under_way h command = pick (is_get_state command) (step h (State 0x10 0x00) Keep) (step h (Failed JobUnderWay) Keep)

-- FUS IDLE. GET_STATE replies 0xFF and the pending error, and clears it; with none, 0x00, 0x00
abbrev pub idle_state : Head → Answer
idle_state h = pick (eqb h.error 0) (State 0x00 0x00) (State 0xFF h.error)

abbrev pub get_state : Head → Step
get_state h = step (with_error 0 h) (idle_state h) Keep

-- DELETE, START: with no stack, E 01. START makes the stack run; the lost things are lost
abbrev pub delete_stack : Head → Step
delete_stack h = pick h.present (accepted (with_mode (Delete 0) h) Accepted Keep) (failed h NoStack)

abbrev pub start_stack : Head → Step
start_stack h = pick h.present (accepted (with_mode Stack (lost_head h)) Accepted Drop) (failed h NoStack)

-- UPDATE_AUTH: locked, E 0A
abbrev pub update_auth : Head → Step
update_auth h = pick h.locked (failed h AuthLocked) (accepted (with_auth h) Accepted Auth)

-- LOCK_AUTH: no key, E FF; already locked, accepted
abbrev pub lock_auth : Head → Step
lock_auth h = pick h.auth (accepted (with_locked h) Accepted Keep) (failed h NoAuthKey)

-- ANTIROLLBACK: floor becomes the stack version (0xFFFFFFFF with none); when already on, the floor stays
abbrev pub antirollback : Head → Step
antirollback h = pick h.rollback (accepted h Accepted Keep) (accepted (with_floor h.version h) Accepted Keep)

-- UPGRADE, by what the seven checks found: an accepted job records p, the size and the version
abbrev pub upgrade : Head → Checked → Step
upgrade h (Good p size version) = accepted (with_mode (Upgrade p size version 0) h) Accepted Keep
upgrade h (Fails failure) = failed h failure
upgrade h (Erases failure p) = failed h failure
