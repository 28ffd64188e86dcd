-- A state request by its tag.
use mathlib.Core.Path.{◌≡◌, refl}
use denote.Enum.Bare.{sameb}
use Rattle.packet.specs.contracts.Command.{the_type}
use Rattle.packet.specs.declared.Command.{Command}
use Rattle.packet.specs.declared.Command.TheVariants.{GetState, FwUpgrade, FwDelete, UpdateAuthKey, LockAuthKey, StoreUsrKey, LoadUsrKey, StartWs, LockUsrKey, UnloadUsrKey, ActivateAntirollback}
use Rattle.commands.specs.Commands.{is_get_state}

pub is_get_state_by : (command : Command) → sameb the_type command GetState ≡ is_get_state command
is_get_state_by GetState = refl
is_get_state_by FwUpgrade = refl
is_get_state_by FwDelete = refl
is_get_state_by UpdateAuthKey = refl
is_get_state_by LockAuthKey = refl
is_get_state_by StoreUsrKey = refl
is_get_state_by LoadUsrKey = refl
is_get_state_by StartWs = refl
is_get_state_by LockUsrKey = refl
is_get_state_by UnloadUsrKey = refl
is_get_state_by ActivateAntirollback = refl
