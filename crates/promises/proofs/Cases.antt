-- Every line of the table holds.
-- Assumes nothing.
use mathlib.Core.List.{List}
use Prim.Native.Nat.{ℕ}
use lib.Dec.{T}
use Rattle.basics.specs.Choice.{pick}
use Rattle.basics.specs.Words.{zeros}
use Rattle.packet.specs.Packets.{command_of, read_of}
use Rattle.reply.specs.Replies.{response, event, replied}
use Rattle.plan.specs.Placement.{those, cleared}
use Rattle.device.specs.Kind.{fresh_device}
use Rattle.keys.specs.Keys.{store_key}
use Rattle.commands.specs.Commands.{stack_running}
use Rattle.decisions.specs.Decisions.{decided}
use Rattle.soundness.specs.Sound.{head_sound, all_below, slots_sound, sound}
use Rattle.services.specs.Calls.{gated, restarted}
use Rattle.promises.specs.Cases.{every, table, holds, talked, stacked}

pub every_case : (F : List ℕ) → T (every F table)
unfolding every table holds talked stacked sound head_sound slots_sound all_below fresh_device zeros read_of command_of pick replied response event decided stack_running store_key cleared those restarted gated
every_case F = tt
