-- What a mode says: which program runs, and its job.
use Rattle.std.specs.Prelude.{ℕ, Bool, true, false}
use Rattle.device.specs.declared.Mode.{Mode}
use Rattle.device.specs.declared.Mode.TheVariants.{Stack, Idle, Upgrade, Delete}

abbrev pub stack_runs : Mode → Bool
stack_runs Stack = true
stack_runs Idle = false
stack_runs (Upgrade p size version recorded) = false
stack_runs (Delete recorded) = false

abbrev pub is_idle : Mode → Bool
is_idle Stack = false
is_idle Idle = true
is_idle (Upgrade p size version recorded) = false
is_idle (Delete recorded) = false

-- a job is under way
abbrev pub has_job : Mode → Bool
has_job Stack = false
has_job Idle = false
has_job (Upgrade p size version recorded) = true
has_job (Delete recorded) = true

-- the sectors recorded, and the mode with another number of them
abbrev pub recorded_in : Mode → ℕ
recorded_in Stack = 0
recorded_in Idle = 0
recorded_in (Upgrade p size version recorded) = recorded
recorded_in (Delete recorded) = recorded

abbrev pub with_recorded : ℕ → Mode → Mode
with_recorded k Stack = Stack
with_recorded k Idle = Idle
with_recorded k (Upgrade p size version recorded) = Upgrade p size version k
with_recorded k (Delete recorded) = Delete k
