-- Paper 01, "An accepted job": what its stores do to the device, and what the last one leaves.
-- S is the size of a sector, `top` the first sector of FUS.
use Rattle.std.specs.Prelude.{ℕ, ◌+◌, ◌-◌, ◌*◌, ◌≤◌, true, false, ◌≡◌}
use Rattle.basics.specs.Choice.{pick}
use Rattle.sectors.specs.Sectors.{sectors_for}
use Rattle.plan.specs.declared.Store.{Store}
use Rattle.plan.specs.declared.Store.TheVariants.{Erase, Write, Record, Last}
use Rattle.plan.specs.Placement.{Able}
use Rattle.plan.specs.Range.{InRange}
use Rattle.plan.specs.Stores.{Progress, going, ended, steps, wants, next}
use Rattle.device.specs.declared.Head.{Head}
use Rattle.device.specs.Types.{Device}
use Rattle.device.specs.declared.Mode.{Mode}
use Rattle.device.specs.declared.Mode.TheVariants.{Stack, Idle, Upgrade, Delete}
use Rattle.device.specs.Modes.{has_job, recorded_in, with_recorded}
use Rattle.device.specs.Heads.{with_mode, with_made, with_stack}
use Rattle.device.specs.Whole.{with_head, lost}
use Rattle.soundness.specs.Sound.{job_of, plan_for}

-- the last store puts in the new stack (a delete's: none), boundary and floor (the image version, if anti-rollback is on), ends the job
-- and runs the stack (after a delete FUS runs)
abbrev pub committed : ℕ → ℕ → Mode → Head → Head
committed S top Stack h = h
committed S top Idle h = h
committed S top (Upgrade p size version recorded) h =
    with_stack true version (sectors_for S size) (top - sectors_for S size) (pick h.rollback version h.floor) Stack h
committed S top (Delete recorded) h = with_stack false 0xFFFFFFFF 0 top h.floor Idle h

-- the device after a job's end: the last store drops the lost things too
abbrev pub finished : ℕ → ℕ → Device → Device
finished S top d = lost (with_head (committed S top d.head.mode d.head) d)

-- the device at a point of its job
abbrev pub progressed : ℕ → ℕ → Device → Progress → Device
progressed S top d (going k m) = with_head (with_made m (with_mode (with_recorded k d.head.mode) d.head)) d
progressed S top d ended = finished S top d

-- the job's next store
abbrev pub next_store : ℕ → ℕ → Head → Store
next_store S top h = next (plan_for S top h) (recorded_in h.mode) h.made

-- what a sound record with a job says of it
pub record Doing (S top : ℕ) (h : Head) : Type 0 where
  pub job : has_job h.mode ≡ true
  pub able : Able S top (job_of h.boundary h.mode)
  pub range : InRange S top (job_of h.boundary h.mode)
  pub low : recorded_in h.mode ≤ steps (plan_for S top h)
  pub most : h.made ≤ wants (plan_for S top h) (recorded_in h.mode)

-- a store lies within a flash of n bytes, and a copy's source is another sector than its target
abbrev pub Within : ℕ → ℕ → Store → Type 0
Within S n (Erase t) = (t + 1) * S ≤ n
Within S n (Write t s count) = ((t + 1) * S ≤ n) × ((s + 1) * S ≤ n) × (count ≤ S) × (s ≡ t → ⊥)
Within S n Record = Unit {0}
Within S n Last = Unit {0}
