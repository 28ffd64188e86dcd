-- What a sound record with a job says of it.
-- Assumes nothing.
use Prim.Native.Nat.{ℕ, ◌+◌, ◌-◌, ◌≤◌, ◌<◌}
use mathlib.Core.Bool.{Bool, true, false, ◌&&◌}
use mathlib.Core.Path.{◌≡◌}
use native.Mathlib.Nat.{mul-le-mul_right, div-eq_of_lt}
use native.Mathlib.Omega.{arith}
use borrow.Author.Tests.{leb-true}
use lib.Dec.{leb}
use Rattle.basics.specs.Choice.{and_left, and_right}
use Rattle.sectors.specs.Sectors.{sectors_for}
use Rattle.image.specs.Images.{size_lawful, version_lawful, room_for}
use Rattle.plan.specs.declared.Job.{Job}
use Rattle.plan.specs.Placement.{Able}
use Rattle.plan.specs.Range.{InRange}
use Rattle.plan.specs.Stores.{plan_of, steps, wants}
use Rattle.plan.proofs.Done.{blocks_hold}
use Rattle.device.specs.declared.Head.{Head}
use Rattle.device.specs.Types.{Device}
use Rattle.device.specs.declared.Mode.{Mode}
use Rattle.device.specs.declared.Mode.TheVariants.{Stack, Idle, Upgrade, Delete}
use Rattle.soundness.specs.Sound.{job_of, plan_for, progress_sound, mode_sound, sound}
use Rattle.soundness.proofs.Parts.{parts}
use Rattle.services.specs.Calls.{Numbers}
use Rattle.services.specs.Calls.{Sensible}
use Rattle.device.specs.Modes.{has_job, recorded_in}
use Rattle.jobs.specs.Jobs.{Doing}
use Rattle.services.proofs.Laws.{boundary_some, boundary_low}

never : false ≡ true → ⊥
never e = let z : ◌≡◌ {A = ℕ} 0 1 = cc in omega arith

-- what a sound mode with a job says
module _ (S top boundary : ℕ) (some : 0 < S) (first : 1 ≤ boundary) (under : boundary ≤ top) (present : Bool) (made : ℕ) where
  none_of : sectors_for S 0 ≡ 0
  none_of = let l : 0 + (S - 1) < S = omega arith in div-eq_of_lt l

  abbrev upgrade : (p size version : ℕ) → Bool
  upgrade p size version = size_lawful size && version_lawful version && room_for S p size boundary

  abbrev progress : Mode → Bool
  progress mode = progress_sound (plan_of S top (job_of boundary mode)) (recorded_in mode) made

  job_able : (mode : Mode) → has_job mode ≡ true → mode_sound S top mode present boundary made ≡ true → Able S top (job_of boundary mode)
  job_able Stack j m = absurd (never j)
  job_able Idle j m = absurd (never j)
  job_able (Upgrade p size version recorded) j m =
      record { some = some; room = leb-true _ _ (and_right (size_lawful size && version_lawful version) _ (and_left (upgrade p size version) (progress (Upgrade p size version recorded)) m)); under = under }
  job_able (Delete recorded) j m = record { some = some; room = rw none_of first; under = under }

  job_progress : (mode : Mode) → has_job mode ≡ true → mode_sound S top mode present boundary made ≡ true → progress mode ≡ true
  job_progress Stack j m = let z : false ≡ true = j in cc
  job_progress Idle j m = let z : false ≡ true = j in cc
  job_progress (Upgrade p size version recorded) j m = and_right (upgrade p size version) (progress (Upgrade p size version recorded)) m
  job_progress (Delete recorded) j m = and_right present (progress (Delete recorded)) m

-- a job that can be carried out has a size of four bytes
job_range : (S top : ℕ) (job : Job) → S ≤ 65536 → top ≤ 65536 → Able S top job → InRange S top job
job_range S top job small few a =
    let b : ℕ = sectors_for S job.size in
    let l : b ≤ 65535 = omega (arith, a.room, a.under) in
    record { some = a.some; bytes = small; count = few; image = omega (arith, blocks_hold S job.size a.some, mul-le-mul_right S l) }

pub doing : (k : Numbers) (d : Device) → Sensible k → sound k.size k.top d ≡ true → has_job d.head.mode ≡ true → Doing k.size k.top d.head
doing k d s e j =
    let h : Head = d.head in
    let m : mode_sound k.size k.top h.mode h.present h.boundary h.made ≡ true = (parts k.size k.top d e).numbers.job in
    let some : 0 < k.size = omega (arith, s.header) in
    let first : 1 ≤ h.boundary = boundary_some k.size k.top d e in
    let under : h.boundary ≤ k.top = boundary_low k.size k.top d e in
    let a : Able k.size k.top (job_of h.boundary h.mode) = job_able k.size k.top h.boundary some first under h.present h.made h.mode j m in
    let p : progress_sound (plan_for k.size k.top h) (recorded_in h.mode) h.made ≡ true = job_progress k.size k.top h.boundary some first under h.present h.made h.mode j m in
    record {
      job = j;
      able = a;
      range = job_range k.size k.top (job_of h.boundary h.mode) s.small (omega (arith, s.below, s.few)) a;
      low = leb-true _ _ (and_left (leb (recorded_in h.mode) (steps (plan_for k.size k.top h))) (leb h.made (wants (plan_for k.size k.top h) (recorded_in h.mode))) p);
      most = leb-true _ _ (and_right (leb (recorded_in h.mode) (steps (plan_for k.size k.top h))) (leb h.made (wants (plan_for k.size k.top h) (recorded_in h.mode))) p);
    }
