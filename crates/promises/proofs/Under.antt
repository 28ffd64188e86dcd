-- A device under way is the accepted one but for its lost things and its progress: what each call makes of such a device.
-- Assumes nothing.
use Prim.Native.Nat.{ℕ, ◌≤◌}
use mathlib.Core.Bool.{Bool, true, false, ◌&&◌}
use mathlib.Core.Path.{◌≡◌, refl}
use native.Mathlib.Omega.{arith}
use borrow.Author.Tests.{le-leb}
use Rattle.basics.specs.Choice.{both_true, and_left, and_right}
use Rattle.plan.specs.Stores.{going, plan_of, steps, wants}
use Rattle.device.specs.declared.Head.{Head}
use Rattle.device.specs.Types.{Device}
use Rattle.device.specs.declared.Mode.{Mode}
use Rattle.device.specs.declared.Mode.TheVariants.{Stack, Idle, Upgrade, Delete}
use Rattle.device.specs.Heads.{with_made, with_mode, lost_head}
use Rattle.device.specs.Whole.{lost}
use Rattle.device.specs.Modes.{is_idle, stack_runs, has_job, recorded_in, with_recorded}
use Rattle.image.specs.Images.{size_lawful, version_lawful, room_for}
use Rattle.soundness.specs.Sound.{job_of, plan_for, stack_sound, parts_sound, error_sound, progress_sound, mode_sound, head_sound, keys_sound, sound}
use Rattle.jobs.specs.Jobs.{committed, progressed, finished}

-- tests that hold together, the last exchanged for another that holds
last_changed : (a b x : Bool) → a && b ≡ true → x ≡ true → a && x ≡ true
last_changed a b x e h = both_true a x (and_left a b e) h

pub never : false ≡ true → ⊥
never e = let z : ◌≡◌ {A = ℕ} 0 1 = cc in omega arith

-- the mode's job, whatever is recorded of it
again : (k n : ℕ) (mode : Mode) → with_recorded k (with_recorded n mode) ≡ with_recorded k mode
again k n Stack = refl
again k n Idle = refl
again k n (Upgrade p size version recorded) = refl
again k n (Delete recorded) = refl

pub job_stays : (k : ℕ) (mode : Mode) → has_job (with_recorded k mode) ≡ has_job mode
job_stays k Stack = refl
job_stays k Idle = refl
job_stays k (Upgrade p size version recorded) = refl
job_stays k (Delete recorded) = refl

pub job_same : (boundary k : ℕ) (mode : Mode) → job_of boundary (with_recorded k mode) ≡ job_of boundary mode
job_same boundary k Stack = refl
job_same boundary k Idle = refl
job_same boundary k (Upgrade p size version recorded) = refl
job_same boundary k (Delete recorded) = refl

pub recorded_is : (k : ℕ) (mode : Mode) → has_job mode ≡ true → recorded_in (with_recorded k mode) ≡ k
recorded_is k Stack h = absurd (never h)
recorded_is k Idle h = absurd (never h)
recorded_is k (Upgrade p size version recorded) h = refl
recorded_is k (Delete recorded) h = refl

-- FUS runs while there is a job
pub fus_runs : (mode : Mode) → has_job mode ≡ true → stack_runs mode ≡ false
fus_runs Stack h = absurd (never h)
fus_runs Idle h = refl
fus_runs (Upgrade p size version recorded) h = refl
fus_runs (Delete recorded) h = refl

module _ (S top : ℕ) (e : Device) where
  pub progressed_again : (k m k' m' : ℕ) → progressed S top (progressed S top e (going k m)) (going k' m') ≡ progressed S top e (going k' m')
  progressed_again k m k' m' = rw (again k' k e.head.mode)

  -- the job's end is that of the accepted device
  ends : (k m : ℕ) (mode : Mode) (h : Head) → has_job mode ≡ true
      → lost_head (committed S top (with_recorded k mode) (with_made m (with_mode (with_recorded k mode) h))) ≡ lost_head (committed S top mode h)
  ends k m Stack h j = absurd (never j)
  ends k m Idle h j = absurd (never j)
  ends k m (Upgrade p size version recorded) h j = refl
  ends k m (Delete recorded) h j = refl

  pub finished_progressed : (k m : ℕ) → has_job e.head.mode ≡ true → finished S top (progressed S top e (going k m)) ≡ finished S top e
  finished_progressed k m j = rw (ends k m e.head.mode e.head j)

  lost_ends : (mode : Mode) (h : Head) → lost_head (committed S top mode (lost_head h)) ≡ lost_head (committed S top mode h)
  lost_ends Stack h = refl
  lost_ends Idle h = refl
  lost_ends (Upgrade p size version recorded) h = refl
  lost_ends (Delete recorded) h = refl

  pub finished_lost : finished S top (lost e) ≡ finished S top e
  finished_lost = rw (lost_ends e.head.mode e.head)

  -- a device under way is sound at every point of its job
  runs_same : (k : ℕ) (mode : Mode) → stack_runs (with_recorded k mode) ≡ stack_runs mode
  runs_same k Stack = refl
  runs_same k Idle = refl
  runs_same k (Upgrade p size version recorded) = refl
  runs_same k (Delete recorded) = refl

  idle_same : (k : ℕ) (mode : Mode) → is_idle (with_recorded k mode) ≡ is_idle mode
  idle_same k Stack = refl
  idle_same k Idle = refl
  idle_same k (Upgrade p size version recorded) = refl
  idle_same k (Delete recorded) = refl

  mode_progressed : (mode : Mode) (present : Bool) (boundary made k m : ℕ) → has_job mode ≡ true → mode_sound S top mode present boundary made ≡ true
      → progress_sound (plan_of S top (job_of boundary mode)) k m ≡ true → mode_sound S top (with_recorded k mode) present boundary m ≡ true
  mode_progressed Stack present boundary made k m j h p = absurd (never j)
  mode_progressed Idle present boundary made k m j h p = absurd (never j)
  mode_progressed (Upgrade p size version recorded) present boundary made k m j h q =
      last_changed (size_lawful size && version_lawful version && room_for S p size boundary) (progress_sound (plan_of S top (job_of boundary (Upgrade p size version recorded))) recorded made) _ h q
  mode_progressed (Delete recorded) present boundary made k m j h q =
      last_changed present (progress_sound (plan_of S top (job_of boundary (Delete recorded))) recorded made) _ h q

  -- all that the head says but for the mode
  abbrev rest : Head → Bool → Bool → Bool
  rest h runs idle = stack_sound top h && parts_sound h runs && error_sound h.error idle

  pub sound_progressed : (k m : ℕ) → sound S top e ≡ true → has_job e.head.mode ≡ true → k ≤ steps (plan_for S top e.head) → m ≤ wants (plan_for S top e.head) k
      → sound S top (progressed S top e (going k m)) ≡ true
  unfolding sound head_sound
  sound_progressed k m s j low most =
      let mode : Mode = e.head.mode in
      let keys : Bool = keys_sound e.head.count e.head.loaded e.kinds e.sizes e.locks in
      let p : progress_sound (plan_for S top e.head) k m ≡ true = both_true _ _ (le-leb _ _ low) (le-leb _ _ most) in
      let h : head_sound S top e.head ≡ true = and_left (head_sound S top e.head) keys s in
      let o : mode_sound S top (with_recorded k mode) e.head.present e.head.boundary m ≡ true =
      mode_progressed mode e.head.present e.head.boundary e.head.made k m j (and_right (rest e.head (stack_runs mode) (is_idle mode)) (mode_sound S top mode e.head.present e.head.boundary e.head.made) h) p in
      let r : rest e.head (stack_runs (with_recorded k mode)) (is_idle (with_recorded k mode)) ≡ true =
      rw (runs_same k mode, idle_same k mode) (and_left (rest e.head (stack_runs mode) (is_idle mode)) (mode_sound S top mode e.head.present e.head.boundary e.head.made) h) in
      both_true _ _ (both_true _ _ r o) (and_right (head_sound S top e.head) keys s)
