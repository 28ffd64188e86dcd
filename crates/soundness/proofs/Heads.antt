-- What is said of the head's numbers stays true as a command changes one of them.
use Prim.Native.Nat.{ℕ, ◌+◌, ◌≤◌, ◌<◌}
use mathlib.Core.Path.{◌≡◌, refl}
use mathlib.Core.Bool.{Bool, true, false, not, ◌&&◌, or-true}
use native.Mathlib.Omega.{arith}
use borrow.Author.Tests.{le-leb, eqb-true}
use lib.Dec.{leb, eqb}
use Rattle.basics.specs.Choice.{and_left, and_right}
use Rattle.image.specs.Images.{size_lawful, version_lawful, room_for}
use Rattle.plan.specs.Stores.{Plan, plan_of, steps, wants}
use Rattle.device.specs.declared.Head.{Head}
use Rattle.device.specs.declared.Mode.{Mode}
use Rattle.device.specs.declared.Mode.TheVariants.{Stack, Idle, Upgrade, Delete}
use Rattle.device.specs.Heads.{with_error, with_loaded, with_count, with_mode, with_asked, with_auth, with_locked, with_floor, lost_head}
use Rattle.device.specs.Modes.{stack_runs}
use Rattle.soundness.specs.Sound.{job_of, progress_sound, mode_sound}
use Rattle.soundness.proofs.Parts.{Numbers}

-- with no store made, any job is as far as it may be
none_made : (P : Plan) (recorded made : ℕ) → progress_sound P recorded made ≡ true → progress_sound P recorded 0 ≡ true
none_made P recorded made e =
    rw (and_left (leb recorded (steps P)) (leb made (wants P recorded)) e, le-leb 0 (wants P recorded) (omega arith))

pub begun : (P : Plan) (made : ℕ) → eqb made 0 ≡ true → progress_sound P 0 made ≡ true
begun P made e =
    rw (eqb-true made 0 e, le-leb 0 (steps P) (omega arith), le-leb 0 (wants P 0) (omega arith))

job_lost : (S top : ℕ) (m : Mode) (present : Bool) (boundary made : ℕ) → mode_sound S top m present boundary made ≡ true → mode_sound S top m present boundary 0 ≡ true
job_lost S top Stack present boundary made e = rw (and_left present (eqb made 0) e)
job_lost S top Idle present boundary made e = refl
job_lost S top (Upgrade p size version recorded) present boundary made e =
    let lawful = size_lawful size && version_lawful version && room_for S p size boundary in
    let P = plan_of S top (job_of boundary (Upgrade p size version recorded)) in
    let a : lawful ≡ true = and_left lawful (progress_sound P recorded made) e in
    let b : progress_sound P recorded 0 ≡ true = none_made P recorded made (and_right lawful (progress_sound P recorded made) e) in
    rw (a, b)
job_lost S top (Delete recorded) present boundary made e =
    let P = plan_of S top (job_of boundary (Delete recorded)) in
    let a : present ≡ true = and_left present (progress_sound P recorded made) e in
    let b : progress_sound P recorded 0 ≡ true = none_made P recorded made (and_right present (progress_sound P recorded made) e) in
    rw (a, b)

module _ (S top : ℕ) (h : Head) (n : Numbers S top h) where
  -- the pending error is another
  pub numbers_error : (e : ℕ) → Numbers S top (with_error e h)
  numbers_error e = record { stack = n.stack; auth = n.auth; mark = n.mark; floor = n.floor; count = n.count; loaded = n.loaded; job = n.job }

  -- the lost things are lost
  pub numbers_lost : Numbers S top (lost_head h)
  numbers_lost = record { stack = n.stack; auth = n.auth; mark = refl; floor = n.floor; count = n.count; loaded = omega arith; job = job_lost S top h.mode h.present h.boundary h.made n.job }

  pub numbers_loaded : (i : ℕ) → i ≤ h.count → Numbers S top (with_loaded i h)
  numbers_loaded i e = record { stack = n.stack; auth = n.auth; mark = n.mark; floor = n.floor; count = n.count; loaded = e; job = n.job }

  pub numbers_count : h.count < 100 → Numbers S top (with_count (h.count + 1) h)
  numbers_count e = let l : h.loaded ≤ h.count = n.loaded in record { stack = n.stack; auth = n.auth; mark = n.mark; floor = n.floor; count = omega arith; loaded = omega arith; job = n.job }

  pub numbers_auth : Numbers S top (with_auth h)
  numbers_auth = record { stack = n.stack; auth = or-true (not h.locked); mark = n.mark; floor = n.floor; count = n.count; loaded = n.loaded; job = n.job }

  pub numbers_locked : h.auth ≡ true → Numbers S top (with_locked h)
  numbers_locked e = record { stack = n.stack; auth = e; mark = n.mark; floor = n.floor; count = n.count; loaded = n.loaded; job = n.job }

  pub numbers_floor : (v : ℕ) → Numbers S top (with_floor v h)
  numbers_floor v = record { stack = n.stack; auth = n.auth; mark = n.mark; floor = refl; count = n.count; loaded = n.loaded; job = n.job }

  pub numbers_asked : (a : Bool) → stack_runs h.mode ≡ true → Numbers S top (with_asked a h)
  numbers_asked a e = record { stack = n.stack; auth = n.auth; mark = rw e (or-true (not a)); floor = n.floor; count = n.count; loaded = n.loaded; job = n.job }

  -- another program runs, or a job begins
  pub numbers_mode : (m : Mode) → h.asked ≡ false → mode_sound S top m h.present h.boundary h.made ≡ true → Numbers S top (with_mode m h)
  numbers_mode m a e = record { stack = n.stack; auth = n.auth; mark = rw a; floor = n.floor; count = n.count; loaded = n.loaded; job = e }
