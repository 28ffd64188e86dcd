-- Paper 01, "Sound means", as a test that computes. S is the size of a sector, `top` the first sector of FUS.
use Rattle.std.specs.Prelude.{ℕ, zero, suc, ◌+◌, ◌≡◌, Bool, true, not, ◌&&◌, ◌||◌, List, ltb, leb, eqb, get_or}
use Rattle.std.specs.Bool.{beq}
use Rattle.basics.specs.Choice.{pick}
use Rattle.image.specs.Images.{size_lawful, version_lawful, room_for}
use Rattle.answer.specs.declared.Checked.{Checked}
use Rattle.answer.specs.declared.Checked.TheVariants.{Good, Fails, Erases}
use Rattle.plan.specs.declared.Job.{Job}
use Rattle.plan.specs.Stores.{Plan, plan_of, steps, wants}
use Rattle.device.specs.declared.Head.{Head}
use Rattle.device.specs.Types.{Device}
use Rattle.device.specs.declared.Mode.{Mode}
use Rattle.device.specs.declared.Mode.TheVariants.{Stack, Idle, Upgrade, Delete}
use Rattle.device.specs.Layout.{decode, is_record}
use Rattle.keys.specs.Keys.{key_lawful}
use Rattle.device.specs.Modes.{stack_runs, is_idle}

-- the job that a mode has: where the old stack begins is the device's boundary
abbrev pub job_of : ℕ → Mode → Job
job_of boundary Stack = record { p = 0; size = 0; boundary = boundary }
job_of boundary Idle = record { p = 0; size = 0; boundary = boundary }
job_of boundary (Upgrade p size version recorded) = record { p = p; size = size; boundary = boundary }
job_of boundary (Delete recorded) = record { p = 0; size = 0; boundary = boundary }

abbrev pub plan_for : ℕ → ℕ → Head → Plan
plan_for S top h = plan_of S top (job_of h.boundary h.mode)

-- boundary 1 to 244, 244 exactly with no stack; stack version 0xFFFFFFFF exactly with none; stack sectors = 244 - boundary
abbrev pub stack_sound : ℕ → Head → Bool
stack_sound top h =
    leb 1 h.boundary
    && leb h.boundary top
    && beq h.present (not (eqb h.boundary top))
    && beq h.present (not (eqb h.version 0xFFFFFFFF))
    && eqb (h.sectors + h.boundary) top

-- authentication lock only with a key; state-request mark only while the stack runs; floor 0 with anti-rollback off; at most 100 user
-- keys, and the loaded index one of them
abbrev pub parts_sound : Head → Bool → Bool
parts_sound h runs =
    (not h.locked || h.auth)
    && (not h.asked || runs)
    && (h.rollback || eqb h.floor 0)
    && leb h.count 100
    && leb h.loaded h.count

-- pending error one of those below, and only with FUS idle
abbrev pub error_sound : ℕ → Bool → Bool
error_sound e idle =
    eqb e 0
    || (idle && (eqb e 0x01 || eqb e 0x02 || eqb e 0x03 || eqb e 0x04 || eqb e 0x0A || eqb e 0x11 || eqb e 0xFF))

-- at most b + c sectors recorded; stores made in the next one 0 to 2, when clearing 0 or 1, before the last store 0
abbrev pub progress_sound : Plan → ℕ → ℕ → Bool
progress_sound P recorded made = leb recorded (steps P) && leb made (wants P recorded)

-- stack runs only if present and with no job; a job either an upgrade with size at least 84 and a multiple of 4, version not 0xFFFFFFFF
-- and check 3 met, or a delete with a stack
abbrev pub mode_sound : ℕ → ℕ → Mode → Bool → ℕ → ℕ → Bool
mode_sound S top Stack present boundary made = present && eqb made 0
mode_sound S top Idle present boundary made = eqb made 0
mode_sound S top (Upgrade p size version recorded) present boundary made =
    size_lawful size
    && version_lawful version
    && room_for S p size boundary
    && progress_sound (plan_of S top (job_of boundary (Upgrade p size version recorded))) recorded made
mode_sound S top (Delete recorded) present boundary made =
    present && progress_sound (plan_of S top (job_of boundary (Delete recorded))) recorded made

-- what an image that was taken must be, so that its job is sound
abbrev pub CheckedLawful : ℕ → ℕ → Checked → Type 0
CheckedLawful S boundary (Good p size version) =
    (size_lawful size ≡ true) × (version_lawful version ≡ true) × (room_for S p size boundary ≡ true)
CheckedLawful S boundary (Fails failure) = Unit {0}
CheckedLawful S boundary (Erases failure p) = Unit {0}

-- all that the head says
unfoldable pub head_sound : ℕ → ℕ → Head → Bool
head_sound S top h =
    stack_sound top h
    && parts_sound h (stack_runs h.mode)
    && error_sound h.error (is_idle h.mode)
    && mode_sound S top h.mode h.present h.boundary h.made

-- what a slot of the keys may hold: nothing; the master, of a lawful size; a user key, of type 1 or 3 and a lawful size, which may be locked
abbrev pub none_in : ℕ → ℕ → ℕ → Bool
none_in kind size lock = eqb kind 0 && eqb size 0 && eqb lock 0

abbrev pub master_in : ℕ → ℕ → ℕ → Bool
master_in kind size lock = eqb kind 2 && key_lawful kind size && eqb lock 0

abbrev pub user_in : ℕ → ℕ → ℕ → Bool
user_in kind size lock = (eqb kind 1 || eqb kind 3) && key_lawful kind size && leb lock 1

-- 0 is the master's, 1 to count are user keys, and the others hold nothing
abbrev pub slot_sound : ℕ → ℕ → ℕ → ℕ → ℕ → Bool
slot_sound i count kind size lock =
    (none_in kind size lock && (eqb i 0 || ltb count i))
    || (master_in kind size lock && eqb i 0)
    || (user_in kind size lock && leb 1 i && leb i count)

-- does a test hold of each number below n?
unfoldable pub all_below : ℕ → (ℕ → Bool) → Bool
all_below zero f = true
all_below (suc n) f = all_below n f && f n

abbrev pub slot_test : ℕ → List ℕ → List ℕ → List ℕ → ℕ → Bool
slot_test count kinds sizes locks i = slot_sound i count (get_or kinds i 0) (get_or sizes i 0) (get_or locks i 0)

unfoldable pub slots_sound : ℕ → List ℕ → List ℕ → List ℕ → Bool
slots_sound count kinds sizes locks = all_below 101 (slot_test count kinds sizes locks)

-- the same in the order in which the code goes: the master's slot, then the slots from `from` on, of which those below `end` hold user keys
abbrev pub first_in : ℕ → ℕ → ℕ → Bool
first_in kind size lock = none_in kind size lock || master_in kind size lock

abbrev pub place_in : ℕ → ℕ → ℕ → ℕ → ℕ → Bool
place_in i end kind size lock = (ltb i end && user_in kind size lock) || (not (ltb i end) && none_in kind size lock)

abbrev pub place_test : ℕ → ℕ → List ℕ → List ℕ → List ℕ → ℕ → Bool
place_test from end kinds sizes locks i = ltb i from || place_in i end (get_or kinds i 0) (get_or sizes i 0) (get_or locks i 0)

abbrev pub users_end : ℕ → ℕ
users_end count = pick (ltb count 100) (count + 1) 101

-- an encrypted key is loaded only with a master key
abbrev pub loaded_sound : ℕ → ℕ → Bool
loaded_sound kind master = not (eqb kind 3) || eqb master 2

-- all that the arrays say
abbrev pub keys_sound : ℕ → ℕ → List ℕ → List ℕ → List ℕ → Bool
keys_sound count loaded kinds sizes locks =
    slots_sound count kinds sizes locks && loaded_sound (get_or kinds loaded 0) (get_or kinds 0 0)

unfoldable pub sound : ℕ → ℕ → Device → Bool
sound S top d =
    head_sound S top d.head && keys_sound d.head.count d.head.loaded d.kinds d.sizes d.locks

-- are these the bytes of a sound device?
unfoldable pub sound_record : ℕ → ℕ → List ℕ → Bool
sound_record S top l = is_record l && sound S top (decode l)
