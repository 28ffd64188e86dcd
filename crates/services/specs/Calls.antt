-- Paper 01, "Calls refused by number" and what each call does: answer, next device, next flash and reply buffer, for all inputs.
-- S is the size of a sector, N the number of sectors of the lent flash, `top` the first sector of FUS.
use Rattle.std.specs.Prelude.{ℕ, ◌*◌, ◌≤◌, Bool, true, ◌≡◌, List, Option, Result, Ok, Err, leb, eqb, length, drop}
use Rattle.basics.specs.Choice.{pick}
use Rattle.basics.specs.Words.{byte_at, zeros}
use Rattle.packet.specs.declared.Refusal.{Refusal}
use Rattle.packet.specs.declared.Refusal.TheVariants.{UnsoundRecord, FlashLength, ReplyShort, FillerLength}
use Rattle.packet.specs.declared.Command.{Command}
use Rattle.packet.specs.declared.Request.{Request}
use Rattle.packet.specs.Packets.{opcode_of, read_of, lawful_of}
use Rattle.packet.specs.Lawful.{Bytes}
use Rattle.reply.specs.Replies.{response, event, replied}
use Rattle.answer.specs.declared.Failure.TheVariants.{NoImage}
use Rattle.answer.specs.declared.Answer.{Answer}
use Rattle.answer.specs.declared.Checked.{Checked}
use Rattle.answer.specs.declared.Checked.TheVariants.{Fails}
use Rattle.answer.specs.declared.Reason.{Reason}
use Rattle.answer.specs.Answers.{status_of, payload_of, reason_in, told}
use Rattle.image.specs.declared.Terms.{Terms}
use Rattle.image.specs.Images.{checked_of, flash_after}
use Rattle.plan.specs.Stores.{onward, cut_short, stored, spoilt, left_at}
use Rattle.device.specs.declared.Head.{Head}
use Rattle.device.specs.Types.{Step, Device}
use Rattle.decisions.specs.Decisions.{searches, decided}
use Rattle.device.specs.Whole.{look, carried, lost}
use Rattle.device.specs.Modes.{stack_runs, has_job, recorded_in}
use Rattle.soundness.specs.Sound.{plan_for, sound}
use Rattle.device.specs.Kind.{sector_size, sector_count, fus_sector}
use Rattle.device.specs.declared.Board.{Board}
use Rattle.jobs.specs.Jobs.{progressed, next_store}

-- a call is taken, or refused
abbrev pub Verdict : Type 0
Verdict = Result (Unit {0}) Refusal

abbrev pub granted : Verdict
granted = Ok tt

-- the verdict of a call that tells something where it is taken; the number of the reason that handle tells, and the stores that work does
abbrev pub verdict_of : {A : Type 0} → Result A Refusal → Verdict
verdict_of (Ok a) = granted
verdict_of (Err r) = Err r

abbrev pub reason_told : Result (Option Reason) Refusal → ℕ
reason_told (Ok reason) = told reason
reason_told (Err r) = 0

abbrev pub left_told : Result ℕ Refusal → ℕ
left_told (Ok n) = n
left_told (Err r) = 0

-- all that handle leaves behind: its answer, the next device, the next flash, the reply buffer, and beside the reply why a key was turned down
pub record HandleResult : Type 0 where
  pub verdict : Verdict
  pub device : Device
  pub flash : List ℕ
  pub reply : List ℕ
  pub reason : ℕ

-- the same of cut, whose reply is the event
pub record CutResult : Type 0 where
  pub verdict : Verdict
  pub device : Device
  pub flash : List ℕ
  pub reply : List ℕ

-- the same of restart, which has no flash
pub record RestartResult : Type 0 where
  pub verdict : Verdict
  pub device : Device
  pub reply : List ℕ

-- the same of work, which has no reply buffer and answers the stores still to do
pub record WorkResult : Type 0 where
  pub verdict : Verdict
  pub device : Device
  pub flash : List ℕ
  pub left : ℕ

abbrev pub handle_result : Verdict → Device → List ℕ → List ℕ → ℕ → HandleResult
handle_result v d F R n = record { verdict = v; device = d; flash = F; reply = R; reason = n }

abbrev pub cut_result : Verdict → Device → List ℕ → List ℕ → CutResult
cut_result v d F R = record { verdict = v; device = d; flash = F; reply = R }

abbrev pub restart_result : Verdict → Device → List ℕ → RestartResult
restart_result v d R = record { verdict = v; device = d; reply = R }

abbrev pub work_result : Verdict → Device → List ℕ → ℕ → WorkResult
work_result v d F n = record { verdict = v; device = d; flash = F; left = n }

-- the numbers of a kind of device: bytes in a sector, sectors of the lent flash, the first sector of FUS
pub record Numbers : Type 0 where
  pub size : ℕ
  pub count : ℕ
  pub top : ℕ

abbrev pub numbers_of : Board → Numbers
numbers_of board = record { size = board.size; count = board.count; top = board.top }

-- the numbers of the first kind of device, and what any kind's numbers are
abbrev pub first : Numbers
first = record { size = sector_size; count = sector_count; top = fus_sector }

pub record Sensible (k : Numbers) : Type 0 where
  pub header : 84 ≤ k.size
  pub small : k.size ≤ 65536
  pub below : k.top ≤ k.count
  pub few : k.count ≤ 65536

-- the lent flash has N sectors of S bytes
abbrev pub lent : Numbers → List ℕ → Bool
lent k F = eqb (length F) (k.count * k.size)

-- THE GATE: of refusals 1, 2, 3 and 10 the lowest whose test fails, in the paper's words: the record is sound, the flash has its length, the
-- reply fits its buffer, the filler has a sector's length. A call that does not use a number gives true for it
unfoldable pub gated : (sound lent fits filled : Bool) → Verdict
gated sound lent fits filled =
    pick sound (pick lent (pick fits (pick filled granted (Err FillerLength)) (Err ReplyShort)) (Err FlashLength)) (Err UnsoundRecord)

-- a call goes by its verdict
abbrev pub passed : {A : Type 0} → Verdict → A → (Refusal → A) → A
passed (Ok done) x back = x
passed (Err r) x back = back r

-- a packet is read where the gate is open
abbrev pub admitted : Verdict → Result Request Refusal → Result Request Refusal
admitted (Ok done) reading = reading
admitted (Err r) reading = Err r

-- HANDLE A PACKET
-- a refusal returns its number and the given device, leaves flash untouched and fills the reply buffer, whatever its length, with zeros;
-- it has no reason
abbrev pub handle_refused : Device → List ℕ → List ℕ → Refusal → HandleResult
handle_refused d F R r = handle_result (Err r) d F (zeros (length R)) 0

-- what the device asks of an image
abbrev pub terms_of : Head → Terms
terms_of h = record { boundary = h.boundary; auth = h.auth; rollback = h.rollback; floor = h.floor }

-- the checks, where an image is looked for at all
abbrev pub checked_for : Numbers → Head → Command → List ℕ → List ℕ → Checked
checked_for k h command key F =
    pick (searches h.mode command) (checked_of k.size (terms_of h) key F) (Fails NoImage)

-- the key bytes of a packet: behind the size, which is the payload's first byte for an authentication key and its second for a user key
abbrev pub key_in : Command → List ℕ → List ℕ
key_in command packet = pick (eqb (opcode_of command) 0xFC56) (drop 5 packet) (drop 6 packet)

-- what is decided on the lawful packet: by the payload's first byte, a type or an index, and the number of key bytes
abbrev pub step_for : Device → Command → List ℕ → Checked → Step
step_for d command packet checked =
    decided d.head (look d.kinds d.locks (byte_at packet 4)) checked command (byte_at packet 4) (length (key_in command packet))

abbrev pub reply_to : Command → Answer → ℕ → List ℕ
reply_to command answer n = replied 8 n (response command (status_of answer) (payload_of answer))

abbrev pub answered_by : Numbers → Device → List ℕ → List ℕ → List ℕ → Command → Checked → HandleResult
answered_by k d F packet R command checked =
    handle_result granted (carried (step_for d command packet checked) (key_in command packet) d)
    (flash_after k.size checked F)
    (reply_to command (step_for d command packet checked).answer (length R))
    (reason_in (step_for d command packet checked).answer)

abbrev pub answered : Numbers → Device → List ℕ → List ℕ → List ℕ → Command → HandleResult
answered k d F packet R command = answered_by k d F packet R command (checked_for k d.head command d.key F)

-- a lawful packet on a sound record and fitting buffers
pub record Taking (k : Numbers) (d : Device) (F packet R : List ℕ) (command : Command) : Type 0 where
  pub record_sound : sound k.size k.top d ≡ true
  pub lent_flash : length F ≡ k.count * k.size
  pub fitting : 8 ≤ length R
  pub bytes : Bytes packet
  pub payload : ℕ
  pub reading : read_of packet ≡ lawful_of command payload

abbrev pub by_reading : Result Request Refusal → Numbers → Device → List ℕ → List ℕ → List ℕ → HandleResult
by_reading (Ok request) k d F packet R = answered k d F packet R request.command
by_reading (Err r) k d F packet R = handle_refused d F R r

unfoldable pub handled : Numbers → Device → List ℕ → List ℕ → List ℕ → HandleResult
handled k d F packet R =
    passed (gated (sound k.size k.top d) (lent k F) (leb 8 (length R)) true) (by_reading (read_of packet) k d F packet R) (handle_refused d F R)

-- RESTART: the lost things are lost, and the event tells which program runs; a job pending at start means FUS runs
abbrev pub event_for : Device → ℕ → List ℕ
event_for d n = replied 6 n (event (stack_runs d.head.mode))

abbrev pub restart_refused : Device → List ℕ → Refusal → RestartResult
restart_refused d R r = restart_result (Err r) d (zeros (length R))

unfoldable pub restarted : Numbers → Device → List ℕ → RestartResult
restarted k d R =
    passed (gated (sound k.size k.top d) true (leb 6 (length R)) true) (restart_result granted (lost d) (event_for d (length R))) (restart_refused d R)

-- WORK: one store, and the stores still to do after it. With no job it answers 0 and does nothing
abbrev pub worked_on : Numbers → Device → List ℕ → WorkResult
worked_on k d F =
    work_result granted
    (progressed k.size k.top d (onward (next_store k.size k.top d.head) (recorded_in d.head.mode) d.head.made))
    (stored k.size (next_store k.size k.top d.head) F)
    (left_at (plan_for k.size k.top d.head) (onward (next_store k.size k.top d.head) (recorded_in d.head.mode) d.head.made))

abbrev pub working : Numbers → Device → List ℕ → WorkResult
working k d F = pick (has_job d.head.mode) (worked_on k d F) (work_result granted d F 0)

abbrev pub work_refused : Device → List ℕ → Refusal → WorkResult
work_refused d F r = work_result (Err r) d F 0

unfoldable pub worked : Numbers → Device → List ℕ → WorkResult
worked k d F = passed (gated (sound k.size k.top d) (lent k F) true true) (working k d F) (work_refused d F)

-- CUT breaks off the next store: a sector store leaves the filler x in that sector; a record store goes through or not, as the caller
-- says. A restart follows. With no job, it is a restart only
abbrev pub restarting : Device → List ℕ → List ℕ → CutResult
restarting d F R = cut_result granted (lost d) F (event_for d (length R))

abbrev pub cut_in : Numbers → Device → List ℕ → List ℕ → Bool → List ℕ → CutResult
cut_in k d F x through R =
    restarting
    (progressed k.size k.top d (cut_short (next_store k.size k.top d.head) through (recorded_in d.head.mode)))
    (spoilt k.size (next_store k.size k.top d.head) x F) R

abbrev pub cutting : Numbers → Device → List ℕ → List ℕ → Bool → List ℕ → CutResult
cutting k d F x through R = pick (has_job d.head.mode) (cut_in k d F x through R) (restarting d F R)

abbrev pub cut_refused : Device → List ℕ → List ℕ → Refusal → CutResult
cut_refused d F R r = cut_result (Err r) d F (zeros (length R))

unfoldable pub cut_off : Numbers → Device → List ℕ → List ℕ → Bool → List ℕ → CutResult
cut_off k d F x through R =
    passed (gated (sound k.size k.top d) (lent k F) (leb 6 (length R)) (eqb (length x) k.size)) (cutting k d F x through R) (cut_refused d F R)
