-- Paper 01, "The calls are also offered to the updater's C test host": each call on a record's bytes. Where they are a sound record's, what
-- the call by value makes of the device that they are, encoded; else refusal 1, and they do not change.
use Rattle.std.specs.Prelude.{ℕ, Bool, List, Err, eqb, length}
use Rattle.basics.specs.Choice.{pick}
use Rattle.basics.specs.Words.{zeros}
use Rattle.packet.specs.declared.Refusal.TheVariants.{UnsoundRecord}
use Rattle.device.specs.Kind.{fresh_device}
use Rattle.services.specs.Calls.{Numbers, Verdict, granted, HandleResult, RestartResult, WorkResult, CutResult, handled, restarted, worked, cut_off}
use Rattle.device.specs.Layout.{record_length, encode, decode}
use Rattle.soundness.specs.Sound.{sound_record}

-- all that handle leaves behind: its answer, the record's bytes, the flash, the reply buffer, and why a key was turned down
pub record HandlePlaced : Type 0 where
  pub verdict : Verdict
  pub bytes : List ℕ
  pub flash : List ℕ
  pub reply : List ℕ
  pub reason : ℕ

-- the same of cut, whose reply is the event
pub record CutPlaced : Type 0 where
  pub verdict : Verdict
  pub bytes : List ℕ
  pub flash : List ℕ
  pub reply : List ℕ

-- the same of restart, which has no flash
pub record RestartPlaced : Type 0 where
  pub verdict : Verdict
  pub bytes : List ℕ
  pub reply : List ℕ

-- the same of work, which has no reply buffer and answers the stores still to do
pub record WorkPlaced : Type 0 where
  pub verdict : Verdict
  pub bytes : List ℕ
  pub flash : List ℕ
  pub left : ℕ

-- the same of fresh, which has the bytes only
pub record FreshPlaced : Type 0 where
  pub verdict : Verdict
  pub bytes : List ℕ

abbrev pub handle_placed : Verdict → List ℕ → List ℕ → List ℕ → ℕ → HandlePlaced
handle_placed v l F R n = record { verdict = v; bytes = l; flash = F; reply = R; reason = n }

abbrev pub cut_placed : Verdict → List ℕ → List ℕ → List ℕ → CutPlaced
cut_placed v l F R = record { verdict = v; bytes = l; flash = F; reply = R }

abbrev pub restart_placed : Verdict → List ℕ → List ℕ → RestartPlaced
restart_placed v l R = record { verdict = v; bytes = l; reply = R }

abbrev pub work_placed : Verdict → List ℕ → List ℕ → ℕ → WorkPlaced
work_placed v l F n = record { verdict = v; bytes = l; flash = F; left = n }

abbrev pub fresh_placed : Verdict → List ℕ → FreshPlaced
fresh_placed v l = record { verdict = v; bytes = l }

-- a call's result, the device as bytes
abbrev pub handle_in_bytes : HandleResult → HandlePlaced
handle_in_bytes r = handle_placed r.verdict (encode r.device) r.flash r.reply r.reason

abbrev pub cut_in_bytes : CutResult → CutPlaced
cut_in_bytes r = cut_placed r.verdict (encode r.device) r.flash r.reply

abbrev pub restart_in_bytes : RestartResult → RestartPlaced
restart_in_bytes r = restart_placed r.verdict (encode r.device) r.reply

abbrev pub work_in_bytes : WorkResult → WorkPlaced
work_in_bytes r = work_placed r.verdict (encode r.device) r.flash r.left

-- a sound record's bytes, for a device of the kind k
abbrev pub sound_for : Numbers → List ℕ → Bool
sound_for k l = sound_record k.size k.top l

-- FRESH: another length is refusal 1
unfoldable pub fresh_in_place : List ℕ → FreshPlaced
fresh_in_place l =
    pick (eqb (length l) record_length) (fresh_placed granted (encode fresh_device)) (fresh_placed (Err UnsoundRecord) l)

-- HANDLE A PACKET
unfoldable pub handled_in_place : Numbers → List ℕ → List ℕ → List ℕ → List ℕ → HandlePlaced
handled_in_place k l F packet R =
    pick (sound_for k l) (handle_in_bytes (handled k (decode l) F packet R)) (handle_placed (Err UnsoundRecord) l F (zeros (length R)) 0)

-- RESTART
unfoldable pub restarted_in_place : Numbers → List ℕ → List ℕ → RestartPlaced
restarted_in_place k l R =
    pick (sound_for k l) (restart_in_bytes (restarted k (decode l) R)) (restart_placed (Err UnsoundRecord) l (zeros (length R)))

-- WORK
unfoldable pub worked_in_place : Numbers → List ℕ → List ℕ → WorkPlaced
worked_in_place k l F =
    pick (sound_for k l) (work_in_bytes (worked k (decode l) F)) (work_placed (Err UnsoundRecord) l F 0)

-- CUT
unfoldable pub cut_in_place : Numbers → List ℕ → List ℕ → List ℕ → Bool → List ℕ → CutPlaced
cut_in_place k l F x through R =
    pick (sound_for k l) (cut_in_bytes (cut_off k (decode l) F x through R)) (cut_placed (Err UnsoundRecord) l F (zeros (length R)))
