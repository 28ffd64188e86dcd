-- What the calls make of a record's bytes: by the gate, and then by what they do. Assumes nothing.
use Prim.Native.Nat.{ℕ, ◌≤◌}
use mathlib.Core.Path.{◌≡◌, ap, sym}
use mathlib.Core.Bool.{Bool, true, false}
use mathlib.Core.List.{List}
use native.Mathlib.Omega.{arith}
use lib.Dec.{leb, eqb}
use lib.ListN.{length}
use mathlib.Core.Logic.{◌≢◌}
use borrow.Author.Tests.{ne_eqb}
use Rattle.basics.specs.Choice.{pick, and_left, and_right}
use Rattle.basics.specs.Words.{zeros}
use Rattle.basics.proofs.Words.{length_zeros}
use Rattle.packet.specs.declared.Refusal.{Refusal}
use Rattle.packet.specs.declared.Refusal.TheVariants.{UnsoundRecord}
use Rattle.packet.specs.Packets.{read_of}
use Rattle.answer.specs.declared.Answer.{Answer}
use Rattle.plan.specs.Stores.{Progress, going, ended, plan_of, left_at}
use Rattle.plan.proofs.Counting.{left_most}
use Rattle.device.specs.declared.Head.{Head}
use Rattle.device.specs.Types.{Device, Step}
use Rattle.device.specs.Modes.{has_job}
use Rattle.device.specs.Whole.{carried, lost}
use Rattle.device.specs.Layout.{record_length, encode, decode, Bytes, is_head, is_record}
use Rattle.device.specs.Fields.{Held}
use Rattle.device.specs.Done.{Done, done, stepped}
use Rattle.device.proofs.RoundTrip.{encode_decode}
use Rattle.soundness.specs.Sound.{plan_for, sound, sound_record}
use Rattle.soundness.proofs.Record.{record_length_lem}
use Rattle.jobs.specs.Jobs.{progressed, Doing}
use Rattle.jobs.specs.OnJob.{OnJob}
use Rattle.services.specs.Calls.{Numbers}
use Rattle.services.specs.Calls.{granted}
use Rattle.std.specs.Prelude.{Err}
use Rattle.services.specs.Calls.{Sensible, lent, gated, by_reading, handle_refused, restart_result, restart_refused, event_for, working, work_refused, cutting, cut_refused, handled, restarted, worked, cut_off}
use Rattle.services.specs.InPlace.{handle_placed, restart_placed, work_placed, cut_placed, handle_in_bytes, restart_in_bytes, work_in_bytes, cut_in_bytes, sound_for, handled_in_place, restarted_in_place, worked_in_place, cut_in_place}
use Rattle.services.proofs.Doings.{doing}
use Rattle.services.proofs.Gated.{opened, shut}

-- a step on the bytes: its answer, and the bytes after it
module _ (x : Step) (key l r : List ℕ) (a : Answer) (e : done a r ≡ stepped x key l) where
  pub answer_of_lem : a ≡ x.answer
  unfolding stepped
  answer_of_lem = ap (λ (y : Done). y.answer) e

  pub bytes_of : r ≡ encode (carried x key (decode l))
  unfolding stepped
  bytes_of = ap (λ (y : Done). y.bytes) e

-- the stores still to do fit four bytes
pub few_at : (S top : ℕ) (h : Head) → Doing S top h → (at : Progress) → left_at (plan_for S top h) at ≤ 4294967295
unfolding left_at plan_of
few_at S top h d (going k m) =
    omega (arith, left_most (plan_for S top h) k m, d.able.room, d.able.under, d.range.count)
few_at S top h d ended = omega arith

-- a device at a point of its job has its locks
pub progressed_locks : (S top : ℕ) (d : Device) (at : Progress) → length d.locks ≡ 101 → length (progressed S top d at).locks ≡ 101
progressed_locks S top d (going k m) e = e
progressed_locks S top d ended e = length_zeros 101

module _ (k : Numbers) (l : List ℕ) (s : sound_for k l ≡ true) where
  -- a sound record's bytes are a sound device's
  pub sound_in : sound k.size k.top (decode l) ≡ true
  unfolding sound_record
  sound_in = and_right (is_record l) (sound k.size k.top (decode l)) s

  module _ (b : Bytes l) where
    pub unchanged : encode (decode l) ≡ l
    unfolding sound_record
    unchanged = encode_decode l b (and_left (is_record l) (sound k.size k.top (decode l)) s)

    -- so its bytes are those of a device
    pub held_in : Held l
    held_in = record { size = record_length_lem k.size k.top l s; same = sym unchanged }

    -- a refused call gives them back
    pub refused_in : (r : Refusal) (F R : List ℕ) → handle_placed (Err r) l F (zeros (length R)) 0 ≡ handle_in_bytes (handle_refused (decode l) F R r)
    refused_in r F R = rw unchanged

    -- and where it has a job, those of a device with a job
    pub on_job : Sensible k → has_job (decode l).head.mode ≡ true → OnJob k.size k.top l
    unfolding sound_record decode
    on_job c j =
        record { held = held_in; head = and_right (eqb (length l) record_length) (is_head l) (and_left (is_record l) (sound k.size k.top (decode l)) s); doing = doing k (decode l) c sound_in j }

module _ (k : Numbers) (l : List ℕ) where
  abbrev wholly : Bool
  wholly = sound k.size k.top (decode l)

  module _ (F packet R : List ℕ) where
    pub handled_open : gated (sound_for k l) (lent k F) (leb 8 (length R)) true ≡ granted
        → handled_in_place k l F packet R ≡ handle_in_bytes (by_reading (read_of packet) k (decode l) F packet R)
    unfolding handled_in_place handled
    handled_open =
        opened handle_in_bytes (by_reading (read_of packet) k (decode l) F packet R) (handle_refused (decode l) F R) (λ r. handle_placed (Err r) l F (zeros (length R)) 0)
        (sound_for k l) wholly (lent k F) (leb 8 (length R)) true (sound_in k l)

    pub handled_shut : Bytes l → (r : Refusal) → gated (sound_for k l) (lent k F) (leb 8 (length R)) true ≡ Err r
        → handle_placed (Err r) l F (zeros (length R)) 0 ≡ handled_in_place k l F packet R
    unfolding handled_in_place handled
    handled_shut b r =
        shut handle_in_bytes (by_reading (read_of packet) k (decode l) F packet R) (handle_refused (decode l) F R) (λ q. handle_placed (Err q) l F (zeros (length R)) 0)
        (sound_for k l) wholly (lent k F) (leb 8 (length R)) true (sound_in k l) r (λ s q. rw (unchanged k l s b))

  module _ (R : List ℕ) where
    pub restarted_open : gated (sound_for k l) true (leb 6 (length R)) true ≡ granted
        → restarted_in_place k l R ≡ restart_placed granted (encode (lost (decode l))) (event_for (decode l) (length R))
    unfolding restarted_in_place restarted
    restarted_open =
        opened restart_in_bytes (restart_result granted (lost (decode l)) (event_for (decode l) (length R))) (restart_refused (decode l) R) (λ r. restart_placed (Err r) l (zeros (length R)))
        (sound_for k l) wholly true (leb 6 (length R)) true (sound_in k l)

    pub restarted_shut : Bytes l → (r : Refusal) → gated (sound_for k l) true (leb 6 (length R)) true ≡ Err r
        → restart_placed (Err r) l (zeros (length R)) ≡ restarted_in_place k l R
    unfolding restarted_in_place restarted
    restarted_shut b r =
        shut restart_in_bytes (restart_result granted (lost (decode l)) (event_for (decode l) (length R))) (restart_refused (decode l) R) (λ q. restart_placed (Err q) l (zeros (length R)))
        (sound_for k l) wholly true (leb 6 (length R)) true (sound_in k l) r (λ s q. rw (unchanged k l s b))

  module _ (F : List ℕ) where
    pub worked_open : gated (sound_for k l) (lent k F) true true ≡ granted → worked_in_place k l F ≡ work_in_bytes (working k (decode l) F)
    unfolding worked_in_place worked
    worked_open =
        opened work_in_bytes (working k (decode l) F) (work_refused (decode l) F) (λ r. work_placed (Err r) l F 0)
        (sound_for k l) wholly (lent k F) true true (sound_in k l)

    pub worked_shut : Bytes l → (r : Refusal) → gated (sound_for k l) (lent k F) true true ≡ Err r → work_placed (Err r) l F 0 ≡ worked_in_place k l F
    unfolding worked_in_place worked
    worked_shut b r =
        shut work_in_bytes (working k (decode l) F) (work_refused (decode l) F) (λ q. work_placed (Err q) l F 0)
        (sound_for k l) wholly (lent k F) true true (sound_in k l) r (λ s q. rw (unchanged k l s b))

  module _ (F x R : List ℕ) (through : Bool) where
    pub cut_open : gated (sound_for k l) (lent k F) (leb 6 (length R)) (eqb (length x) k.size) ≡ granted
        → cut_in_place k l F x through R ≡ cut_in_bytes (cutting k (decode l) F x through R)
    unfolding cut_in_place cut_off
    cut_open =
        opened cut_in_bytes (cutting k (decode l) F x through R) (cut_refused (decode l) F R) (λ r. cut_placed (Err r) l F (zeros (length R)))
        (sound_for k l) wholly (lent k F) (leb 6 (length R)) (eqb (length x) k.size) (sound_in k l)

    pub cut_shut : Bytes l → (r : Refusal) → gated (sound_for k l) (lent k F) (leb 6 (length R)) (eqb (length x) k.size) ≡ Err r
        → cut_placed (Err r) l F (zeros (length R)) ≡ cut_in_place k l F x through R
    unfolding cut_in_place cut_off
    cut_shut b r =
        shut cut_in_bytes (cutting k (decode l) F x through R) (cut_refused (decode l) F R) (λ q. cut_placed (Err q) l F (zeros (length R)))
        (sound_for k l) wholly (lent k F) (leb 6 (length R)) (eqb (length x) k.size) (sound_in k l) r (λ s q. rw (unchanged k l s b))

-- a record of another length is no sound one
module _ (k : Numbers) (l : List ℕ) (n : length l ≢ record_length) where
  unsound : sound_for k l ≡ false
  unfolding sound_record
  unsound = rw (ne_eqb (length l) record_length n)

  pub short_handled : (F packet R : List ℕ) → handle_placed (Err UnsoundRecord) l F (zeros (length R)) 0 ≡ handled_in_place k l F packet R
  unfolding handled_in_place pick
  short_handled F packet R = rw unsound

  pub short_restarted : (R : List ℕ) → restart_placed (Err UnsoundRecord) l (zeros (length R)) ≡ restarted_in_place k l R
  unfolding restarted_in_place pick
  short_restarted R = rw unsound

  pub short_worked : (F : List ℕ) → work_placed (Err UnsoundRecord) l F 0 ≡ worked_in_place k l F
  unfolding worked_in_place pick
  short_worked F = rw unsound

  pub short_cut : (F x R : List ℕ) (through : Bool) → cut_placed (Err UnsoundRecord) l F (zeros (length R)) ≡ cut_in_place k l F x through R
  unfolding cut_in_place pick
  short_cut F x R through = rw unsound
