-- (a) AFTER A NACK IN PLACE OF THE RESPONSE too the reader is as new, and record and flash are as before; and what the line tells of the
-- device after a command is what GET_STATE would next reply. Assumes nothing.
use Prim.Native.Nat.{ℕ}
use mathlib.Core.Path.{◌≡◌, refl, ap, ◌∙◌}
use mathlib.Core.Bool.{Bool, true, false}
use mathlib.Core.List.{List, [], ◌∷◌, ◌++◌}
use native.Mathlib.Omega.{arith}
use lib.Dec.{leb, eqb}
use lib.ListN.{length}
use Rattle.basics.specs.Choice.{pick}
use Rattle.basics.specs.Words.{byte_at, zeros}
use Rattle.packet.specs.declared.Command.{Command}
use Rattle.packet.specs.declared.Command.TheVariants.{GetState}
use Rattle.packet.specs.declared.Refusal.{Refusal}
use Rattle.packet.specs.declared.Refusal.TheVariants.{UnsoundRecord}
use Rattle.packet.specs.declared.Request.{Request}
use Rattle.packet.specs.Packets.{read_of}
use Rattle.std.specs.Prelude.{Result, Ok, Err}
use Rattle.answer.specs.declared.Answer.TheVariants.{State}
use Rattle.answer.specs.declared.Checked.{Checked}
use Rattle.device.specs.declared.Head.{Head}
use Rattle.device.specs.declared.Mode.{Mode}
use Rattle.device.specs.declared.Mode.TheVariants.{Stack, Idle, Upgrade, Delete}
use Rattle.device.specs.Types.{Device, Look}
use Rattle.device.specs.Layout.{decode, encode, Bytes, head_in}
use Rattle.soundness.specs.Sound.{sound}
use Rattle.commands.specs.Commands.{stack_running, job_under_way}
use Rattle.decisions.specs.Decisions.{decided}
use Rattle.services.specs.Calls.{Numbers, Verdict, HandleResult, lent, gated, passed, by_reading, handle_refused, handled}
use Rattle.services.specs.InPlace.{handle_placed, handle_in_bytes, sound_for, handled_in_place}
use Rattle.services.proofs.Gated.{differ}
use Rattle.services.proofs.Outcomes.{unchanged}
use Rattle.serial.specs.declared.Fate.{Fate}
use Rattle.serial.specs.declared.Fate.TheVariants.{More, Right, Whole, Wrong}
use Rattle.serial.specs.declared.Peek.{Peek}
use Rattle.serial.specs.Line.{ack, nack, judged, packet_in}
use Rattle.serial.specs.Responses.{peek, response, answer_to}
use Rattle.serial.specs.Steps.{by_fate, handled_on, stepped}
use Rattle.serial_promises.proofs.Streams.{first_of}

-- a refused packet leaves device and flash
module _ (k : Numbers) (d : Device) (F p R : List ℕ) (r : Refusal) where
  abbrev Left : HandleResult → Type 0
  Left x = x.verdict ≡ Err r → (x.device ≡ d) × (x.flash ≡ F)

  read_left : (q : Result Request Refusal) → Left (by_reading q k d F p R)
  read_left (Ok request) e = differ r e
  read_left (Err u) e = (refl, refl)

  gate_left : (v : Verdict) → Left (passed v (by_reading (read_of p) k d F p R) (handle_refused d F R))
  gate_left (Ok done) e = read_left (read_of p) e
  gate_left (Err u) e = (refl, refl)

  refused_left : Left (handled k d F p R)
  unfolding handled
  refused_left e = gate_left (gated (sound k.size k.top d) (lent k F) (leb 8 (length R)) true) e

pub refused_still : (k : Numbers) (l F p R : List ℕ) (r : Refusal) → Bytes l → (handled_in_place k l F p R).verdict ≡ Err r
    → ((handled_in_place k l F p R).bytes ≡ l) × ((handled_in_place k l F p R).flash ≡ F)
unfolding handled_in_place pick
refused_still k l F p R r b e = by (sound_for k l) refl e
  where
    by : (t : Bool) → sound_for k l ≡ t
        → (pick t (handle_in_bytes (handled k (decode l) F p R)) (handle_placed (Err UnsoundRecord) l F (zeros (length R)) 0)).verdict ≡ Err r
        → ((pick t (handle_in_bytes (handled k (decode l) F p R)) (handle_placed (Err UnsoundRecord) l F (zeros (length R)) 0)).bytes ≡ l)
        × ((pick t (handle_in_bytes (handled k (decode l) F p R)) (handle_placed (Err UnsoundRecord) l F (zeros (length R)) 0)).flash ≡ F)
    by true s q = let x = refused_left k (decode l) F p R r q in (ap encode x.0 ∙ unchanged k l s b, x.1)
    by false s q = (refl, refl)

-- a response does not begin as a NACK
pick_first : (t : Bool) (x y : List ℕ) → first_of x ≡ 0 → first_of y ≡ 0 → first_of (pick t x y) ≡ 0
unfolding pick
pick_first true x y p q = p
pick_first false x y p q = q

response_first : (c : Command) (status payload : ℕ) (next : Peek) → first_of (response c status payload next) ≡ 0
unfolding response
response_first c status payload next = pick_first _ _ _ refl (pick_first _ _ _ refl (pick_first _ _ _ refl refl))

nack_refused : (v : Verdict) (c : Command) (R : List ℕ) (h : Head) → answer_to v c R h ≡ nack ∷ [] → (r : Refusal) × (v ≡ Err r)
nack_refused (Ok done) c R h e = absurd (omega (arith, response_first c (byte_at R 6) (byte_at R 7) (peek h), ap first_of e))
nack_refused (Err r) c R h e = (r, refl)

-- the two bytes of such an answer come from a whole command
fate_turned : (f : Fate) (k : Numbers) (s l F : List ℕ) → Bytes l → (by_fate f k s l F).message ≡ ack ∷ nack ∷ []
    → ((by_fate f k s l F).received ≡ []) × ((by_fate f k s l F).bytes ≡ l) × ((by_fate f k s l F).flash ≡ F)
fate_turned More k s l F b e = absurd (let z : ◌≡◌ {A = ℕ} 0 1 = cc in omega arith)
fate_turned Right k s l F b e = absurd (let z : ◌≡◌ {A = ℕ} 0 1 = cc in omega arith)
fate_turned Wrong k s l F b e = absurd (omega (arith, ap first_of e))
fate_turned (Whole c) k s l F b e =
    let h = handled_on k c s l F in
    let q : answer_to h.verdict c h.reply (head_in h.bytes) ≡ nack ∷ [] = cc in
    let v = nack_refused h.verdict c h.reply (head_in h.bytes) q in
    let x = refused_still k l F (packet_in c s) (zeros 8) v.0 b v.1 in
    (refl, x.0, x.1)

pub turned_down : (k : Numbers) (s l F : List ℕ) (b : ℕ) → Bytes l → (stepped k s l F b).message ≡ ack ∷ nack ∷ []
    → ((stepped k s l F b).received ≡ []) × ((stepped k s l F b).bytes ≡ l) × ((stepped k s l F b).flash ≡ F)
turned_down k s l F b bytes e = fate_turned (judged (s ++ (b ∷ []))) k (s ++ (b ∷ [])) l F bytes e

-- what is told of the device is what GET_STATE would reply to the next packet
pub peek_true : (h : Head) (look : Look) (checked : Checked) (i n : ℕ) → (decided h look checked GetState i n).answer ≡ State (peek h).state (peek h).error
unfolding decided stack_running job_under_way peek pick
peek_true h look checked i n = by h.mode refl h.asked refl (eqb h.error 0) refl
  where
    by : (m : Mode) → h.mode ≡ m → (a : Bool) → h.asked ≡ a → (e : Bool) → eqb h.error 0 ≡ e
        → (decided h look checked GetState i n).answer ≡ State (peek h).state (peek h).error
    by Stack p true q e s = rw (p, q)
    by Stack p false q e s = rw (p, q)
    by Idle p a q true s = rw (p, s)
    by Idle p a q false s = rw (p, s)
    by (Upgrade x y z w) p a q e s = rw p
    by (Delete w) p a q e s = rw p
