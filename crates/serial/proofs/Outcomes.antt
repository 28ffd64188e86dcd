-- What a byte leaves, from the parts of the code. Assumes nothing.
use Prim.Native.Nat.{ℕ, ◌<◌, ◌≤◌}
use mathlib.Core.Path.{◌≡◌, refl, sym}
use mathlib.Core.Bool.{Bool, true, false}
use mathlib.Core.List.{List, [], ◌∷◌, ◌++◌}
use native.Mathlib.Omega.{arith}
use lib.ListN.{length, length-append}
use borrow.Author.Tests.{le-leb, lt-leb, ne_eqb}
use Rattle.std.specs.Prelude.{Option, None, Err}
use Rattle.basics.specs.Choice.{pick}
use Rattle.basics.specs.Words.{byte_at, zeros}
use Rattle.packet.specs.declared.Command.{Command}
use Rattle.packet.specs.declared.Refusal.TheVariants.{UnsoundRecord}
use Rattle.reply.specs.Replies.{replied}
use Rattle.answer.specs.declared.Reason.{Reason}
use Rattle.answer.specs.Answers.{told}
use Rattle.device.specs.Layout.{record_length, head_in, decode}
use Rattle.soundness.proofs.Record.{record_length_lem}
use Rattle.services.specs.Calls.{Numbers, Verdict, granted, handled}
use Rattle.services.specs.InPlace.{HandlePlaced, handle_placed, handle_in_bytes, sound_for, handled_in_place}
use Rattle.services.proofs.Gated.{differ}
use Rattle.serial.specs.declared.Sent.{Sent}
use Rattle.serial.specs.declared.Unheard.TheVariants.{OutShort, NoReader}
use Rattle.serial.specs.declared.Fate.TheVariants.{Wrong}
use Rattle.serial.specs.Line.{ack, nack, judged}
use Rattle.serial.specs.Responses.{answer_to}
use Rattle.serial.specs.Steps.{after_handle, heard}
use Rattle.serial.specs.InPlace.{reader_bytes, received_in, is_reader, taken, sending, placed, placed_by, refused_by, stepped_in_place}
use Rattle.serial.proofs.Readers.{reader, Reader, count_of, received_back}

-- a packet that is taken was handled on a record of its length
pub taken_length : (k : Numbers) (l F p R : List ℕ) → (handled_in_place k l F p R).verdict ≡ granted → length l ≡ record_length
unfolding handled_in_place pick
taken_length k l F p R e = by (sound_for k l) refl e
  where
    by : (t : Bool) → sound_for k l ≡ t
        → (pick t (handle_in_bytes (handled k (decode l) F p R)) (handle_placed (Err UnsoundRecord) l F (zeros (length R)) 0)).verdict ≡ granted → length l ≡ record_length
    by true s q = record_length_lem k.size k.top l s
    by false s q = differ UnsoundRecord (sym q)

-- a new reader is zeros
pub new_reader : reader_bytes [] ≡ zeros 78
unfolding reader_bytes zeros
new_reader = refl

-- a whole command, by what handle left: what is sent is what its verdict brings
pub whole_placed : (c : Command) (h : HandlePlaced) (v : Verdict) (l F R r o O : List ℕ) (reason : Option Reason) (x : Sent)
    → handle_placed v l F R (told reason) ≡ h → r ≡ zeros 78 → x ≡ sending (ack ∷ answer_to v c R (head_in l)) reason
    → o ≡ replied 10 (length O) (ack ∷ answer_to v c R (head_in l))
    → placed taken l F r o x.count (told x.reason) ≡ placed_by (after_handle c h) O
whole_placed c h v l F R r o O reason x e z value out = rw (value, out, z, ← new_reader, ← e)

-- a command of which something is wrong
pub wrong_placed : (k : Numbers) (s l F r o O : List ℕ) (x : Sent) → judged s ≡ Wrong → r ≡ zeros 78 → x ≡ sending (nack ∷ []) None
    → o ≡ replied 10 (length O) (nack ∷ []) → placed taken l F r o x.count (told x.reason) ≡ placed_by (heard k s l F) O
wrong_placed k s l F r o O x j z value out = rw (j, value, out, z, ← new_reader)

-- a byte on the line: refused, or the fate of what was received
module _ (k : Numbers) (l F r : List ℕ) (b : ℕ) (O : List ℕ) where
  pub short_placed : length O < 10 → refused_by OutShort l F r O ≡ stepped_in_place k l F r b O
  unfolding stepped_in_place pick
  short_placed h = rw (lt-leb 10 (length O) h)

  pub unread_placed : 10 ≤ length O → is_reader r ≡ false → refused_by NoReader l F r O ≡ stepped_in_place k l F r b O
  unfolding stepped_in_place pick
  unread_placed h e = rw (le-leb 10 (length O) h, e)

  pub other_placed : 10 ≤ length O → (length r ≡ 78 → ⊥) → refused_by NoReader l F r O ≡ stepped_in_place k l F r b O
  unfolding is_reader pick
  other_placed h n = unread_placed h (rw (ne_eqb (length r) 78 n))

  module _ (room : 10 ≤ length O) (e : is_reader r ≡ true) where
    pub fits_in : length (received_in r ++ (b ∷ [])) ≤ 77
    fits_in =
        let x : Reader r = reader r e in
        let n : length (received_in r) ≡ byte_at r 0 = count_of r x.whole (omega (arith, x.few)) in
        rw (length-append, n) (omega (arith, x.few))

    pub byte_placed : (l₁ F₁ r₁ w o : List ℕ) (x : Sent) → w ≡ reader_bytes (received_in r ++ (b ∷ []))
        → placed taken l₁ F₁ r₁ o x.count (told x.reason) ≡ placed_by (heard k (received_in w) l F) O
        → placed taken l₁ F₁ r₁ o x.count (told x.reason) ≡ stepped_in_place k l F r b O
    unfolding stepped_in_place pick
    byte_placed l₁ F₁ r₁ w o x q t = rw (le-leb 10 (length O) room, e) (rw (q, received_back _ fits_in) at t)
