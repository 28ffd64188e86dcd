-- Bytes that pass the sound test.
use Prim.Native.Nat.{ℕ}
use mathlib.Core.Path.{◌≡◌}
use mathlib.Core.Bool.{true}
use mathlib.Core.List.{List}
use lib.Dec.{eqb}
use borrow.Author.Tests.{eqb-true}
use lib.ListN.{length}
use Rattle.basics.specs.Choice.{and_left}
use Rattle.device.specs.Types.{Device}
use Rattle.device.specs.Whole.{Shaped}
use Rattle.device.specs.Layout.{record_length, encode, decode, is_head, is_record, Bounded}
use Rattle.device.proofs.RoundTrip.{encode_record, decode_encode}
use Rattle.soundness.specs.Sound.{sound, sound_record}

pub record_length_lem : (S top : ℕ) (l : List ℕ) → sound_record S top l ≡ true → length l ≡ record_length
unfolding sound_record
record_length_lem S top l e =
    eqb-true (length l) record_length (and_left (eqb (length l) record_length) (is_head l) (and_left (is_record l) (sound S top (decode l)) e))

-- the bytes of a sound device are a sound record's
pub encode_sound : (d : Device) → Shaped d → Bounded d.head → (S top : ℕ) → sound S top d ≡ true → sound_record S top (encode d) ≡ true
unfolding sound_record
encode_sound d s w S top e = rw (encode_record d s w, decode_encode d s w) e
