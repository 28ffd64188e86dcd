-- THE LINE'S PROMISES that hold byte by byte: after a NACK, with no whole command, one outcome, and which events there are. Assumes nothing.
use Prim.Native.Nat.{ℕ}
use mathlib.Core.Path.{◌≡◌, refl, ap, sym, ◌∙◌}
use mathlib.Core.Bool.{Bool, true, false}
use mathlib.Core.List.{List, [], ◌∷◌, ◌++◌}
use native.Mathlib.Omega.{arith}
use lib.ListN.{length}
use Rattle.basics.specs.Choice.{pick}
use Rattle.basics.specs.Words.{zeros}
use Rattle.packet.specs.declared.Command.{Command}
use Rattle.packet.specs.declared.Refusal.TheVariants.{UnsoundRecord}
use Rattle.device.specs.Layout.{decode}
use Rattle.services.specs.Calls.{Numbers, handled}
use Rattle.std.specs.Prelude.{Err}
use Rattle.services.specs.InPlace.{HandlePlaced, handle_placed, handle_in_bytes, sound_for, handled_in_place}
use Rattle.serial.specs.declared.Fate.{Fate}
use Rattle.serial.specs.declared.Fate.TheVariants.{More, Right, Whole, Wrong}
use Rattle.serial.specs.Line.{nack, judged, packet_in}
use Rattle.serial.specs.Steps.{step, by_fate, stepped}
use Rattle.serial.specs.InPlace.{Placed, stepped_in_place}
use Rattle.serial_promises.specs.Streams.{Line, onward, next, after_all, NoneWhole, more, Effect, nothing, event}

-- the first byte of what is sent
abbrev pub first_of : List ℕ → ℕ
first_of [] = 0
first_of (b ∷ s) = b

-- (a) AFTER A NACK the reader is exactly as new, and record and flash are as before
fate_nacked : (f : Fate) (k : Numbers) (s l F : List ℕ) → (by_fate f k s l F).message ≡ nack ∷ [] → by_fate f k s l F ≡ step [] l F (nack ∷ []) 0
fate_nacked More k s l F e = absurd (let z : ◌≡◌ {A = ℕ} 0 1 = cc in omega arith)
fate_nacked Right k s l F e = absurd (omega (arith, ap first_of e))
fate_nacked Wrong k s l F e = refl
fate_nacked (Whole c) k s l F e = absurd (omega (arith, ap first_of e))

pub nacked : (k : Numbers) (s l F : List ℕ) (b : ℕ) → (stepped k s l F b).message ≡ nack ∷ [] → stepped k s l F b ≡ step [] l F (nack ∷ []) 0
nacked k s l F b e = fate_nacked (judged (s ++ (b ∷ []))) k (s ++ (b ∷ [])) l F e

-- (c) ONE OUTCOME: all that a call leaves is decided by what it is given
pub one_outcome : (k : Numbers) (l F r : List ℕ) (b : ℕ) (O : List ℕ) (x y : Placed)
    → x ≡ stepped_in_place k l F r b O → y ≡ stepped_in_place k l F r b O → x ≡ y
one_outcome k l F r b O x y p q = p ∙ sym q

-- (d) CUT OFF: a stream in which no command becomes whole changes nothing of record and flash
fate_still : (f : Fate) (k : Numbers) (s l F : List ℕ) → ((c : Command) → f ≡ Whole c → ⊥) → ((by_fate f k s l F).bytes ≡ l) × ((by_fate f k s l F).flash ≡ F)
fate_still More k s l F n = (refl, refl)
fate_still Right k s l F n = (refl, refl)
fate_still Wrong k s l F n = (refl, refl)
fate_still (Whole c) k s l F n = absurd (n c refl)

pub cut_off_lem : (k : Numbers) (bs : List ℕ) (x : Line) → NoneWhole k bs x → ((after_all k bs x).bytes ≡ x.bytes) × ((after_all k bs x).flash ≡ x.flash)
unfolding after_all
cut_off_lem k [] x n = (refl, refl)
cut_off_lem k (b ∷ bs) x (more none rest) =
    let s = x.received ++ (b ∷ []) in
    let now = fate_still (judged s) k s x.bytes x.flash none in
    let later = cut_off_lem k bs (onward (next k x b)) rest in
    (later.0 ∙ now.0, later.1 ∙ now.1)

-- (f) AN EVENT OF DEMAND 3: to record and flash a byte does nothing, or what a packet with a reply buffer of 8 bytes does
handled_event : (k : Numbers) (l F p : List ℕ) → Effect k l F (handled_in_place k l F p (zeros 8)).bytes (handled_in_place k l F p (zeros 8)).flash
unfolding handled_in_place pick
handled_event k l F p = by (sound_for k l)
  where
    out : Bool → HandlePlaced
    out t = pick t (handle_in_bytes (handled k (decode l) F p (zeros 8))) (handle_placed (Err UnsoundRecord) l F (zeros (length (zeros 8))) 0)

    by : (t : Bool) → Effect k l F (out t).bytes (out t).flash
    by true = event p refl refl
    by false = nothing refl refl

fate_event : (f : Fate) (k : Numbers) (s l F : List ℕ) → Effect k l F (by_fate f k s l F).bytes (by_fate f k s l F).flash
fate_event More k s l F = nothing refl refl
fate_event Right k s l F = nothing refl refl
fate_event Wrong k s l F = nothing refl refl
fate_event (Whole c) k s l F = handled_event k l F (packet_in c s)

pub line_event : (k : Numbers) (s l F : List ℕ) (b : ℕ) → Effect k l F (stepped k s l F b).bytes (stepped k s l F b).flash
line_event k s l F b = fate_event (judged (s ++ (b ∷ []))) k (s ++ (b ∷ [])) l F
