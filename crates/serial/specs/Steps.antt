-- Paper 02 §5: a byte on the line. What a whole command does is what handle does with its packet.
use Rattle.std.specs.Prelude.{ℕ, List, [], ◌∷◌, ◌++◌}
use Rattle.basics.specs.Words.{zeros}
use Rattle.packet.specs.declared.Command.{Command}
use Rattle.device.specs.Layout.{head_in}
use Rattle.services.specs.Calls.{Numbers}
use Rattle.services.specs.InPlace.{HandlePlaced, handled_in_place}
use Rattle.serial.specs.declared.Fate.{Fate}
use Rattle.serial.specs.declared.Fate.TheVariants.{More, Right, Whole, Wrong}
use Rattle.serial.specs.Line.{ack, nack, judged, packet_in}
use Rattle.serial.specs.Responses.{answer_to}

-- all that a byte leaves behind: the bytes of the command received so far (none: the reader is new), the record's bytes, the flash, what is
-- sent, and the reason beside it
pub record Step : Type 0 where
  pub received : List ℕ
  pub bytes : List ℕ
  pub flash : List ℕ
  pub message : List ℕ
  pub reason : ℕ

abbrev pub step : List ℕ → List ℕ → List ℕ → List ℕ → ℕ → Step
step s l F message reason = record { received = s; bytes = l; flash = F; message = message; reason = reason }

-- a whole command: its packet is handled, with a reply buffer of its own, and the reader is new; the reason is handle's
abbrev pub after_handle : Command → HandlePlaced → Step
after_handle command h =
    step [] h.bytes h.flash (ack ∷ answer_to h.verdict command h.reply (head_in h.bytes)) h.reason

abbrev pub handled_on : Numbers → Command → List ℕ → List ℕ → List ℕ → HandlePlaced
handled_on k command s l F = handled_in_place k l F (packet_in command s) (zeros 8)

-- by the fate of the bytes s received, the newest among them; after a NACK the reader is new
abbrev pub by_fate : Fate → Numbers → List ℕ → List ℕ → List ℕ → Step
by_fate More k s l F = step s l F [] 0
by_fate Right k s l F = step s l F (ack ∷ []) 0
by_fate Wrong k s l F = step [] l F (nack ∷ []) 0
by_fate (Whole command) k s l F = after_handle command (handled_on k command s l F)

abbrev pub heard : Numbers → List ℕ → List ℕ → List ℕ → Step
heard k s l F = by_fate (judged s) k s l F

-- A BYTE after the bytes s of the command under way
abbrev pub stepped : Numbers → List ℕ → List ℕ → List ℕ → ℕ → Step
stepped k s l F b = heard k (s ++ (b ∷ [])) l F
