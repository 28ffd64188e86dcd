-- DEMAND 1. Paper 01, "Calls refused by number": each number by itself, as its row of the table words it, for each call that uses it.
use Rattle.std.specs.Prelude.{ℕ, ◌*◌, ◌<◌, false, ◌≡◌, ◌≢◌, List, length}
use Rattle.packet.specs.declared.Refusal.{Refusal}
use Rattle.packet.specs.declared.Refusal.TheVariants.{UnsoundRecord, FlashLength, ReplyShort, PacketShort, NoCommand, LengthDiffers, OpcodeUnlisted, PayloadLength, InnerSize, FillerLength}
use Rattle.packet.specs.Packets.{number_of}
use Rattle.packet.specs.Lawful.{Applies}
use Rattle.device.specs.Types.{Device}
use Rattle.soundness.specs.Sound.{sound}
use Rattle.services.specs.Calls.{Numbers}

-- the rows: the device record is unsound; the flash buffer has not its length; the reply buffer is under `least` bytes; the cut's filler
-- has not a sector's length
abbrev pub Unsound : Numbers → Device → Type 0
Unsound k d = sound k.size k.top d ≡ false

abbrev pub NotLent : Numbers → List ℕ → Type 0
NotLent k F = length F ≢ k.count * k.size

abbrev pub Short : ℕ → List ℕ → Type 0
Short least R = length R < least

abbrev pub NoFiller : Numbers → List ℕ → Type 0
NoFiller k x = length x ≢ k.size

-- handle uses 1 to 9; of 4 to 9 the packet crate says when they apply
abbrev pub OfHandle : Numbers → Device → List ℕ → List ℕ → List ℕ → Refusal → Type 0
OfHandle k d F bytes R UnsoundRecord = Unsound k d
OfHandle k d F bytes R FlashLength = NotLent k F
OfHandle k d F bytes R ReplyShort = Short 8 R
OfHandle k d F bytes R PacketShort = Applies PacketShort bytes
OfHandle k d F bytes R NoCommand = Applies NoCommand bytes
OfHandle k d F bytes R LengthDiffers = Applies LengthDiffers bytes
OfHandle k d F bytes R OpcodeUnlisted = Applies OpcodeUnlisted bytes
OfHandle k d F bytes R PayloadLength = Applies PayloadLength bytes
OfHandle k d F bytes R InnerSize = Applies InnerSize bytes
OfHandle k d F bytes R FillerLength = ⊥

-- restart uses 1 and 3, work 1 and 2, cut 1, 2, 3 and 10: the rows that a call does not use are ⊥
abbrev pub Rows : Type 0 → Type 0 → Type 0 → Type 0 → Refusal → Type 0
Rows unsound flash reply filler UnsoundRecord = unsound
Rows unsound flash reply filler FlashLength = flash
Rows unsound flash reply filler ReplyShort = reply
Rows unsound flash reply filler PacketShort = ⊥
Rows unsound flash reply filler NoCommand = ⊥
Rows unsound flash reply filler LengthDiffers = ⊥
Rows unsound flash reply filler OpcodeUnlisted = ⊥
Rows unsound flash reply filler PayloadLength = ⊥
Rows unsound flash reply filler InnerSize = ⊥
Rows unsound flash reply filler FillerLength = filler

abbrev pub OfRestart : Numbers → Device → List ℕ → Refusal → Type 0
OfRestart k d R = Rows (Unsound k d) ⊥ (Short 6 R) ⊥

abbrev pub OfWork : Numbers → Device → List ℕ → Refusal → Type 0
OfWork k d F = Rows (Unsound k d) (NotLent k F) ⊥ ⊥

abbrev pub OfCut : Numbers → Device → List ℕ → List ℕ → List ℕ → Refusal → Type 0
OfCut k d F x R = Rows (Unsound k d) (NotLent k F) (Short 6 R) (NoFiller k x)

-- a number is given exactly when it applies and no lower number of that call does
abbrev pub Given : (Refusal → Type 0) → Refusal → Type 0
Given applies r = applies r × ((q : Refusal) → number_of q < number_of r → applies q → ⊥)

-- none of a call's numbers applies
abbrev pub None : (Refusal → Type 0) → Type 0
None applies = (q : Refusal) → applies q → ⊥
