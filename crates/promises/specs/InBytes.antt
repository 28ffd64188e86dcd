-- CALLS IN A ROW: what each call asks of a device and leaves again, by value and on a record's bytes. So contracts chain over any calls.
use Rattle.std.specs.Prelude.{ℕ, true, ◌≡◌, List, [], ◌∷◌}
use Rattle.device.specs.declared.Head.{Head}
use Rattle.device.specs.Types.{Device}
use Rattle.device.specs.Whole.{Shaped}
use Rattle.device.specs.Layout.{Word, version_of, encode, decode, Bytes}
use Rattle.soundness.specs.Sound.{sound}
use Rattle.services.specs.Calls.{Numbers}
use Rattle.services.specs.InPlace.{handled_in_place, restarted_in_place, worked_in_place, cut_in_place}
use Rattle.promises.specs.Demand.{Event, packet, restart, work, cut, State}

-- three numbers fit in four bytes: the versions of the stack and of a job's image, and the floor. Of the others soundness says so
abbrev pub Worded : Head → Type 0
Worded h = Word h.version × Word (version_of h.mode) × Word h.floor

-- a device that has bytes of its own: sound, its arrays of their lengths, its numbers words
pub record Fine (k : Numbers) (d : Device) : Type 0 where
  pub is_sound : sound k.size k.top d ≡ true
  pub shaped : Shaped d
  pub worded : Worded d.head

-- bytes that are such a device's, and nothing else
pub record Held (k : Numbers) (l : List ℕ) : Type 0 where
  pub device : Fine k (decode l)
  pub one_to_one : encode (decode l) ≡ l

-- a record's bytes and the flash; those of a device
abbrev pub Bytewise : Type 0
Bytewise = List ℕ × List ℕ

abbrev pub bytes_of : State → Bytewise
bytes_of (d, F) = (encode d, F)

-- what a call on bytes leaves: the definitions that the contracts of the calls in place cite
abbrev pub called_in : Numbers → Event → Bytewise → Bytewise
called_in k (packet s R) (l, F) = ((handled_in_place k l F s R).bytes, (handled_in_place k l F s R).flash)
called_in k (restart R) (l, F) = ((restarted_in_place k l R).bytes, F)
called_in k work (l, F) = ((worked_in_place k l F).bytes, (worked_in_place k l F).flash)
called_in k (cut x through R) (l, F) = ((cut_in_place k l F x through R).bytes, (cut_in_place k l F x through R).flash)

-- calls in turn: `in_turn (called k)` by value, `in_turn (called_in k)` on bytes
unfoldable pub in_turn : {A : Type 0} → (Event → A → A) → List Event → A → A
in_turn call [] s = s
in_turn call (e ∷ es) s = in_turn call es (call e s)

-- the fillers of cuts are bytes, as those of every slice are. Of packets and reply buffers nothing is asked
abbrev pub Filled : Event → Type 0
Filled (packet s R) = Unit {0}
Filled (restart R) = Unit {0}
Filled work = Unit {0}
Filled (cut x through R) = Bytes x

unfoldable pub AllFilled : List Event → Type 0
AllFilled [] = Unit {0}
AllFilled (e ∷ es) = Filled e × AllFilled es
