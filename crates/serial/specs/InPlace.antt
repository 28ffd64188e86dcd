-- Paper 02 §5 for the C test host: the reader as bytes, and a byte on the line with all its buffers.
use Rattle.std.specs.Prelude.{ℕ, ◌+◌, ◌-◌, ◌≤◌, Bool, true, false, ◌&&◌, ◌≡◌, List, [], ◌∷◌, ◌++◌, Option, Result, Ok, Err, leb, eqb, length, take, drop}
use Rattle.basics.specs.Choice.{pick}
use Rattle.basics.specs.Words.{byte_at, zeros}
use Rattle.reply.specs.Replies.{replied}
use Rattle.answer.specs.declared.Reason.{Reason}
use Rattle.answer.specs.Answers.{told}
use Rattle.services.specs.Calls.{Numbers}
use Rattle.serial.specs.declared.Unheard.{Unheard}
use Rattle.serial.specs.declared.Unheard.TheVariants.{OutShort, NoReader}
use Rattle.serial.specs.declared.Sent.{Sent}
use Rattle.serial.specs.Line.{is_open}
use Rattle.serial.specs.Steps.{Step, stepped}

-- A READER'S BYTES: how many bytes of the command were received, these, and zeros. The longest command has 77
abbrev pub reader_length : ℕ
reader_length = 78

unfoldable pub reader_bytes : List ℕ → List ℕ
reader_bytes s = length s ∷ (s ++ zeros (77 - length s))

abbrev pub received_in : List ℕ → List ℕ
received_in r = take (byte_at r 0) (drop 1 r)

unfoldable pub all_zero : List ℕ → Bool
all_zero [] = true
all_zero (b ∷ s) = eqb b 0 && all_zero s

-- are these bytes a reader's? A reader that has all its command's bytes does not exist, so 76 are the most
unfoldable pub is_reader : List ℕ → Bool
is_reader r =
    pick (eqb (length r) reader_length)
    (pick (leb (byte_at r 0) 76) (is_open (received_in r) && all_zero (drop (byte_at r 0 + 1) r)) false)
    false

-- a reader's bytes while the newest byte is among them
pub record Filled (r : List ℕ) : Type 0 where
  pub same : r ≡ reader_bytes (received_in r)
  pub few : length (received_in r) ≤ 77

-- was the call taken? It is, or it is refused for one of two reasons
abbrev pub Heard : Type 0
Heard = Result (Unit {0}) Unheard

abbrev pub taken : Heard
taken = Ok tt

-- a call's answer; how many bytes are sent, and the number of the reason beside them: 0 and 0 of a call that is refused
abbrev pub heard_of : Result Sent Unheard → Heard
heard_of (Ok sent) = taken
heard_of (Err unheard) = Err unheard

abbrev pub sent_told : Result Sent Unheard → ℕ
sent_told (Ok sent) = sent.count
sent_told (Err unheard) = 0

abbrev pub reason_told : Result Sent Unheard → ℕ
reason_told (Ok sent) = told sent.reason
reason_told (Err unheard) = 0

abbrev pub sending : List ℕ → Option Reason → Sent
sending message reason = record { count = length message; reason = reason }

-- all that a call leaves behind: its answer, the record's bytes, the flash, the reader's bytes, the buffer for what is sent, how many bytes
-- of it are sent, and the reason
pub record Placed : Type 0 where
  pub answer : Heard
  pub bytes : List ℕ
  pub flash : List ℕ
  pub reader : List ℕ
  pub out : List ℕ
  pub sent : ℕ
  pub reason : ℕ

abbrev pub placed : Heard → List ℕ → List ℕ → List ℕ → List ℕ → ℕ → ℕ → Placed
placed answer l F r out sent reason =
    record { answer = answer; bytes = l; flash = F; reader = r; out = out; sent = sent; reason = reason }

abbrev pub placed_by : Step → List ℕ → Placed
placed_by x out =
    placed taken x.bytes x.flash (reader_bytes x.received) (replied 10 (length out) x.message) (length x.message) x.reason

-- a refused call changes nothing and has nothing to send
abbrev pub refused_by : Unheard → List ℕ → List ℕ → List ℕ → List ℕ → Placed
refused_by unheard l F r out = placed (Err unheard) l F r (zeros (length out)) 0 0

unfoldable pub stepped_in_place : Numbers → (l F r : List ℕ) → ℕ → List ℕ → Placed
stepped_in_place k l F r b out =
    pick (leb 10 (length out))
    (pick (is_reader r) (placed_by (stepped k (received_in r) l F b) out) (refused_by NoReader l F r out))
    (refused_by OutShort l F r out)

-- A NEW READER: nothing received. Another length is refused and stays as it is
pub record FreshPlaced : Type 0 where
  pub answer : Heard
  pub reader : List ℕ

abbrev pub fresh_placed : Heard → List ℕ → FreshPlaced
fresh_placed answer r = record { answer = answer; reader = r }

unfoldable pub fresh_in_place : List ℕ → FreshPlaced
fresh_in_place r = pick (eqb (length r) reader_length) (fresh_placed taken (reader_bytes [])) (fresh_placed (Err NoReader) r)
