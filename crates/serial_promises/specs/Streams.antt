-- Paper 02 §5: streams of bytes on the line, and what a byte may do to the device.
use Rattle.std.specs.Prelude.{ℕ, ◌≡◌, List, [], ◌∷◌, ◌++◌}
use Rattle.basics.specs.Words.{zeros}
use Rattle.packet.specs.declared.Command.{Command}
use Rattle.device.specs.Layout.{encode, decode}
use Rattle.services.specs.Calls.{Numbers}
use Rattle.promises.specs.Demand.{called, packet}
use Rattle.serial.specs.declared.Fate.TheVariants.{Whole}
use Rattle.serial.specs.Line.{judged}
use Rattle.serial.specs.Steps.{Step, stepped}

-- a line at a time: the bytes received of the command under way (none: the reader is new), the record's bytes, the flash
pub record Line : Type 0 where
  pub received : List ℕ
  pub bytes : List ℕ
  pub flash : List ℕ

abbrev pub line : List ℕ → List ℕ → List ℕ → Line
line s l F = record { received = s; bytes = l; flash = F }

-- a byte on it, and where that leaves it
abbrev pub next : Numbers → Line → ℕ → Step
next k x b = stepped k x.received x.bytes x.flash b

abbrev pub onward : Step → Line
onward y = line y.received y.bytes y.flash

-- a stream: where it leaves the line, and what is sent after each byte
unfoldable pub after_all : Numbers → List ℕ → Line → Line
after_all k [] x = x
after_all k (b ∷ bs) x = after_all k bs (onward (next k x b))

unfoldable pub sent_to : Numbers → List ℕ → Line → List (List ℕ)
sent_to k [] x = []
sent_to k (b ∷ bs) x = (next k x b).message ∷ sent_to k bs (onward (next k x b))

-- no command becomes whole: the stream is damaged, or cut off inside a command
pub data NoneWhole (k : Numbers) : List ℕ → Line → Type 0 where
  end : {x : Line} → NoneWhole k [] x
  more : {b : ℕ} {bs : List ℕ} {x : Line} → ((c : Command) → judged (x.received ++ (b ∷ [])) ≡ Whole c → ⊥)
      → NoneWhole k bs (onward (next k x b)) → NoneWhole k (b ∷ bs) x

-- what a byte may do to record and flash: nothing, or what an event of demand 3 does, a packet
pub data Effect (k : Numbers) (l F l₁ F₁ : List ℕ) : Type 0 where
  nothing : l₁ ≡ l → F₁ ≡ F → Effect k l F l₁ F₁
  event : (p : List ℕ) → l₁ ≡ encode (called k (packet p (zeros 8)) (decode l, F)).0 → F₁ ≡ (called k (packet p (zeros 8)) (decode l, F)).1
      → Effect k l F l₁ F₁
