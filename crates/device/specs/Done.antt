-- A decided step, carried out on the bytes.
use Rattle.std.specs.Prelude.{ℕ, ◌≡◌, List}
use Rattle.answer.specs.declared.Answer.{Answer}
use Rattle.device.specs.Types.{Step}
use Rattle.device.specs.Whole.{carried}
use Rattle.device.specs.Layout.{encode, decode}

-- what a command leaves behind: its answer, and the record's bytes
pub record Done : Type 0 where
  pub answer : Answer
  pub bytes : List ℕ

abbrev pub done : Answer → List ℕ → Done
done a l = record { answer = a; bytes = l }

-- a step on the device that the bytes are; `key` are the key bytes of the packet
unfoldable pub stepped : Step → List ℕ → List ℕ → Done
stepped s key l = done s.answer (encode (carried s key (decode l)))

-- the bytes l become r and the answer is a, as the step says, whatever the key bytes
pub record Steps (l r : List ℕ) (a : Answer) (s : Step) : Type 0 where
  pub by : (key : List ℕ) → done a r ≡ stepped s key l
