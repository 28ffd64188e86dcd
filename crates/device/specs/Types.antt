-- A device as the definitions speak of it: its head, and by a key's index (0 the master's) its lock, which is lost, its type, its size and its
-- 44 bytes; and the authentication key. specs/Layout.antt says which device a record's bytes are.
use Rattle.std.specs.Prelude.{ℕ, List}
use Rattle.answer.specs.declared.Answer.{Answer}
use Rattle.device.specs.declared.Head.{Head}

pub record Device : Type 0 where
  pub head : Head
  pub locks : List ℕ
  pub key : List ℕ
  pub kinds : List ℕ
  pub sizes : List ℕ
  pub bytes : List ℕ

-- what is looked up for a command with a key's index: the type and the lock that stand there, and the type that stands at 0
pub record Look : Type 0 where
  pub kind : ℕ
  pub lock : ℕ
  pub master : ℕ

-- what a command does to the arrays
pub data Effect : Type 0 where
  Keep : Effect
  Drop : Effect
  Lock : (slot : ℕ) → Effect
  Put : (slot kind : ℕ) → Effect
  Auth : Effect

-- what a command does to the head, what it is answered, and its effect on the arrays
pub record Step : Type 0 where
  pub head : Head
  pub answer : Answer
  pub effect : Effect
