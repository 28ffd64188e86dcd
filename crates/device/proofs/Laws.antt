-- How a command's proof goes by its tests: a step on a record's bytes is the step on the device that they are.
use mathlib.Core.Path.{◌≡◌, refl}
use mathlib.Core.Bool.{Bool, true, false}
use mathlib.Core.List.{List}
use Prim.Native.Nat.{ℕ}
use lib.ListN.{set}
use borrow.Author.Tests.{lt-ltb, le-ltb, le-leb, lt-leb, eq-eqb, ne_eqb}
use Rattle.basics.specs.Choice.{pick, via, via_not_true, via_not_false, via_eq, via_ne, other}
use Rattle.basics.specs.Words.{zeros}
use Rattle.answer.specs.declared.Answer.{Answer}
use Rattle.device.specs.declared.Head.{Head}
use Rattle.device.specs.Types.{Step, Keep, Drop, Lock}
use Rattle.device.specs.Steps.{step}
use Rattle.device.specs.Whole.{with_head, with_locks, carried}
use Rattle.device.specs.Layout.{encode, decode}
use Rattle.device.specs.Done.{done, stepped, Steps}
use Rattle.device.proofs.Records.{locks_length}

-- A STEP
module _ (l r : List ℕ) (h : Head) (a : Answer) where
  pub kept : r ≡ encode (with_head h (decode l)) → Steps l r a (step h a Keep)
  unfolding stepped
  kept e = record { by = λ key. rw e }

  pub dropped : r ≡ encode (with_locks (zeros 101) (with_head h (decode l))) → Steps l r a (step h a Drop)
  unfolding stepped
  dropped e = record { by = λ key. rw e }

-- an answer that the definition picks
pub told : (l r : List ℕ) (h : Head) (a b : Answer) → a ≡ b → r ≡ encode (with_head h (decode l)) → Steps l r a (step h b Keep)
told l r h a b q e = rw q (kept l r h b e)

pub locked : (l r : List ℕ) (h : Head) (a : Answer) (i : ℕ) → r ≡ encode (with_locks (set (decode l).locks i 1) (with_head h (decode l))) → Steps l r a (step h a (Lock i))
unfolding stepped
locked l r h a i e = record { by = λ key. rw e }

pub finish : (s : Step) (key l r : List ℕ) → r ≡ encode (carried s key (decode l)) → done s.answer r ≡ stepped s key l
unfolding stepped
finish s key l r e = rw e

pub with_key_lem : (l r key : List ℕ) (a : Answer) (s : Step) → Steps l r a s → done a r ≡ stepped s key l
with_key_lem l r key a s e = e.by key

module _ (t : Bool) (x y : Step) (l r : List ℕ) where
  module _ (a : Answer) where
    pub yes_step : t ≡ true → Steps l r a x → Steps l r a (pick t x y)
    unfolding pick
    yes_step e h = rw e h

    pub no_step : t ≡ false → Steps l r a y → Steps l r a (pick t x y)
    unfolding pick
    no_step e h = rw e h

  module _ (key : List ℕ) (a : Answer) where
    pub yes_with : t ≡ true → done a r ≡ stepped x key l → done a r ≡ stepped (pick t x y) key l
    unfolding pick
    yes_with e h = rw e h

    pub no_with : t ≡ false → done a r ≡ stepped y key l → done a r ≡ stepped (pick t x y) key l
    unfolding pick
    no_with e h = rw e h

pub ruleset steps = (
  yes_step,
  no_step,
  yes_with,
  no_with,
  with_key_lem,
  via,
  via_not_true,
  via_not_false,
  via_eq,
  via_ne,
  other,
  refl,
  lt-ltb,
  le-ltb,
  le-leb,
  lt-leb,
  eq-eqb,
  ne_eqb,
)

-- for the check of a function whose contract is a step
pub ruleset on_record = (
  kept,
  dropped,
  locked,
  finish,
  locks_length,
)
