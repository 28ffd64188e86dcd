-- A byte on the line sends at most ten bytes.
-- Assumes nothing.
use Prim.Native.Nat.{ℕ, ◌≤◌}
use mathlib.Core.Bool.{Bool, true, false}
use mathlib.Core.List.{List}
use native.Mathlib.Omega.{arith}
use lib.ListN.{length}
use Rattle.std.specs.Prelude.{Ok, Err}
use Rattle.basics.specs.Choice.{pick}
use Rattle.basics.specs.Words.{byte_at}
use Rattle.packet.specs.declared.Command.{Command}
use Rattle.device.specs.Layout.{head_in}
use Rattle.device.specs.declared.Head.{Head}
use Rattle.services.specs.Calls.{Numbers, Verdict}
use Rattle.services.specs.InPlace.{HandlePlaced}
use Rattle.serial.specs.declared.Peek.{Peek}
use Rattle.serial.specs.declared.Fate.{Fate}
use Rattle.serial.specs.declared.Fate.TheVariants.{More, Right, Whole, Wrong}
use Rattle.serial.specs.Responses.{peek, response, answer_to}
use Rattle.serial.specs.Steps.{by_fate, handled_on}

pub pick_few : (t : Bool) (x y : List ℕ) (n : ℕ) → length x ≤ n → length y ≤ n → length (pick t x y) ≤ n
unfolding pick
pick_few true x y n p q = p
pick_few false x y n p q = q

pub response_few : (c : Command) (status payload : ℕ) (next : Peek) → length (response c status payload next) ≤ 9
unfolding response
response_few c status payload next =
    pick_few _ _ _ 9 (omega arith) (pick_few _ _ _ 9 (omega arith) (pick_few _ _ _ 9 (omega arith) (omega arith)))

pub answer_few : (v : Verdict) (c : Command) (R : List ℕ) (h : Head) → length (answer_to v c R h) ≤ 9
answer_few (Ok done) c R h = response_few c (byte_at R 6) (byte_at R 7) (peek h)
answer_few (Err r) c R h = omega arith

pub fate_few : (f : Fate) (k : Numbers) (s l F : List ℕ) → length (by_fate f k s l F).message ≤ 10
fate_few More k s l F = omega arith
fate_few Right k s l F = omega arith
fate_few Wrong k s l F = omega arith
fate_few (Whole c) k s l F =
    let h : HandlePlaced = handled_on k c s l F in
    omega (arith, answer_few h.verdict c h.reply (head_in h.bytes))
