-- Paper 01, "What lawful commands do": what a failure replies, and the error that it makes pending.
use Rattle.std.specs.Prelude.{ℕ, Option, Some, None}
use Rattle.answer.specs.declared.Reason.{Reason}
use Rattle.answer.specs.declared.Reason.TheVariants as Reasons
use Rattle.answer.specs.declared.Failure.{Failure}
use Rattle.answer.specs.declared.Failure.TheVariants.{StackRuns, JobUnderWay, NoStack, NoImage, BadHeader, NoRoom, WrongSum, NotSealed, WrongTag, UnderFloor, AuthLocked, NoAuthKey, BadType, BadSize, SecondMaster, StoreFull, NotStored, KeyLocked, NoMaster, NotLoaded}
use Rattle.answer.specs.declared.Answer.{Answer}
use Rattle.answer.specs.declared.Answer.TheVariants.{State, Stored, Accepted, Failed}

-- "E xx": the pending error becomes xx. 0 stands for no E
abbrev pub error_of : Failure → ℕ
error_of StackRuns = 0
error_of JobUnderWay = 0
error_of NoStack = 0x01
error_of NoImage = 0x01
error_of BadHeader = 0x02
error_of NoRoom = 0x04
error_of WrongSum = 0x02
error_of NotSealed = 0x03
error_of WrongTag = 0x03
error_of UnderFloor = 0x11
error_of AuthLocked = 0x0A
error_of NoAuthKey = 0xFF
error_of BadType = 0xFF
error_of BadSize = 0xFF
error_of SecondMaster = 0xFF
error_of StoreFull = 0xFF
error_of NotStored = 0xFF
error_of KeyLocked = 0xFF
error_of NoMaster = 0xFF
error_of NotLoaded = 0xFF

-- a failure replies status 0x01 (and index 0xFF for STORE), an accepted command 0x00
abbrev pub status_of : Answer → ℕ
status_of (State state error) = state
status_of (Stored index) = 0x00
status_of Accepted = 0x00
status_of (Failed failure) = 0x01

abbrev pub payload_of : Answer → ℕ
payload_of (State state error) = error
payload_of (Stored index) = index
payload_of Accepted = 0x00
payload_of (Failed failure) = 0xFF

-- paper 02 §2, why a key was turned down: bad type, bad size, second master, store full; not stored, locked, no master; not loaded. Any other
-- answer has no reason. 9 is kept for "no key services" (§1), 10 for "master missing" (§6)
abbrev pub reason_of : Failure → ℕ
reason_of StackRuns = 0
reason_of JobUnderWay = 0
reason_of NoStack = 0
reason_of NoImage = 0
reason_of BadHeader = 0
reason_of NoRoom = 0
reason_of WrongSum = 0
reason_of NotSealed = 0
reason_of WrongTag = 0
reason_of UnderFloor = 0
reason_of AuthLocked = 0
reason_of NoAuthKey = 0
reason_of BadType = 1
reason_of BadSize = 2
reason_of SecondMaster = 3
reason_of StoreFull = 4
reason_of NotStored = 5
reason_of KeyLocked = 6
reason_of NoMaster = 7
reason_of NotLoaded = 8

abbrev pub reason_in : Answer → ℕ
reason_in (State state error) = 0
reason_in (Stored index) = 0
reason_in Accepted = 0
reason_in (Failed failure) = reason_of failure

-- a reason as its number, and no reason as 0
abbrev pub number_of : Reason → ℕ
number_of Reasons.BadType = 1
number_of Reasons.BadSize = 2
number_of Reasons.SecondMaster = 3
number_of Reasons.StoreFull = 4
number_of Reasons.NotStored = 5
number_of Reasons.KeyLocked = 6
number_of Reasons.NoMaster = 7
number_of Reasons.NotLoaded = 8

abbrev pub told : Option Reason → ℕ
told None = 0
told (Some reason) = number_of reason
