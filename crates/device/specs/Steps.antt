-- What a failure and an acceptance do to the head.
use Rattle.answer.specs.Answers.{error_of}
use Rattle.answer.specs.declared.Failure.{Failure}
use Rattle.answer.specs.declared.Answer.{Answer}
use Rattle.answer.specs.declared.Answer.TheVariants.{Failed}
use Rattle.device.specs.declared.Head.{Head}
use Rattle.device.specs.Types.{Step, Effect, Keep}
use Rattle.device.specs.Heads.{with_error}

abbrev pub step : Head → Answer → Effect → Step
step h a x = record { head = h; answer = a; effect = x }

-- "E xx" means the pending error becomes xx
abbrev pub failed : Head → Failure → Step
failed h f = step (with_error (error_of f) h) (Failed f) Keep

-- an accepted command other than GET_STATE clears the pending error
abbrev pub accepted : Head → Answer → Effect → Step
accepted h a x = step (with_error 0 h) a x
