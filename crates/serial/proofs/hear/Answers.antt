use mathlib.Core.Path.{sym, ◌∙◌, ap}
use native.Mathlib.Omega.{arith}
use Rattle.std.proofs.Common.{rules}
use Rattle.basics.specs.Words.{zeros}
use Rattle.services.specs.Calls.{first}
use Rattle.serial.specs.Line.{judged}
use Rattle.serial.proofs.Readers.{filled_count}
use Rattle.serial.proofs.Outcomes.{wrong_placed}
use Rattle.serial.proofs.hear.Goals as goal

pub received-requires : goal.received-requires
received-requires c = omega (arith, filled_count c.args.reader.now c.requires, c.requires.few)

pub returns-in-Wrong : goal.returns-in-Wrong
unfolding zeros
returns-in-Wrong c =
    wrong_placed first _ _ _ _ _ _ _ (ap judged (sym c.received.ensures) ∙ sym c.judge.ensures ∙ c.in-Wrong.is) (search rules) c.send-in-Wrong.ensures.value
    c.send-in-Wrong.ensures.out_after
