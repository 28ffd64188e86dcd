use Rattle.std.proofs.Common.{arith}
use Rattle.std.proofs.lemmas.Grind.{common_steps}
use Rattle.basics.specs.Choice.{pick}
use Rattle.script.proofs.Laws.{other_length, other_byte}
use Rattle.script.proofs.cut.Goals as goal

pub returns-in_default-clause-order : goal.returns-in_default-clause-order
unfolding pick
returns-in_default-clause-order c = grind (arith, common_steps, other_length, other_byte)
