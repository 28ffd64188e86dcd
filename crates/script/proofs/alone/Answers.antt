use Rattle.std.proofs.Common.{arith}
use Rattle.std.proofs.lemmas.Grind.{common_steps}
use Rattle.basics.specs.Choice.{pick}
use Rattle.script.specs.Orders.{lone_order, show_order}
use Rattle.script.proofs.Laws.{other_length, other_byte}
use Rattle.script.proofs.alone.Goals as goal

pub returns-in_default-clause-order : goal.returns-in_default-clause-order
unfolding lone_order show_order pick
returns-in_default-clause-order c = grind (arith, common_steps, other_length, other_byte)
