use Rattle.std.proofs.Common.{◌≡◌, Bool, true, false, refl, not}
use Rattle.basics.specs.Choice.{pick}
use Rattle.reply.specs.Replies.{code_of}
use Rattle.reply.proofs.code_of.Goals as goal

code : (stack : Bool) → mir.Val.bool_byte (not stack) ≡ code_of stack
unfolding pick
code true = refl
code false = refl

pub returns : goal.returns
returns c = code c.args.stack
