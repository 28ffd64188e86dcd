use Rattle.std.proofs.Common.{sym, ◌∙◌}
use Rattle.image.proofs.Laws.{begins_is}
use Rattle.image.proofs.starts.Goals as goal

pub returns : goal.returns
returns c = c.starts_with.ensures.value ∙ sym (begins_is c.args.part.now c.args.mark.now)
