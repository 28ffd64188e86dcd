use Rattle.std.proofs.Common.{◌∙◌}
use Rattle.device.specs.Layout.{decode}
use Rattle.jobs.proofs.Bytes.{still}
use Rattle.jobs.proofs.put_made.Goals as goal

pub returns : goal.returns
unfolding decode
returns c = c.set_made.ensures (decode c.args.rec.now) c.requires.held.same ∙ still (decode c.args.rec.now) c.args.board.size c.args.board.top c.args.made
