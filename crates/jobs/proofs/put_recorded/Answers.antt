use Rattle.device.specs.Layout.{decode}
use Rattle.jobs.proofs.put_recorded.Goals as goal

pub returns : goal.returns
unfolding decode
returns c = c.set_made.ensures _ (c.set_recorded.ensures (decode c.args.rec.now) c.requires.doing.job c.requires.held.same)
