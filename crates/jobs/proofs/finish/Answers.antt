use Rattle.device.specs.Layout.{decode}
use Rattle.device.proofs.Records.{locks_length}
use Rattle.jobs.proofs.finish.Goals as goal

pub returns : goal.returns
unfolding decode
returns c = c.lose.ensures _ (locks_length c.args.rec.now c.requires.held.size) c.commit.ensures
