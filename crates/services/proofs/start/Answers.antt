use Rattle.device.proofs.Stored.{runs_of}
use Rattle.services.proofs.start.Goals as goal

pub returns : goal.returns
returns c = record {
  loses = c.lose.ensures;
  event_after = λ d e. rw (c.write_event.ensures.buffer_after, c.stack_runs.ensures, c.mode.ensures, runs_of d _ e);
}
