use Rattle.reply.specs.Replies.{event}
use Rattle.reply.proofs.write_event.Goals as goal

pub returns : goal.returns
unfolding event
returns c =
    record {
      value = c.put.ensures.value;
      buffer_after = rw (← c.code_of-code.ensures) c.put.ensures.buffer_after;
    }
