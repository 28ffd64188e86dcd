use Prim.Native.Nat.{◌≤◌, ◌<◌}
use native.Mathlib.Omega.{arith}
use lib.ListN.{length}
use Rattle.basics.specs.Choice.{cases}
use Rattle.reply.specs.Replies.{replied}
use Rattle.reply.proofs.Laws.{over_zeros}
use Rattle.reply.proofs.put.Goals as goal

pub returns-then-buffer-least : goal.returns-then-buffer-least
unfolding replied
returns-then-buffer-least c =
    let h : length c.args.buffer.now < c.args.least = omega arith in
    record {
      value = search cases;
      buffer_after = search cases;
    }

pub returns : goal.returns
returns c =
    let h : c.args.least ≤ length c.args.buffer.now = omega arith in
    record {
      value = search cases;
      buffer_after = rw (c.copy_from_slice.ensures.after, c.clear.ensures) (over_zeros _ _ _ h);
    }
