use Rattle.loading.proofs.Taking.{longer}
use Rattle.loading.proofs.lines.Lines.next_line.Goals as goal

pub loop-preserved : goal.loop-preserved
loop-preserved g c = record {
  room = c.keep-n.ensures.room;
  begun = rw c.keep-n.auto.line (longer _ _ _ _ _ _ c.in-Some.byte c.loop.invariant.begun c.in-Some.ensures.steps c.in-Some.byte-test.1 c.keep-n.ensures.kept);
}
