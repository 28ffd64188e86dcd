use Rattle.std.proofs.Common.{arith}
use Rattle.plan.specs.Stores.{cut_short}
use Rattle.device.specs.Modes.{recorded_in}
use Rattle.device.specs.Layout.{head_in, decode}
use Rattle.device.proofs.Records.{locks_length}
use Rattle.soundness.proofs.Record.{record_length_lem}
use Rattle.jobs.specs.Jobs.{progressed}
use Rattle.jobs.proofs.Turns.{within}
use Rattle.services.specs.Calls.{numbers_of}
use Rattle.services.proofs.Doings.{doing}
use Rattle.services.proofs.Laws.{sensible}
use Rattle.services.proofs.Outcomes.{progressed_locks, sound_in, on_job}
use Rattle.services.proofs.cut_on.Goals as goal

pub next-store-requires : goal.next-store-requires
next-store-requires c =
    on_job (numbers_of c.args.board) c.args.rec.now c.requires.fitting.0 (λ i. omega (arith, c.fits-rec i)) (sensible c.args.board) c.requires.job.0

pub break_off-requires : goal.break_off-requires
break_off-requires c =
    on_job (numbers_of c.args.board) c.args.rec.now c.requires.fitting.0 (λ i. omega (arith, c.fits-rec i)) (sensible c.args.board) c.requires.job.0

pub cut-requires : goal.cut-requires
unfolding decode
cut-requires c =
    let k = numbers_of c.args.board in
    let doing-it = doing k (decode c.args.rec.now) (sensible c.args.board) (sound_in k c.args.rec.now c.requires.fitting.0) c.requires.job.0 in
    record {
      within = rw c.next-store.ensures (within doing-it k.count c.args.flash.now c.args.board.below c.requires.fitting.1);
      filler_len = c.requires.job.1;
    }

pub returns : goal.returns
unfolding decode
returns c =
    let at = cut_short c.next-store.result c.args.through (recorded_in (head_in c.args.rec.now).mode) in
    let d = progressed c.args.board.size c.args.board.top (decode c.args.rec.now) at in
    rw (c.start.ensures.loses d (progressed_locks c.args.board.size c.args.board.top (decode c.args.rec.now) at (locks_length c.args.rec.now (record_length_lem _ _ _ c.requires.fitting.0))) c.break_off.ensures, c.start.ensures.event_after d c.break_off.ensures, c.cut.ensures, c.next-store.ensures)
