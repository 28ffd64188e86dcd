use Rattle.std.proofs.Common.{arith}
use Rattle.plan.specs.Stores.{onward}
use Rattle.device.specs.Modes.{recorded_in}
use Rattle.device.specs.Layout.{head_in, decode}
use Rattle.jobs.proofs.Turns.{within}
use Rattle.services.specs.Calls.{numbers_of}
use Rattle.services.proofs.Doings.{doing}
use Rattle.services.proofs.Laws.{sensible}
use Rattle.services.proofs.Outcomes.{few_at, sound_in, on_job}
use Rattle.services.proofs.work_on.Goals as goal

pub next-store-requires : goal.next-store-requires
next-store-requires c =
    on_job (numbers_of c.args.board) c.args.rec.now c.requires.fitting.0 (λ i. omega (arith, c.fits-rec i)) (sensible c.args.board) c.requires.job

pub advance-left-requires : goal.advance-left-requires
advance-left-requires c =
    on_job (numbers_of c.args.board) c.args.rec.now c.requires.fitting.0 (λ i. omega (arith, c.fits-rec i)) (sensible c.args.board) c.requires.job

pub overflow_cast-left : goal.overflow_cast-left
unfolding decode
overflow_cast-left c =
    let k = numbers_of c.args.board in
    let doing-it = doing k (decode c.args.rec.now) (sensible c.args.board) (sound_in k c.args.rec.now c.requires.fitting.0) c.requires.job in
    record { fits = omega (arith, c.advance-left.ensures.value, few_at k.size k.top (head_in c.args.rec.now) doing-it (onward c.next-store.result (recorded_in (head_in c.args.rec.now).mode) (head_in c.args.rec.now).made)) }

pub make-requires : goal.make-requires
unfolding decode
make-requires c =
    let k = numbers_of c.args.board in
    let doing-it = doing k (decode c.args.rec.now) (sensible c.args.board) (sound_in k c.args.rec.now c.requires.fitting.0) c.requires.job in
    rw c.next-store.ensures (within doing-it k.count c.args.flash.now c.args.board.below c.requires.fitting.1)

pub returns : goal.returns
unfolding decode
returns c = rw (c.advance-left.ensures.reaches, c.advance-left.ensures.value, c.make.ensures, c.next-store.ensures)
