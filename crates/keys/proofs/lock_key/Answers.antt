use Rattle.answer.specs.declared.Answer.TheVariants.{Accepted}
use Rattle.device.specs.Layout.{decode}
use Rattle.device.proofs.Laws.{locked, steps}
use Rattle.keys.proofs.lock_key.Goals as goal

pub returns-then-stored : goal.returns-then-stored
unfolding decode
returns-then-stored c =
    let e = locked c.args.rec.now _ _ Accepted c.args.index (c.set_error.ensures _ c.set_lock.ensures) in
    search steps
