use Rattle.answer.specs.declared.Answer.TheVariants.{Accepted}
use Rattle.keys.specs.Keys.{load_key}
use Rattle.device.specs.Layout.{decode, head_in}
use Rattle.device.proofs.Laws.{kept, steps}
use Rattle.keys.proofs.load_key.Goals as goal

pub returns-then-encrypted-slot : goal.returns-then-encrypted-slot
unfolding decode head_in load_key
returns-then-encrypted-slot c =
    let t = rw (c.slot-2.ensures, c.from.ensures, c.slot-3.ensures, c.from-2.ensures) at c.if-encrypted-slot.true in
    let e = kept c.args.rec.now _ _ Accepted (c.set_error.ensures _ (c.set_loaded.ensures _ c.requires.same)) in
    search steps
