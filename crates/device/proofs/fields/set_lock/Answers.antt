use mathlib.Core.Path.{refl, sym, ◌∙◌}
use mathlib.Core.List.{[]}
use Rattle.device.specs.Layout.{decode}
use Rattle.device.specs.Types.{Lock}
use Rattle.device.proofs.Records.{lock_length, no_lock}
use Rattle.device.proofs.Stored.{effect_in}
use Rattle.device.proofs.fields.set_lock.Goals as goal

pub returns-then-slot-lt-SLOTS : goal.returns-then-slot-lt-SLOTS
unfolding decode
returns-then-slot-lt-SLOTS c =
    rw (lock_length c.args.rec.now c.requires.size c.args.slot) at (effect_in c.args.rec.now c.requires (Lock c.args.slot) [] refl)

pub returns-else-slot-lt-SLOTS : goal.returns-else-slot-lt-SLOTS
unfolding decode
returns-else-slot-lt-SLOTS c =
    sym (no_lock c.args.rec.now c.requires.size c.args.slot c.if-slot-lt-SLOTS.false) ∙ effect_in c.args.rec.now c.requires (Lock c.args.slot) [] refl
