use Prim.Native.Nat.{◌+◌, ◌*◌, ◌-◌}
use mathlib.Core.Path.{◌≡◌, ◌∙◌, refl}
use native.Mathlib.Omega.{arith}
use borrow.Author.Tests.{le-leb}
use lib.ListN.{length}
use Rattle.basics.specs.Choice.{both_true}
use Rattle.device.specs.Types.{Put}
use Rattle.device.proofs.Records.{stored_key_lem}
use Rattle.device.proofs.Stored.{effect_in}
use Rattle.device.proofs.fields.set_key.Goals as goal

pub returns : goal.returns
returns c =
    let n : c.args.slot * 44 + length c.args.key.now - c.args.slot * 44 ≡ length c.args.key.now = omega arith in
    stored_key_lem c.args.rec.now _ _ _ _ _ c.args.key.now c.args.slot c.args.kind c.requires.held.size refl refl refl refl (rw (n, c.copy_from_slice.ensures.after))
    ∙ effect_in c.args.rec.now c.requires.held (Put c.args.slot c.args.kind) c.args.key.now (both_true _ _ (le-leb _ _ c.requires.slot_bound.0) (le-leb _ _ c.requires.slot_bound.1))
