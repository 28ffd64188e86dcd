use borrow.Author.Tests.{eq-eqb}
use Rattle.device.specs.Types.{Auth}
use Rattle.device.proofs.Stored.{effect_in}
use Rattle.device.proofs.fields.set_auth_key.Goals as goal

pub returns : goal.returns
returns c =
    let e = effect_in c.args.rec.now c.requires.held Auth c.args.key.now (eq-eqb _ _ c.requires.key_len) in
    rw c.copy_from_slice.ensures.after (rw c.requires.key_len at e)
