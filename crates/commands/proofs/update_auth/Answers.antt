use Rattle.answer.specs.declared.Answer.TheVariants.{Accepted}
use Rattle.device.specs.Types.{Auth}
use Rattle.device.specs.Heads.{with_auth}
use Rattle.device.specs.Steps.{accepted}
use Rattle.device.specs.Layout.{decode, head_in}
use Rattle.device.proofs.Laws.{finish, steps}
use Rattle.commands.proofs.update_auth.Goals as goal

pub returns : goal.returns
unfolding decode head_in
returns c =
    let e = finish (accepted (with_auth (head_in c.args.rec.now)) Accepted Auth) c.args.key.now c.args.rec.now _ (c.set_error.ensures _ (c.set_auth.ensures _ c.set_auth_key.ensures)) in
    search steps
