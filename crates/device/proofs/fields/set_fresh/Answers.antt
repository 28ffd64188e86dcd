use Rattle.basics.specs.Words.{zeros}
use mathlib.Core.Path.{◌∙◌, ap}
use Rattle.device.proofs.Records.{blank, zeros_blank}
use Rattle.device.specs.Kind.{fresh_device}
use Rattle.device.proofs.fields.set_fresh.Goals as goal

pub returns : goal.returns
unfolding fresh_device zeros
returns c =
    let z = c.fill.ensures.after (λ y h. h) ∙ ap zeros c.told-rec ∙ zeros_blank in
    c.set_mode.ensures _ (c.set_stack.ensures blank z)
