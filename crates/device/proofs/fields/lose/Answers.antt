use mathlib.Core.Path.{◌≡◌, ap, ◌∙◌}
use Rattle.basics.specs.Words.{zeros}
use Rattle.device.specs.Layout.{head_bytes, encode}
use Rattle.device.proofs.Records.{locks_length}
use Rattle.device.proofs.Stored.{drop_in}
use Rattle.device.proofs.fields.lose.Goals as goal

pub returns : goal.returns
unfolding encode head_bytes zeros
returns c = λ d k e.
    let f : c.fill.new.self ≡ zeros 101 = c.fill.ensures.after (λ y h. h) ∙ ap zeros (locks_length c.args.rec.now c.told-rec) in
    rw (drop_in d c.args.rec.now c.fill.new.self k e f)
