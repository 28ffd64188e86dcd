use Rattle.std.proofs.Common.{◌≡◌, ◌∙◌, true, false, eqb}
use Rattle.basics.specs.Choice.{via}
use Rattle.basics.specs.Words.{byte_at}
use Rattle.device.specs.Layout.{encode, rollback_at}
use Rattle.jobs.proofs.Bytes.{floor_on, floor_off}
use Rattle.jobs.proofs.raise_floor.Goals as goal

pub returns-then-flag : goal.returns-then-flag
returns-then-flag c = λ d e.
    let t : eqb (byte_at (encode d) rollback_at) 1 ≡ true = rw e at (via _ _ _ c.flag.ensures c.if-flag.true) in
    c.set_floor.ensures d e ∙ floor_on d c.args.version t

pub returns-else-flag : goal.returns-else-flag
returns-else-flag c = λ d e.
    let t : eqb (byte_at (encode d) rollback_at) 1 ≡ false = rw e at (via _ _ _ c.flag.ensures c.if-flag.false) in
    e ∙ floor_off d c.args.version t
