use Rattle.std.proofs.Common.{arith, ◌≡◌, ◌∙◌, ap, ℕ, suc, ◌+◌, add-one}
use Rattle.plan.specs.Stores as Stores
use Rattle.plan.specs.Stores.{cut_short}
use Rattle.device.specs.Modes.{recorded_in}
use Rattle.device.specs.Layout.{head_in, encode, decode}
use Rattle.jobs.specs.Jobs.{progressed}
use Rattle.jobs.proofs.Turns.{recorded_few}
use Rattle.jobs.proofs.break_off.Goals as goal

pub overflow_add-recorded : goal.overflow_add-recorded
unfolding head_in
overflow_add-recorded c = record { fits = omega (arith, recorded_few c.requires.doing, c.recorded.ensures) }

pub returns-in-Record : goal.returns-in-Record
unfolding cut_short head_in
returns-in-Record c =
    let m : c.recorded.result + 1 ≡ suc (recorded_in (head_in c.args.rec.now).mode) = rw (c.recorded.ensures, add-one) in
    rw (c.in-Record.is, c.if-through.true) (c.put_recorded.ensures ∙ ap (λ (x : ℕ). encode (progressed c.args.board.size c.args.board.top (decode c.args.rec.now) (Stores.going x 0))) m)
