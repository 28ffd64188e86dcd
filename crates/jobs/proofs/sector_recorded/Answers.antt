use Rattle.std.proofs.Common.{arith, ◌≡◌, ◌∙◌, ap, ℕ, suc, ◌+◌, add-one}
use Rattle.plan.specs.Stores as Stores
use Rattle.soundness.specs.Sound.{plan_for}
use Rattle.device.specs.Modes.{recorded_in}
use Rattle.device.specs.Layout.{head_in, encode, decode}
use Rattle.jobs.specs.Jobs.{progressed}
use Rattle.jobs.proofs.Turns.{recorded_few}
use Rattle.jobs.proofs.sector_recorded.Goals as goal

pub overflow_add-recorded : goal.overflow_add-recorded
unfolding head_in
overflow_add-recorded c = record { fits = omega (arith, recorded_few c.requires.doing, c.recorded-recorded.ensures) }

pub returns : goal.returns
unfolding head_in
returns c =
    let m : c.recorded-recorded.result + 1 ≡ suc (recorded_in (head_in c.args.rec.now).mode) = rw (c.recorded-recorded.ensures, add-one) in record {
      reaches = c.put_recorded.ensures ∙ ap (λ (x : ℕ). encode (progressed c.args.board.size c.args.board.top (decode c.args.rec.now) (Stores.going x 0))) m;
      value = c.left-left.ensures ∙ ap (λ (x : ℕ). Stores.left (plan_for c.args.board.size c.args.board.top (head_in c.args.rec.now)) x 0) m;
    }
