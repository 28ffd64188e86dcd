use Rattle.std.proofs.Common.{arith, ◌≡◌, ◌∙◌, ap, ℕ, suc, ◌+◌, add-one}
use Rattle.plan.specs.Stores as Stores
use Rattle.soundness.specs.Sound.{plan_for}
use Rattle.device.specs.Modes.{recorded_in}
use Rattle.device.specs.Layout.{head_in, encode, decode}
use Rattle.jobs.specs.Jobs.{progressed}
use Rattle.jobs.proofs.Turns.{made_few}
use Rattle.jobs.proofs.store_made.Goals as goal

pub overflow_add-made : goal.overflow_add-made
unfolding head_in
overflow_add-made c = record { fits = omega (arith, made_few c.requires.doing, c.byte-made.ensures) }

pub returns : goal.returns
unfolding head_in
returns c =
    let h = head_in c.args.rec.now in
    let m : c.byte-made.result + 1 ≡ suc h.made = rw (c.byte-made.ensures, add-one) in record {
      reaches = c.put_made.ensures ∙ ap (λ (x : ℕ). encode (progressed c.args.board.size c.args.board.top (decode c.args.rec.now) (Stores.going (recorded_in h.mode) x))) m;
      value = c.left-left.ensures ∙ (ap (λ (x : ℕ). Stores.left (plan_for c.args.board.size c.args.board.top h) x (c.byte-made.result + 1)) c.recorded.ensures ∙ ap (λ (x : ℕ). Stores.left (plan_for c.args.board.size c.args.board.top h) (recorded_in h.mode) x) m);
    }
