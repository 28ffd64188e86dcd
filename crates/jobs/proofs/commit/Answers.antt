use Rattle.std.proofs.Common.{◌≡◌, ◌∙◌, ap, sym, true, ◌-◌}
use Rattle.basics.specs.Choice.{pick}
use Rattle.device.specs.declared.Head.{Head}
use Rattle.device.specs.declared.Mode.TheVariants.{Stack, Upgrade}
use Rattle.device.specs.Whole.{with_head}
use Rattle.device.specs.Heads.{with_stack}
use Rattle.device.specs.Layout.{head_in, encode, decode}
use Rattle.jobs.specs.Jobs.{committed}
use Rattle.jobs.proofs.Bytes.{deleted}
use Rattle.jobs.proofs.commit.Goals as goal

pub returns-in-Upgrade : goal.returns-in-Upgrade
unfolding decode head_in
returns-in-Upgrade c =
    let h = head_in c.args.rec.now in
    let u = c.in-Upgrade in
    let m : h.mode ≡ Upgrade u.p u.size u.version u.recorded = sym c.mode.ensures ∙ u.is in
    let g : with_stack true u.version c.sectors_for-sectors.result (c.args.board.top - c.sectors_for-sectors.result) (pick h.rollback u.version h.floor) Stack h
    ≡ committed c.args.board.size c.args.board.top h.mode h = rw (m, c.sectors_for-sectors.ensures) in
    c.set_mode.ensures _ (c.set_stack.ensures _ (c.raise_floor.ensures (decode c.args.rec.now) c.requires.held.same))
    ∙ ap (λ (x : Head). encode (with_head x (decode c.args.rec.now))) g

pub returns-in_default : goal.returns-in_default
unfolding decode head_in
returns-in_default c =
    let h = head_in c.args.rec.now in
    c.set_mode-in_default.ensures _ (c.set_stack-in_default.ensures (decode c.args.rec.now) c.requires.held.same)
    ∙ ap (λ (x : Head). encode (with_head x (decode c.args.rec.now)))
    (sym (deleted c.args.board.size c.args.board.top h.mode h c.requires.doing.job (λ p size version recorded e. c.in_default.not-Upgrade p size version recorded (c.mode.ensures ∙ e))))
