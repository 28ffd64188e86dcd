use Rattle.std.proofs.Common.{rules, arith, ◌≡◌, sym, ◌∙◌, true, false, eqb-true}
use Rattle.std.specs.Prelude.{Err}
use Rattle.basics.specs.Choice.{pick, via}
use Rattle.device.specs.Layout.{decode, head_in, Bytes}
use Rattle.device.specs.Modes.{has_job}
use Rattle.services.specs.Calls.{numbers_of, granted, lent, gated}
use Rattle.services.specs.InPlace.{sound_for}
use Rattle.services.proofs.Gated.{opens}
use Rattle.services.proofs.Outcomes.{short_worked, worked_open, worked_shut, unchanged}
use Rattle.services.proofs.work_as.Goals as goal

pub returns-in_default : goal.returns-in_default
returns-in_default c = short_worked (numbers_of c.args.board) c.args.rec.now c.in_default.ensures.cases c.args.flash.now

pub returns-in_err-gate : goal.returns-in_err-gate
returns-in_err-gate c =
    let k = numbers_of c.args.board in
    let l = c.in-Some.rec.now in
    let b : Bytes l = rw c.in-Some.ensures.cases.same (λ i. omega (arith, c.slice_known-1.given i)) in
    let e : gated (sound_for k l) (lent k c.args.flash.now) true true ≡ Err c.in_err-gate.field-0.0 = rw (c.is_sound.ensures, c.is_lent.ensures) at (sym c.gate.ensures ∙ c.in_err-gate.was) in
    let f : c.from_residual.result ≡ Err c.in_err-gate.field-0.0 = search rules in
    rw (← c.in-Some.ensures.cases.same, f) (worked_shut k l c.args.flash.now b _ e)

pub work_on-requires : goal.work_on-requires
unfolding decode head_in
work_on-requires c =
    let k = numbers_of c.args.board in
    let e : gated (sound_for k c.in-Some.rec.now) (lent k c.args.flash.now) true true ≡ granted = rw (c.is_sound.ensures, c.is_lent.ensures) at (sym c.gate.ensures ∙ c.in_ok-gate.was) in
    let o = opens _ _ _ _ e in
    record { fitting = (o.whole, eqb-true _ _ o.length); job = rw c.mode.ensures at (via _ _ _ c.has_job.ensures c.if-has_job.true) }

pub returns-then-has_job : goal.returns-then-has_job
unfolding decode head_in pick
returns-then-has_job c =
    let k = numbers_of c.args.board in
    let l = c.in-Some.rec.now in
    let e : gated (sound_for k l) (lent k c.args.flash.now) true true ≡ granted = rw (c.is_sound.ensures, c.is_lent.ensures) at (sym c.gate.ensures ∙ c.in_ok-gate.was) in
    let h : has_job (decode l).head.mode ≡ true = rw c.mode.ensures at (via _ _ _ c.has_job.ensures c.if-has_job.true) in
    rw (← c.in-Some.ensures.cases.same) (c.work_on.ensures ∙ sym (worked_open k l c.args.flash.now e ∙ rw h))

pub returns-else-has_job : goal.returns-else-has_job
unfolding decode head_in pick
returns-else-has_job c =
    let k = numbers_of c.args.board in
    let l = c.in-Some.rec.now in
    let b : Bytes l = rw c.in-Some.ensures.cases.same (λ i. omega (arith, c.slice_known-1.given i)) in
    let e : gated (sound_for k l) (lent k c.args.flash.now) true true ≡ granted = rw (c.is_sound.ensures, c.is_lent.ensures) at (sym c.gate.ensures ∙ c.in_ok-gate.was) in
    let h : has_job (decode l).head.mode ≡ false = rw c.mode.ensures at (via _ _ _ c.has_job.ensures c.if-has_job.false) in
    rw (← c.in-Some.ensures.cases.same, worked_open k l c.args.flash.now e, h, unchanged k l (opens _ _ _ _ e).whole b)
