use Rattle.std.proofs.Common.{arith, ◌≡◌, sym, ◌∙◌, true, false, leb, eqb, length, eqb-true}
use Rattle.std.specs.Prelude.{Err}
use Rattle.basics.specs.Choice.{pick, via}
use Rattle.device.specs.Layout.{decode, head_in, Bytes}
use Rattle.device.specs.Modes.{has_job}
use Rattle.device.proofs.Records.{locks_length}
use Rattle.services.specs.Calls.{numbers_of, granted, lent, gated}
use Rattle.services.specs.InPlace.{sound_for}
use Rattle.services.proofs.Gated.{opens}
use Rattle.services.proofs.Outcomes.{held_in, short_cut, cut_open, cut_shut}
use Rattle.services.proofs.cut_as.Goals as goal

pub returns-in_default : goal.returns-in_default
returns-in_default c =
    rw (c.refuse.ensures.value, c.refuse.ensures.reply_after)
    (short_cut (numbers_of c.args.board) c.args.rec.now c.in_default.ensures.cases c.args.flash.now c.args.filler.now c.args.event.now c.args.through)

pub cut_on-requires : goal.cut_on-requires
unfolding decode head_in
cut_on-requires c =
    let k = numbers_of c.args.board in
    let e : gated (sound_for k c.in-Some.rec.now) (lent k c.args.flash.now) (leb 6 (length c.args.event.now)) (eqb (length c.args.filler.now) c.args.board.size) ≡ granted = rw (c.is_sound-sound.ensures, c.is_lent.ensures) at (sym c.gate.ensures ∙ c.in-Ok.is) in
    let o = opens _ _ _ _ e in
    record {
      fitting = (o.whole, eqb-true _ _ o.length);
      job = (rw c.mode.ensures at (via _ _ _ c.has_job.ensures c.if-has_job.true), eqb-true _ _ o.filler);
    }

pub returns-then-has_job : goal.returns-then-has_job
unfolding decode head_in pick
returns-then-has_job c =
    let k = numbers_of c.args.board in
    let l = c.in-Some.rec.now in
    let e : gated (sound_for k l) (lent k c.args.flash.now) (leb 6 (length c.args.event.now)) (eqb (length c.args.filler.now) c.args.board.size) ≡ granted = rw (c.is_sound-sound.ensures, c.is_lent.ensures) at (sym c.gate.ensures ∙ c.in-Ok.is) in
    let h : has_job (decode l).head.mode ≡ true = rw c.mode.ensures at (via _ _ _ c.has_job.ensures c.if-has_job.true) in
    rw (← c.in-Some.ensures.cases.same) (c.cut_on.ensures ∙ sym (cut_open k l c.args.flash.now c.args.filler.now c.args.event.now c.args.through e ∙ rw h))

pub returns-else-has_job : goal.returns-else-has_job
unfolding decode head_in pick
returns-else-has_job c =
    let k = numbers_of c.args.board in
    let l = c.in-Some.rec.now in
    let b : Bytes l = rw c.in-Some.ensures.cases.same (λ i. omega (arith, c.slice_known-1.given i)) in
    let e : gated (sound_for k l) (lent k c.args.flash.now) (leb 6 (length c.args.event.now)) (eqb (length c.args.filler.now) c.args.board.size) ≡ granted = rw (c.is_sound-sound.ensures, c.is_lent.ensures) at (sym c.gate.ensures ∙ c.in-Ok.is) in
    let h : has_job (decode l).head.mode ≡ false = rw c.mode.ensures at (via _ _ _ c.has_job.ensures c.if-has_job.false) in
    let d = held_in k l (opens _ _ _ _ e).whole b in
    rw (← c.in-Some.ensures.cases.same, c.start.ensures.loses (decode l) (locks_length l d.size) d.same, c.start.ensures.event_after (decode l) d.same)
    (sym (cut_open k l c.args.flash.now c.args.filler.now c.args.event.now c.args.through e ∙ rw h))

pub returns-in-Err : goal.returns-in-Err
returns-in-Err c =
    let k = numbers_of c.args.board in
    let l = c.in-Some.rec.now in
    let b : Bytes l = rw c.in-Some.ensures.cases.same (λ i. omega (arith, c.slice_known-1.given i)) in
    let e : gated (sound_for k l) (lent k c.args.flash.now) (leb 6 (length c.args.event.now)) (eqb (length c.args.filler.now) c.args.board.size) ≡ Err _ = rw (c.is_sound-sound.ensures, c.is_lent.ensures) at (sym c.gate.ensures ∙ c.in-Err.is) in
    rw (← c.in-Some.ensures.cases.same, c.refuse-in-Err.ensures.value, c.refuse-in-Err.ensures.reply_after) (cut_shut k l c.args.flash.now c.args.filler.now c.args.event.now c.args.through b _ e)
