use Rattle.std.proofs.Common.{arith, ◌≡◌, sym, ◌∙◌, true, leb, length}
use Rattle.std.specs.Prelude.{Err}
use Rattle.device.specs.Layout.{decode, Bytes}
use Rattle.device.proofs.Records.{locks_length}
use Rattle.services.specs.Calls.{numbers_of, granted, gated}
use Rattle.services.specs.InPlace.{sound_for}
use Rattle.services.proofs.Gated.{opens}
use Rattle.services.proofs.Outcomes.{held_in, short_restarted, restarted_open, restarted_shut}
use Rattle.services.proofs.restart_as.Goals as goal

pub returns-in_default : goal.returns-in_default
returns-in_default c =
    rw (c.refuse.ensures.value, c.refuse.ensures.reply_after)
    (short_restarted (numbers_of c.args.board) c.args.rec.now c.in_default.ensures.cases c.args.event.now)

pub returns-in-Ok : goal.returns-in-Ok
unfolding decode
returns-in-Ok c =
    let k = numbers_of c.args.board in
    let l = c.in-Some.rec.now in
    let b : Bytes l = rw c.in-Some.ensures.cases.same (λ i. omega (arith, c.slice_known-1.given i)) in
    let e : gated (sound_for k l) true (leb 6 (length c.args.event.now)) true ≡ granted = rw c.is_sound.ensures at (sym c.gate.ensures ∙ c.in-Ok.is) in
    let h = held_in k l (opens _ _ _ _ e).whole b in
    rw (← c.in-Some.ensures.cases.same, c.start.ensures.loses (decode l) (locks_length l h.size) h.same, c.start.ensures.event_after (decode l) h.same) (sym (restarted_open k l c.args.event.now e))

pub returns-in-Err : goal.returns-in-Err
returns-in-Err c =
    let k = numbers_of c.args.board in
    let l = c.in-Some.rec.now in
    let b : Bytes l = rw c.in-Some.ensures.cases.same (λ i. omega (arith, c.slice_known-1.given i)) in
    let e : gated (sound_for k l) true (leb 6 (length c.args.event.now)) true ≡ Err _ = rw c.is_sound.ensures at (sym c.gate.ensures ∙ c.in-Err.is) in
    rw (← c.in-Some.ensures.cases.same, c.refuse-in-Err.ensures.value, c.refuse-in-Err.ensures.reply_after) (restarted_shut k l c.args.event.now b _ e)
