use Rattle.std.proofs.Common.{arith, ap, sym, ◌∙◌, leb-true, eqb-true}
use Rattle.std.specs.Prelude.{Result}
use Rattle.basics.specs.Choice.{pick}
use Rattle.packet.specs.declared.Request.{Request}
use Rattle.packet.specs.declared.Refusal.{Refusal}
use Rattle.device.specs.Layout.{decode, Bytes}
use Rattle.services.specs.Calls.{numbers_of, by_reading}
use Rattle.services.specs.InPlace.{handle_in_bytes}
use Rattle.services.proofs.Gated.{opens, let_in, turned_away}
use Rattle.services.proofs.Outcomes.{sound_in, held_in, refused_in, short_handled, handled_open, handled_shut}
use Rattle.services.proofs.handle_as.Goals as goal

pub returns-in_default : goal.returns-in_default
unfolding pick
returns-in_default c =
    rw (c.refuse.ensures.value, c.refuse.ensures.reply_after)
    (short_handled (numbers_of c.args.board) c.args.rec.now c.in_default.ensures.cases c.args.flash.now c.args.packet.now c.args.reply.now)

pub answer_to-requires : goal.answer_to-requires
answer_to-requires c =
    let k = numbers_of c.args.board in
    let b : Bytes c.in-Some.rec.now = rw c.in-Some.ensures.cases.same (λ i. omega (arith, c.slice_known-1.given i)) in
    let a = let_in _ _ _ (sym c.admit.ensures ∙ c.in-Ok.is) in
    let o = opens _ _ _ _ a.0 in record {
      held = held_in k c.in-Some.rec.now o.whole b;
      taking = record {
        record_sound = sound_in k c.in-Some.rec.now o.whole;
        lent_flash = eqb-true _ _ o.length;
        fitting = leb-true _ _ o.room;
        bytes = λ i. omega (arith, c.type_inv.packet i);
        payload = _;
        reading = a.1;
      };
    }

pub returns-in-Ok : goal.returns-in-Ok
returns-in-Ok c =
    let k = numbers_of c.args.board in
    let l = c.in-Some.rec.now in
    let a = let_in _ _ _ (sym c.admit.ensures ∙ c.in-Ok.is) in
    rw (← c.in-Some.ensures.cases.same)
    (c.answer_to.ensures
    ∙ sym (handled_open k l c.args.flash.now c.args.packet.now c.args.reply.now a.0 ∙ ap (λ (r : Result Request Refusal). handle_in_bytes (by_reading r k (decode l) c.args.flash.now c.args.packet.now c.args.reply.now)) a.1))

pub returns-in-Err : goal.returns-in-Err
returns-in-Err c =
    let k = numbers_of c.args.board in
    let l = c.in-Some.rec.now in
    let b : Bytes l = rw c.in-Some.ensures.cases.same (λ i. omega (arith, c.slice_known-1.given i)) in
    rw (← c.in-Some.ensures.cases.same, c.refuse-in-Err.ensures.value, c.refuse-in-Err.ensures.reply_after)
    (turned_away _ _ _ (sym c.admit.ensures ∙ c.in-Err.is)
    (λ e. handled_shut k l c.args.flash.now c.args.packet.now c.args.reply.now b _ e)
    (λ e q. refused_in k l (opens _ _ _ _ e).whole b _ c.args.flash.now c.args.reply.now
    ∙ sym (handled_open k l c.args.flash.now c.args.packet.now c.args.reply.now e ∙ ap (λ (r : Result Request Refusal). handle_in_bytes (by_reading r k (decode l) c.args.flash.now c.args.packet.now c.args.reply.now)) q)))
