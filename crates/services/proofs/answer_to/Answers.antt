use Rattle.device.specs.Layout.{decode}
use Rattle.services.specs.Calls.{numbers_of}
use Rattle.services.proofs.Laws.{sensible, boundary_low, erasable, auth_bytes}
use Rattle.services.proofs.Outcomes.{answer_of_lem, bytes_of}
use Rattle.services.proofs.answer_to.Goals as goal

pub look_for-checked-requires : goal.look_for-checked-requires
look_for-checked-requires c = (boundary_low _ _ _ c.requires.taking.record_sound, c.requires.taking.lent_flash)

pub command-answer-requires : goal.command-answer-requires
command-answer-requires c = record {
  held = c.requires.held;
  key_len = λ u. rw c.key_in.ensures (auth_bytes _ _ _ c.requires.taking.bytes c.requires.taking.reading u);
}

pub clear_after-requires : goal.clear_after-requires
clear_after-requires c =
    let d = decode c.args.rec.now in
    let board = c.args.board in
    rw c.look_for-checked.ensures
    (erasable (numbers_of board) d.head c.args.command d.key c.args.flash.now (sensible board) (boundary_low board.size board.top d c.requires.taking.record_sound) c.requires.taking.lent_flash)

pub returns : goal.returns
unfolding decode
returns c =
    rw (
      bytes_of _ _ _ _ _ c.command-answer.ensures,
      c.reason.ensures,
      c.respond.ensures,
      answer_of_lem _ _ _ _ _ c.command-answer.ensures,
      c.clear_after.ensures,
      c.key_in.ensures,
      c.byte_at-first.ensures,
      c.look_for-checked.ensures,
    )
