use Rattle.std.proofs.Common.{arith, ◌≡◌, ◌∙◌, refl, get_or}
use Rattle.basics.specs.Words.{low, high}
use Rattle.packet.specs.Packets.{opcode_of}
use Rattle.reply.proofs.Laws.{with_payload, without_payload}
use Rattle.reply.proofs.write_response.Goals as goal
use Rattle.reply.proofs.write_response.Goals.{then-has_payload, else-has_payload}

pub returns-clause-reply_after : goal.returns-clause-reply_after
returns-clause-reply_after c =
    let l : get_or c.to_le_bytes.result 0 0 ≡ low (opcode_of c.args.command) = rw c.to_le_bytes.ensures (omega (arith, c.from.ensures)) in
    let h : get_or c.to_le_bytes.result 1 0 ≡ high (opcode_of c.args.command) = rw c.to_le_bytes.ensures (omega (arith, c.from.ensures)) in
    c.put.ensures.buffer_after
    ∙ elim c.if-has_payload.branch [
      | then-has_payload w ↦ rw (w.length-is, w.last-is, l, h) (with_payload _ _ _ _ refl c.has_payload.ensures w.if-has_payload.true)
      | else-has_payload w ↦ rw (w.length-is, w.last-is, l, h) (without_payload _ _ _ _ refl c.has_payload.ensures w.if-has_payload.false)
    ]
