use Rattle.std.proofs.Common.{arith, ◌≡◌}
use Rattle.basics.specs.Choice.{cases}
use Rattle.basics.specs.Words.{half_at}
use Rattle.packet.specs.Packets.{read_of}
use Rattle.packet.proofs.read.Goals as goal

pub returns : goal.returns
unfolding read_of
returns c =
    let opcode : c.from_le_bytes.result ≡ half_at c.args.s.now 1 = omega (arith, c.from_le_bytes.ensures) in
    rw (c.judge.ensures, opcode) (search cases)
