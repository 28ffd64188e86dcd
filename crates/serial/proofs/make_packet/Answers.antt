use mathlib.Core.Path.{◌≡◌, refl}
use native.Mathlib.Omega.{arith}
use Prim.Native.Nat.{◌+◌, ◌≤◌, ◌/◌, ◌%◌}
use Rattle.basics.specs.Words.{byte_at}
use Rattle.packet.specs.Packets.{opcode_of}
use Rattle.serial.proofs.Readers.{packet_end, packet_in_lem}
use Rattle.serial.proofs.make_packet.Goals as goal

pub slice_bounds-result-end : goal.slice_bounds-result-end
slice_bounds-result-end c =
    let end : 12 + byte_at c.args.reader.now 11 ≤ 78 = omega (arith, packet_end c.args.reader.now c.requires.filled _ c.requires.reader_value) in
    end

pub returns : goal.returns
returns c =
    let high : opcode_of c.args.command / 256 % 256 ≡ opcode_of c.args.command / 256 = omega (arith, c.from.type_inv, c.from.ensures) in
    rw (c.copy_from_slice.ensures.after, c.to_le_bytes.ensures, c.from.ensures, high)
    (packet_in_lem c.args.reader.now c.requires.filled _ c.requires.reader_value _ refl)
