-- Answers as the C host has them: 0 is taken, else the refusal's number; a refused read gives opcode 0 and length 0.
use Rattle.std.specs.Prelude.{ℕ, Result, Ok, Err}
use Rattle.packet.specs.declared.Refusal.{Refusal}
use Rattle.packet.specs.declared.Request.{Request}
use Rattle.packet.specs.Packets.{number_of, opcode_of}
use Rattle.serial.specs.declared.Unheard.TheVariants.{OutShort, NoReader}
use Rattle.serial.specs.InPlace.{Heard}
use Rattle.services.specs.Calls.{Verdict}

abbrev pub number_for : Verdict → ℕ
number_for (Ok done) = 0
number_for (Err refusal) = number_of refusal

abbrev pub read_number : Result Request Refusal → ℕ
read_number (Ok request) = 0
read_number (Err refusal) = number_of refusal

abbrev pub read_opcode : Result Request Refusal → ℕ
read_opcode (Ok request) = opcode_of request.command
read_opcode (Err refusal) = 0

abbrev pub read_length : Result Request Refusal → ℕ
read_length (Ok request) = request.length
read_length (Err refusal) = 0

-- the line's answers: 3 as every short buffer, 19 for bytes that are no reader's
abbrev pub heard_number : Heard → ℕ
heard_number (Ok done) = 0
heard_number (Err OutShort) = 3
heard_number (Err NoReader) = 19
