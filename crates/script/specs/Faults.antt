-- What is wrong with a line, in words.
use Rattle.std.specs.Prelude.{ℕ, List, codes}
use Rattle.script.specs.declared.Fault.{Fault}
use Rattle.script.specs.declared.Fault.TheVariants.{LineLong, NoOrder, PacketLong, NoPairs, SerialLong, NoSerialPairs, NoCount, NoSector, NoByte, NoOutcome, NoFile}

abbrev pub fault_text : Fault → List ℕ
fault_text LineLong = codes "bad line: over 4400 bytes"
fault_text NoOrder = codes "bad order: unknown"
fault_text PacketLong = codes "bad packet: over 260 bytes"
fault_text NoPairs = codes "bad packet: no hex pairs"
fault_text SerialLong = codes "bad serial: over 260 bytes"
fault_text NoSerialPairs = codes "bad serial: no hex pairs"
fault_text NoCount = codes "bad count: 1 to 4294967295"
fault_text NoSector = codes "bad sector: 0 to 243"
fault_text NoByte = codes "bad byte: two hex digits"
fault_text NoOutcome = codes "bad word: through or not"
fault_text NoFile = codes "bad file: no name"
