-- The orders of a script: what one line is, for all lines.
use Rattle.std.specs.Prelude.{ℕ, ◌≡◌, true, false, List, Option, Some, None, Result, Ok, Err, eqb, ltb, length, codes}
use Rattle.std.specs.Borrow.{Bor}
use Rattle.std.specs.Str.{bytes_eq}
use Rattle.basics.specs.Choice.{pick}
use Rattle.basics.specs.Words.{byte_at}
use Rattle.line.specs.Hex.{are_pairs}
use Rattle.device.specs.Kind.{sector_count}
use Rattle.script.specs.declared.Order.{Order}
use Rattle.script.specs.declared.Order.TheVariants.{Nothing, Packet, Serial, Restart, Work, Cut, Load, Dump, Map, Record, State, Erase, Fill, Fresh}
use Rattle.script.specs.declared.Fault.{Fault}
use Rattle.script.specs.declared.Fault.TheVariants.{LineLong, NoOrder, PacketLong, NoPairs, SerialLong, NoSerialPairs, NoCount, NoSector, NoByte, NoOutcome, NoFile}
use Rattle.script.specs.Words.{first_of, rest_at, rest_of, place_in, decimal_in, pair_in}

-- an order with its bytes, or what is wrong
abbrev pub Reading : Type 0
Reading = Result (Order (List ℕ)) Fault

-- up to 260 bytes as hex pairs
unfoldable pub pairs_in : List ℕ → Fault → Fault → Result (List ℕ) Fault
pairs_in rest long unpaired = pick (ltb 520 (length rest)) (Err long) (pick (are_pairs rest) (Ok rest) (Err unpaired))

-- packet HEX: a packet
abbrev pub packet_of : Result (List ℕ) Fault → Reading
packet_of (Ok digits) = Ok (Packet digits)
packet_of (Err fault) = Err fault

abbrev pub packet_in : List ℕ → Reading
packet_in rest = packet_of (pairs_in rest PacketLong NoPairs)

-- serial HEX: bytes on the serial line
abbrev pub serial_of : Result (List ℕ) Fault → Reading
serial_of (Ok digits) = Ok (Serial digits)
serial_of (Err fault) = Err fault

abbrev pub serial_in : List ℕ → Reading
serial_in rest = serial_of (pairs_in rest SerialLong NoSerialPairs)

-- work N: 1 to 4294967295 stores
abbrev pub work_of : Option ℕ → Reading
work_of (Some n) = pick (eqb n 0) (Err NoCount) (Ok (Work n))
work_of None = Err NoCount

abbrev pub work_in : List ℕ → Reading
work_in rest = work_of (decimal_in 4294967296 rest)

-- cut HEXBYTE through, cut HEXBYTE not
abbrev pub cut_of : Option ℕ → List ℕ → Reading
cut_of (Some filler) word =
    pick (bytes_eq word (codes "through")) (Ok (Cut filler true)) (pick (bytes_eq word (codes "not")) (Ok (Cut filler false)) (Err NoOutcome))
cut_of None word = Err NoByte

abbrev pub cut_in : List ℕ → Reading
cut_in rest = cut_of (pair_in (first_of rest)) (rest_of rest)

-- load SECTOR FILE: the name is the rest of the line
abbrev pub load_of : Option ℕ → List ℕ → Reading
load_of (Some sector) name = pick (eqb (length name) 0) (Err NoFile) (Ok (Load sector name))
load_of None name = Err NoSector

abbrev pub load_in : List ℕ → Reading
load_in rest = load_of (decimal_in sector_count (first_of rest)) (rest_of rest)

-- dump SECTOR
abbrev pub dump_of : Option ℕ → Reading
dump_of (Some sector) = Ok (Dump sector)
dump_of None = Err NoSector

abbrev pub dump_in : List ℕ → Reading
dump_in rest = dump_of (decimal_in sector_count rest)

-- erase SECTOR
abbrev pub erase_of : Option ℕ → Reading
erase_of (Some sector) = Ok (Erase sector)
erase_of None = Err NoSector

abbrev pub erase_in : List ℕ → Reading
erase_in rest = erase_of (decimal_in sector_count rest)

-- fill SECTOR HEXBYTE
abbrev pub fill_of : Option ℕ → Option ℕ → Reading
fill_of (Some sector) (Some byte) = Ok (Fill sector byte)
fill_of (Some sector) None = Err NoByte
fill_of None byte = Err NoSector

abbrev pub fill_in : List ℕ → Reading
fill_in rest = fill_of (decimal_in sector_count (first_of rest)) (pair_in (rest_of rest))

-- to the flash, by the first word
unfoldable pub flash_order : List ℕ → List ℕ → Reading
flash_order word rest =
    pick (bytes_eq word (codes "load")) (load_in rest)
    (pick (bytes_eq word (codes "dump")) (dump_in rest)
    (pick (bytes_eq word (codes "erase")) (erase_in rest)
    (pick (bytes_eq word (codes "fill")) (fill_in rest) (Err NoOrder))))

-- of several words
unfoldable pub word_order : List ℕ → List ℕ → Reading
word_order word rest =
    pick (bytes_eq word (codes "packet")) (packet_in rest)
    (pick (bytes_eq word (codes "serial")) (serial_in rest)
    (pick (bytes_eq word (codes "work")) (work_in rest)
    (pick (bytes_eq word (codes "cut")) (cut_in rest) (flash_order word rest))))

-- of one word, the whole line, that shows something
unfoldable pub show_order : List ℕ → Reading
show_order s =
    pick (bytes_eq s (codes "map")) (Ok Map)
    (pick (bytes_eq s (codes "record")) (Ok Record)
    (pick (bytes_eq s (codes "state")) (Ok State) (word_order (first_of s) (rest_of s))))

-- of one word
unfoldable pub lone_order : List ℕ → Reading
lone_order s =
    pick (bytes_eq s (codes "restart")) (Ok Restart)
    (pick (bytes_eq s (codes "work")) (Ok (Work 1))
    (pick (bytes_eq s (codes "fresh")) (Ok Fresh) (show_order s)))

-- over 4,400 bytes; empty, or a remark; else an order, or none
unfoldable pub order_of : List ℕ → Reading
order_of s =
    pick (ltb 4400 (length s)) (Err LineLong)
    (pick (eqb (length s) 0) (Ok Nothing)
    (pick (eqb (byte_at s 0) 35) (Ok Nothing) (lone_order s)))

-- an order that lends its bytes from the line, by the bytes themselves
abbrev pub bytes_in : Order (Bor (List ℕ)) → Order (List ℕ)
bytes_in Nothing = Nothing
bytes_in (Packet digits) = Packet digits.now
bytes_in (Serial digits) = Serial digits.now
bytes_in Restart = Restart
bytes_in (Work stores) = Work stores
bytes_in (Cut filler through) = Cut filler through
bytes_in (Load sector name) = Load sector name.now
bytes_in (Dump sector) = Dump sector
bytes_in Map = Map
bytes_in Record = Record
bytes_in State = State
bytes_in (Erase sector) = Erase sector
bytes_in (Fill sector byte) = Fill sector byte
bytes_in Fresh = Fresh

abbrev pub read_as : Result (Order (Bor (List ℕ))) Fault → Reading
read_as (Ok order) = Ok (bytes_in order)
read_as (Err fault) = Err fault

abbrev pub digits_as : Result (Bor (List ℕ)) Fault → Result (List ℕ) Fault
digits_as (Ok digits) = Ok digits.now
digits_as (Err fault) = Err fault

-- where an order's bytes stand in the words behind its first one, which begin at a place: at their start, and a file's name behind the sector
abbrev pub BehindWord : ℕ × ℕ → List ℕ → Result (Order (Bor (List ℕ))) Fault → Type 0
BehindWord begin words (Ok (Packet digits)) = digits.ref_ptr ≡ begin
BehindWord begin words (Ok (Serial digits)) = digits.ref_ptr ≡ begin
BehindWord begin words (Ok (Load sector name)) = name.ref_ptr ≡ place_in begin (rest_at words)
BehindWord begin words (Ok Nothing) = Unit {0}
BehindWord begin words (Ok Restart) = Unit {0}
BehindWord begin words (Ok (Work stores)) = Unit {0}
BehindWord begin words (Ok (Cut filler through)) = Unit {0}
BehindWord begin words (Ok (Dump sector)) = Unit {0}
BehindWord begin words (Ok Map) = Unit {0}
BehindWord begin words (Ok Record) = Unit {0}
BehindWord begin words (Ok State) = Unit {0}
BehindWord begin words (Ok (Erase sector)) = Unit {0}
BehindWord begin words (Ok (Fill sector byte)) = Unit {0}
BehindWord begin words (Ok Fresh) = Unit {0}
BehindWord begin words (Err fault) = Unit {0}

-- the same in the whole line
abbrev pub InLine : ℕ × ℕ → List ℕ → Result (Order (Bor (List ℕ))) Fault → Type 0
InLine begin s result = BehindWord (place_in begin (rest_at s)) (rest_of s) result
