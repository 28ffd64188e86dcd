-- Paper 01, the small program that reads one packet a line in hex: the line that answers a line.
use Rattle.std.specs.Prelude.{ℕ, ◌≤◌, ◌≡◌, List, [], ◌∷◌, ◌++◌, Result, Ok, Err, leb, length, take}
use Rattle.basics.specs.Choice.{pick}
use Rattle.packet.specs.declared.Refusal.{Refusal}
use Rattle.packet.specs.declared.Request.{Request}
use Rattle.packet.specs.Packets.{number_of, opcode_of, read_of}
use Rattle.line.specs.Hex.{are_pairs, bytes_of, hex_of, decimal_of}

-- "ok", opcode, payload length
abbrev pub ok_line : ℕ → ℕ → List ℕ
ok_line opcode n = 111 ∷ 107 ∷ 32 ∷ (hex_of opcode ++ (32 ∷ (decimal_of n ++ (10 ∷ []))))

-- "no" and the refusal
abbrev pub no_line : ℕ → List ℕ
no_line n = 110 ∷ 111 ∷ 32 ∷ (decimal_of n ++ (10 ∷ []))

-- "bad"
abbrev pub bad_line : List ℕ
bad_line = 98 ∷ 97 ∷ 100 ∷ 10 ∷ []

abbrev pub line_of : Result Request Refusal → List ℕ
line_of (Ok request) = ok_line (opcode_of request.command) request.length
line_of (Err refusal) = no_line (number_of refusal)

-- over 520 digits or no hex pairs: bad; an empty line is an empty packet
unfoldable pub answer_of : List ℕ → List ℕ
answer_of s = pick (leb (length s) 520) (pick (are_pairs s) (line_of (read_of (bytes_of s))) bad_line) bad_line

-- n counts bytes at the start of s. The second part follows from the first; both are there so that `&bytes[..n]` asks no proof of a caller.
abbrev pub Counted : ℕ → List ℕ → Type 0
Counted n s = (n ≤ length s) × (n ≡ length (take n s))
