-- (e) A WELL-FORMED COMMAND reaches handle from a new reader, with its packet; (b) so it does whatever came before. Assumes nothing.
use Rattle.std.specs.Prelude.{Some}
use Prim.Native.Nat.{ℕ, suc, ◌+◌, ◌-◌, ◌≤◌}
use mathlib.Core.Path.{◌≡◌, refl, ap, sym, ◌∙◌}
use mathlib.Core.Bool.{true, false}
use mathlib.Core.List.{List, [], ◌∷◌, ◌++◌, append_assoc, append-nil}
use native.Mathlib.Omega.{arith}
use lib.Dec.{eqb, ltb}
use lib.ListN.{length, take, drop, length-append}
use lib.Seq.{get_or_at, take_at, get_or-append-add, take-append-add}
use borrow.Author.Tests.{lt-ltb, le-ltb, le-leb, eq-eqb, ne_eqb}
use Rattle.basics.specs.Choice.{pick, both_true}
use Rattle.basics.specs.Words.{byte_at, zeros}
use Rattle.packet.specs.declared.Command.{Command}
use Rattle.packet.specs.declared.Command.TheVariants.{GetState}
use Rattle.packet.specs.Lawful.{packet_of}
use Rattle.services.specs.Calls.{Numbers}
use Rattle.services.specs.InPlace.{handled_in_place}
use Rattle.serial.specs.declared.Fate.{Fate}
use Rattle.serial.specs.declared.Fate.TheVariants.{More, Right, Whole, Wrong}
use Rattle.serial.specs.Line.{judged, opening_fate, address_fate, data_fate, line_command, size_in, size_allowed, command_in, data_checked, packet_in, whole_if, xor_of}
use Rattle.serial.specs.Steps.{by_fate, after_handle, handled_on}
use Rattle.serial_promises.specs.Streams.{Line, line, onward, after_all, sent_to}
use Rattle.serial_promises.specs.WellFormed.{Written, delete, upgrade, update, lock, store, load, start, WellFormed, read, write, kept, Reaches, last, on}

-- a string that reaches handle is handled, as it was received
kept_line : (f : Fate) (k : Numbers) (s l F : List ℕ) → kept f ≡ true → onward (by_fate f k s l F) ≡ line s l F
kept_line More k s l F e = refl
kept_line Right k s l F e = refl
kept_line Wrong k s l F e = absurd (let z : ◌≡◌ {A = ℕ} 0 1 = cc in omega arith)
kept_line (Whole c) k s l F e = absurd (let z : ◌≡◌ {A = ℕ} 0 1 = cc in omega arith)

pub reached : (k : Numbers) (s bs l F : List ℕ) (c : Command) → Reaches s bs c
    → after_all k bs (line s l F) ≡ onward (after_handle c (handled_on k c (s ++ bs) l F))
unfolding after_all
reached k s [] l F c r = elim r [ ]
reached k s (b ∷ []) l F c (last e) = ap (λ (f : Fate). onward (by_fate f k (s ++ (b ∷ [])) l F)) e
reached k s (b ∷ bs) l F c (on e r) =
    let t = s ++ (b ∷ []) in
    ap (after_all k bs) (kept_line (judged t) k t l F e) ∙ reached k t bs l F c r
    ∙ ap (λ (u : List ℕ). onward (after_handle c (handled_on k c u l F))) (append_assoc s (b ∷ []) bs)

-- a read
read_reaches : Reaches [] (0x50 ∷ 0xAF ∷ 0x00 ∷ 0x54 ∷ 0xFF ∷ 0xAB ∷ 0x00 ∷ 0x00 ∷ 0x00 ∷ []) GetState
unfolding judged opening_fate address_fate data_fate line_command pick
read_reaches = on refl (on refl (on refl (on refl (on refl (on refl (on refl (on refl (last refl))))))))

-- a write: its first nine bytes, the size's two, the data one by one, the XOR
abbrev head_of : ℕ → List ℕ → List ℕ
head_of opcode rest = 0x51 ∷ 0xAE ∷ 0x00 ∷ opcode ∷ 0xFF ∷ (255 - opcode) ∷ 0x00 ∷ 0x00 ∷ 0x00 ∷ rest

abbrev sized : ℕ → ℕ → List ℕ → List ℕ
sized opcode n rest = head_of opcode (0x00 ∷ n ∷ rest)

opening : {c : Command} {opcode least most : ℕ} (rest : List ℕ) → Written c opcode least most → Reaches (head_of opcode (0x00 ∷ [])) rest c → Reaches [] (head_of opcode (0x00 ∷ rest)) c
unfolding judged opening_fate address_fate data_fate line_command pick
opening rest delete r = on refl (on refl (on refl (on refl (on refl (on refl (on refl (on refl (on refl (on refl r)))))))))
opening rest upgrade r = on refl (on refl (on refl (on refl (on refl (on refl (on refl (on refl (on refl (on refl r)))))))))
opening rest update r = on refl (on refl (on refl (on refl (on refl (on refl (on refl (on refl (on refl (on refl r)))))))))
opening rest lock r = on refl (on refl (on refl (on refl (on refl (on refl (on refl (on refl (on refl (on refl r)))))))))
opening rest store r = on refl (on refl (on refl (on refl (on refl (on refl (on refl (on refl (on refl (on refl r)))))))))
opening rest load r = on refl (on refl (on refl (on refl (on refl (on refl (on refl (on refl (on refl (on refl r)))))))))
opening rest start r = on refl (on refl (on refl (on refl (on refl (on refl (on refl (on refl (on refl (on refl r)))))))))

-- which command it is, and that it allows the size
command_is : {c : Command} {opcode least most : ℕ} (rest : List ℕ) → Written c opcode least most → command_in (head_of opcode rest) ≡ Some c
unfolding line_command pick
command_is rest delete = refl
command_is rest upgrade = refl
command_is rest update = refl
command_is rest lock = refl
command_is rest store = refl
command_is rest load = refl
command_is rest start = refl

allowed : {c : Command} {opcode least most : ℕ} (n : ℕ) → Written c opcode least most → least ≤ n → n ≤ most → size_allowed (Some c) n ≡ true
allowed n delete p q = eq-eqb n 0 (omega arith)
allowed n upgrade p q = eq-eqb n 0 (omega arith)
allowed n update p q = eq-eqb n 65 (omega arith)
allowed n lock p q = eq-eqb n 0 (omega arith)
allowed n store p q = both_true _ _ (le-leb 2 n p) (le-leb n 46 q)
allowed n load p q = eq-eqb n 1 (omega arith)
allowed n start p q = eq-eqb n 0 (omega arith)

module _ {c : Command} {opcode least most : ℕ} (w : Written c opcode least most) (n : ℕ) where
  -- the fate from the data's size on, by the number of bytes
  late : (rest : List ℕ) → judged (sized opcode n rest) ≡ data_fate (sized opcode n rest)
  unfolding judged pick
  late rest = rw (le-ltb (length (sized opcode n rest)) 7 (omega arith), le-ltb (length (sized opcode n rest)) 10 (omega arith))

  size_is : (rest : List ℕ) → size_in (sized opcode n rest) ≡ n
  size_is rest = omega arith

  sized_more : least ≤ n → n ≤ most → judged (sized opcode n []) ≡ More
  unfolding data_fate pick
  sized_more p q =
      let right : size_allowed (command_in (sized opcode n [])) (size_in (sized opcode n [])) ≡ true = rw (size_is [], command_is (0x00 ∷ n ∷ []) w) (allowed n w p q) in
      late [] ∙ rw right

  data_more : (d : List ℕ) → 1 ≤ length d → length d ≤ n → judged (sized opcode n d) ≡ More
  unfolding data_fate pick
  data_more d one few =
      let s = sized opcode n d in
      let a : ltb (length s) 11 ≡ false = le-ltb (length s) 11 (omega arith) in
      let b : eqb (length s) 11 ≡ false = ne_eqb (length s) 11 (λ e. omega arith) in
      let g : ltb (length s) (12 + size_in s) ≡ true = lt-ltb (length s) (12 + size_in s) (omega (arith, size_is d)) in
      late d ∙ rw (a, b, g)

  data_whole : (d : List ℕ) → length d ≡ n → judged (sized opcode n (d ++ (xor_of (0x00 ∷ n ∷ d) ∷ []))) ≡ Whole c
  unfolding data_fate pick
  data_whole d e =
      let x = xor_of (0x00 ∷ n ∷ d) in
      let t = d ++ (x ∷ []) in
      let s = sized opcode n t in
      let len : length t ≡ n + 1 = length-append d (x ∷ []) ∙ ap (λ (m : ℕ). m + 1) e in
      let a : ltb (length s) 11 ≡ false = le-ltb (length s) 11 (omega arith) in
      let b : eqb (length s) 11 ≡ false = ne_eqb (length s) 11 (λ q. omega (arith, len)) in
      let g : ltb (length s) (12 + size_in s) ≡ false = le-ltb (length s) (12 + size_in s) (omega (arith, len, size_is t)) in
      let seen : byte_at s (11 + size_in s) ≡ x = ap (λ (m : ℕ). byte_at s (11 + m)) (size_is t) ∙ get_or-append-add (sized opcode n []) t n 0 ∙ get_or_at d x [] 0 n e in
      let parts : take (2 + size_in s) (drop 9 s) ≡ 0x00 ∷ n ∷ d =
      ap (λ (m : ℕ). take (2 + m) (drop 9 s)) (size_is t) ∙ take-append-add (0x00 ∷ n ∷ []) t n ∙ ap (λ (u : List ℕ). 0x00 ∷ n ∷ u) (take_at d (x ∷ []) n e) in
      let right : data_checked s ≡ true = rw (seen, parts) (eq-eqb x x refl) in
      let command : whole_if (command_in s) ≡ Whole c = ap whole_if (command_is (0x00 ∷ n ∷ t) w) in
      late t ∙ rw (a, b, g, right, command)

  data_reaches : (d rest all : List ℕ) → d ++ rest ≡ all → length all ≡ n → Reaches (sized opcode n d) (rest ++ (xor_of (0x00 ∷ n ∷ all) ∷ [])) c
  data_reaches d [] all e len =
      let same : d ≡ all = sym (append-nil d) ∙ e in
      last (ap (λ (u : List ℕ). judged (sized opcode n (u ++ (xor_of (0x00 ∷ n ∷ all) ∷ [])))) same ∙ data_whole all len)
  data_reaches d (b ∷ rest) all e len =
      let whole : length d + suc (length rest) ≡ n = sym (length-append d (b ∷ rest)) ∙ ap length e ∙ len in
      let one : length (d ++ (b ∷ [])) ≡ length d + 1 = length-append d (b ∷ []) in
      on (ap kept (data_more (d ++ (b ∷ [])) (omega arith) (omega arith))) (data_reaches (d ++ (b ∷ [])) rest all (append_assoc d (b ∷ []) rest ∙ e) len)

-- (e) every well-formed command reaches handle from a new reader ..
pub reaches : (bs : List ℕ) (c : Command) (payload : List ℕ) → WellFormed bs c payload → Reaches [] bs c
reaches bs c payload read = read_reaches
reaches bs c payload (write p w lo hi) =
    opening (length p ∷ (p ++ (xor_of (0x00 ∷ length p ∷ p) ∷ []))) w
    (on (ap kept (sized_more w (length p) lo hi)) (data_reaches w (length p) [] p p refl refl))

-- .. with its packet
pub its_packet : (bs : List ℕ) (c : Command) (payload : List ℕ) → WellFormed bs c payload → packet_in c bs ≡ packet_of c payload
its_packet bs c payload read = refl
its_packet bs c payload (write p w lo hi) =
    let x = xor_of (0x00 ∷ length p ∷ p) in
    let t = p ++ (x ∷ []) in
    ap (λ (u : List ℕ). packet_of c u) (ap (λ (m : ℕ). take m t) (size_is w (length p) t) ∙ take_at p (x ∷ []) (length p) refl)

pub handled_from_new : (k : Numbers) (bs l F : List ℕ) (c : Command) (payload : List ℕ) → WellFormed bs c payload
    → after_all k bs (line [] l F) ≡ onward (after_handle c (handled_in_place k l F (packet_of c payload) (zeros 8)))
handled_from_new k bs l F c payload w =
    reached k [] bs l F c (reaches bs c payload w)
    ∙ ap (λ (p : List ℕ). onward (after_handle c (handled_in_place k l F p (zeros 8)))) (its_packet bs c payload w)

-- (b) WHATEVER CAME BEFORE, a good command that begins when the reader is new is answered as on a line that never saw damage, and its effect
-- is exactly handle's on its packet
pub record Answered (k : Numbers) (x : Line) (bs : List ℕ) (c : Command) (payload : List ℕ) : Type 0 where
  pub answers : sent_to k bs x ≡ sent_to k bs (line [] x.bytes x.flash)
  pub effect : after_all k bs x ≡ onward (after_handle c (handled_in_place k x.bytes x.flash (packet_of c payload) (zeros 8)))

pub good_command : (k : Numbers) (before bs : List ℕ) (x : Line) (c : Command) (payload : List ℕ) → (after_all k before x).received ≡ []
    → WellFormed bs c payload → Answered k (after_all k before x) bs c payload
good_command k before bs x c payload new w =
    let y = after_all k before x in
    let same : y ≡ line [] y.bytes y.flash = ap (λ (s : List ℕ). line s y.bytes y.flash) new in
    record {
      answers = ap (sent_to k bs) same;
      effect = ap (after_all k bs) same ∙ handled_from_new k bs y.bytes y.flash c payload w;
    }
