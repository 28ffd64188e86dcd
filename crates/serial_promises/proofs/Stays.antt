-- A READER STAYS A READER: from a new one on, whatever bytes come, no call is refused for its reader. Assumes nothing.
use Rattle.std.specs.Prelude.{Option, Some, None}
use Prim.Native.Nat.{ℕ, zero, suc, ◌+◌, ◌-◌, ◌<◌, ◌≤◌}
use mathlib.Core.Path.{◌≡◌, refl, ◌∙◌}
use mathlib.Core.Bool.{Bool, true, false, ◌&&◌, ◌||◌}
use mathlib.Core.List.{List, [], ◌∷◌, ◌++◌}
use native.Mathlib.Omega.{arith}
use lib.Dec.{leb, ltb}
use lib.ListN.{length, drop, length-append, get_or-append}
use borrow.Author.Tests.{ltb-true, ltb-false, eqb-true, leb-true}
use Rattle.basics.specs.Choice.{pick, and_left, and_right, both_true}
use Rattle.basics.specs.Words.{byte_at, zeros}
use Rattle.packet.specs.declared.Command.{Command}
use Rattle.packet.specs.declared.Command.TheVariants.{GetState, FwUpgrade, FwDelete, UpdateAuthKey, LockAuthKey, StoreUsrKey, LoadUsrKey, StartWs, LockUsrKey, UnloadUsrKey, ActivateAntirollback}
use native.Mathlib.Numerals.{add-one}
use lib.Seq.{drop-append_seam}
use Rattle.serial.specs.declared.Unheard.TheVariants.{OutShort, NoReader}
use Rattle.serial.specs.InPlace.{reader_bytes, received_in, all_zero, is_reader, placed_by, refused_by, stepped_in_place}
use Rattle.serial.proofs.Readers.{reader, reader_test, reader_length_lem, received_back}
use Rattle.services.specs.Calls.{Numbers}
use Rattle.serial.specs.declared.Fate.{Fate}
use Rattle.serial.specs.declared.Fate.TheVariants.{More, Right, Whole, Wrong}
use Rattle.serial.specs.Line.{pair_right, opcode_right, address_right, address_checked, is_write, size_right, size_allowed, size_in, command_in, passed_by, is_open, judged, opening_fate, address_fate, data_fate}
use Rattle.serial.specs.Steps.{by_fate, stepped}
use Rattle.serial_promises.specs.WellFormed.{kept}
use Rattle.serial_promises.proofs.Only.{full, kept_right, kept_more, kept_address}

-- the tests that a command under way has passed
record Open (s : List ℕ) : Type 0 where
  pair : passed_by 2 s (pair_right s) ≡ true
  opcode : passed_by 6 s (opcode_right s) ≡ true
  address : passed_by 8 s (address_right s) ≡ true
  written : passed_by 9 s (address_checked s && is_write s) ≡ true
  size : passed_by 11 s (size_right s) ≡ true
  few : ltb (length s) (12 + size_in s) ≡ true

opens : (s : List ℕ) → is_open s ≡ true → Open s
unfolding is_open
opens s e =
    let a = passed_by 2 s (pair_right s) in
    let b = passed_by 6 s (opcode_right s) in
    let c = passed_by 8 s (address_right s) in
    let d = passed_by 9 s (address_checked s && is_write s) in
    let f = passed_by 11 s (size_right s) in
    let g = ltb (length s) (12 + size_in s) in
    let five = and_left (a && b && c && d && f) g e in
    let four = and_left (a && b && c && d) f five in
    let three = and_left (a && b && c) d four in
    let two = and_left (a && b) c three in
    record {
      pair = and_left a b two;
      opcode = and_right a b two;
      address = and_right (a && b) c three;
      written = and_right (a && b && c) d four;
      size = and_right (a && b && c && d) f five;
      few = and_right (a && b && c && d && f) g e;
    }

is_open_lem : (s : List ℕ) → Open s → is_open s ≡ true
unfolding is_open
is_open_lem s o = rw (o.pair, o.opcode, o.address, o.written, o.size, o.few)

or_false : (a b : Bool) → (a || b) ≡ true → a ≡ false → b ≡ true
or_false true b e q = cc
or_false false b e q = e

module _ (s : List ℕ) (b : ℕ) (o : Open s) (k : kept (judged (s ++ (b ∷ []))) ≡ true) where
  len : length (s ++ (b ∷ [])) ≡ length s + 1
  len = length-append s (b ∷ [])

  same : (i : ℕ) → i < length s → byte_at (s ++ (b ∷ [])) i ≡ byte_at s i
  same i h = get_or-append s (b ∷ []) 0 i h

  phase : (n : ℕ) (was now : Bool) → passed_by n s was ≡ true → (n ≤ length s → now ≡ was) → (length (s ++ (b ∷ [])) ≡ n → now ≡ true)
      → passed_by n (s ++ (b ∷ [])) now ≡ true
  phase n was now p agree done = by (ltb (length (s ++ (b ∷ []))) n) refl (ltb (length s) n) refl
    where
      by : (x : Bool) → ltb (length (s ++ (b ∷ []))) n ≡ x → (y : Bool) → ltb (length s) n ≡ y → (ltb (length (s ++ (b ∷ []))) n || now) ≡ true
      by true q y r = rw q
      by false q false r = rw q (agree (ltb-false (length s) n r) ∙ or_false (ltb (length s) n) was p r)
      by false q true r = rw q (done (omega (arith, len, ltb-false (length (s ++ (b ∷ []))) n q, ltb-true (length s) n r)))

  pair_on : passed_by 2 (s ++ (b ∷ [])) (pair_right (s ++ (b ∷ []))) ≡ true
  unfolding judged opening_fate pick
  pair_on = phase 2 (pair_right s) _ o.pair (λ h. rw (same 0 (omega arith), same 1 (omega arith))) (λ e. kept_right _ (rw e at k))

  opcode_on : passed_by 6 (s ++ (b ∷ [])) (opcode_right (s ++ (b ∷ []))) ≡ true
  unfolding judged opening_fate pick
  opcode_on =
      phase 6 (opcode_right s) _ o.opcode
      (λ h. rw (same 0 (omega arith), same 2 (omega arith), same 3 (omega arith), same 4 (omega arith), same 5 (omega arith)))
      (λ e. kept_right _ (rw e at k))

  address_on : passed_by 8 (s ++ (b ∷ [])) (address_right (s ++ (b ∷ []))) ≡ true
  unfolding judged address_fate pick
  address_on = phase 8 (address_right s) _ o.address (λ h. rw (same 6 (omega arith), same 7 (omega arith))) (λ e. kept_more _ (rw e at k))

  written_on : passed_by 9 (s ++ (b ∷ [])) (address_checked (s ++ (b ∷ [])) && is_write (s ++ (b ∷ []))) ≡ true
  unfolding judged address_fate pick
  written_on =
      phase 9 (address_checked s && is_write s) _ o.written
      (λ h. rw (same 0 (omega arith), same 6 (omega arith), same 7 (omega arith), same 8 (omega arith)))
      (λ e. let w = kept_address (address_checked (s ++ (b ∷ []))) (is_write (s ++ (b ∷ []))) (command_in (s ++ (b ∷ []))) (rw e at k) in both_true _ _ w.0 w.1)

  size_on : passed_by 11 (s ++ (b ∷ [])) (size_right (s ++ (b ∷ []))) ≡ true
  unfolding judged data_fate pick
  size_on =
      phase 11 (size_right s) _ o.size
      (λ h. rw (same 0 (omega arith), same 2 (omega arith), same 3 (omega arith), same 9 (omega arith), same 10 (omega arith)))
      (λ e. kept_more _ (rw e at k))

  few_on : ltb (length (s ++ (b ∷ []))) (12 + size_in (s ++ (b ∷ []))) ≡ true
  few_on = by (ltb (length (s ++ (b ∷ []))) (12 + size_in (s ++ (b ∷ [])))) refl
    where
      by : (x : Bool) → ltb (length (s ++ (b ∷ []))) (12 + size_in (s ++ (b ∷ []))) ≡ x → x ≡ true
      by true q = refl
      by false q = absurd (full (s ++ (b ∷ [])) (ltb-false _ _ q) k)

  goes : is_open (s ++ (b ∷ [])) ≡ true
  goes = is_open_lem (s ++ (b ∷ [])) (record { pair = pair_on; opcode = opcode_on; address = address_on; written = written_on; size = size_on; few = few_on })

new_open : is_open [] ≡ true
unfolding is_open
new_open = refl

fate_open : (f : Fate) (k : Numbers) (s l F : List ℕ) → (kept f ≡ true → is_open s ≡ true) → is_open (by_fate f k s l F).received ≡ true
fate_open More k s l F h = h refl
fate_open Right k s l F h = h refl
fate_open Wrong k s l F h = new_open
fate_open (Whole c) k s l F h = new_open

pub stays_open : (k : Numbers) (s l F : List ℕ) (b : ℕ) → is_open s ≡ true → is_open (stepped k s l F b).received ≡ true
stays_open k s l F b e = fate_open (judged (s ++ (b ∷ []))) k (s ++ (b ∷ [])) l F (λ h. goes s b (opens s e) h)

-- the same of a reader's bytes
size_few : (o : Option Command) (n : ℕ) → size_allowed o n ≡ true → n ≤ 65
size_few (Some GetState) n e = absurd (let z : ◌≡◌ {A = ℕ} 0 1 = cc in omega arith)
size_few (Some FwUpgrade) n e = omega (arith, eqb-true n 0 e)
size_few (Some FwDelete) n e = omega (arith, eqb-true n 0 e)
size_few (Some UpdateAuthKey) n e = omega (arith, eqb-true n 65 e)
size_few (Some LockAuthKey) n e = omega (arith, eqb-true n 0 e)
size_few (Some StoreUsrKey) n e = omega (arith, leb-true n 46 (and_right (leb 2 n) (leb n 46) e))
size_few (Some LoadUsrKey) n e = omega (arith, eqb-true n 1 e)
size_few (Some StartWs) n e = omega (arith, eqb-true n 0 e)
size_few (Some LockUsrKey) n e = absurd (let z : ◌≡◌ {A = ℕ} 0 1 = cc in omega arith)
size_few (Some UnloadUsrKey) n e = absurd (let z : ◌≡◌ {A = ℕ} 0 1 = cc in omega arith)
size_few (Some ActivateAntirollback) n e = absurd (let z : ◌≡◌ {A = ℕ} 0 1 = cc in omega arith)
size_few None n e = absurd (let z : ◌≡◌ {A = ℕ} 0 1 = cc in omega arith)

open_few : (s : List ℕ) → Open s → length s ≤ 76
open_few s o = by (ltb (length s) 11) refl
  where
    by : (x : Bool) → ltb (length s) 11 ≡ x → length s ≤ 76
    by true q = omega (arith, ltb-true (length s) 11 q)
    by false q =
        omega (arith, ltb-true (length s) (12 + size_in s) o.few, size_few (command_in s) (size_in s) (or_false (ltb (length s) 11) (size_right s) o.size q))

all_zeros : (n : ℕ) → all_zero (zeros n) ≡ true
unfolding all_zero zeros
all_zeros zero = refl
all_zeros (suc n) = all_zeros n

rest_zero : (s : List ℕ) → all_zero (drop (length s + 1) (reader_bytes s)) ≡ true
unfolding reader_bytes
rest_zero s = rw (add-one, drop-append_seam s (zeros (77 - length s))) (all_zeros (77 - length s))

count_is : (s : List ℕ) → byte_at (reader_bytes s) 0 ≡ length s
unfolding reader_bytes
count_is s = refl

pub reader_of : (s : List ℕ) → is_open s ≡ true → is_reader (reader_bytes s) ≡ true
reader_of s e =
    let few : length s ≤ 76 = open_few s (opens s e) in
    let most : length s ≤ 77 = omega arith in
    reader_test (reader_bytes s) (reader_length_lem s most) (rw count_is few)
    ∙ rw (received_back s most, count_is s) (both_true _ _ e (rest_zero s))

pub stays_reader : (k : Numbers) (l F r : List ℕ) (b : ℕ) (O : List ℕ) → is_reader r ≡ true → is_reader (stepped_in_place k l F r b O).reader ≡ true
unfolding stepped_in_place pick
stays_reader k l F r b O e = by (leb 10 (length O)) (is_reader r) e
  where
    by : (x y : Bool) → y ≡ true
        → is_reader (pick x (pick y (placed_by (stepped k (received_in r) l F b) O) (refused_by NoReader l F r O)) (refused_by OutShort l F r O)).reader ≡ true
    by true true q = reader_of _ (stays_open k (received_in r) l F b (reader r e).going)
    by true false q = e
    by false y q = e

pub new_reads : is_reader (reader_bytes []) ≡ true
new_reads = reader_of [] new_open
