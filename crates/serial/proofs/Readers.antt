-- A reader's bytes and what they hold, one to one; a byte that joins them; the packet made of them. Assumes nothing.
use Prim.Native.Nat.{ℕ, zero, suc, ◌+◌, ◌-◌, ◌<◌, ◌≤◌}
use mathlib.Core.Path.{◌≡◌, refl, ap, sym, subst, ◌∙◌}
use mathlib.Core.Bool.{Bool, true, false, ◌&&◌}
use mathlib.Core.Logic.{◌⊎◌, inl, inr}
use mathlib.Core.List.{List, [], ◌∷◌, ◌++◌, append_assoc}
use native.Mathlib.Numerals.{add-one}
use native.Mathlib.Omega.{arith}
use lib.Dec.{leb, eqb}
use lib.ListN.{length, take, drop, set, length-append, length-drop, take-append-drop, get_or-eq_default}
use lib.Seq.{length-take-le, take-append_seam, set-append_seam, take-append-le, drop-append-le, drop_at, drop-drop}
use borrow.Author.Tests.{eq-eqb, le-leb, eqb-true, leb-true, ltb-true, ltb-false}
use Rattle.basics.specs.Choice.{pick, and_left, and_right}
use Rattle.basics.specs.Words.{byte_at, zeros, low, high}
use Rattle.basics.proofs.Words.{length_zeros}
use Rattle.packet.specs.declared.Command.{Command}
use Rattle.packet.specs.Packets.{opcode_of}
use Rattle.serial.specs.declared.Fate.TheVariants.{More, Right, Whole, Wrong}
use Rattle.serial.specs.Line.{size_in, data_in, packet_in, is_open, opening_fate, data_fate, judged}
use Rattle.serial.specs.InPlace.{reader_bytes, received_in, all_zero, is_reader, Filled}

-- bytes that are all zero
pub zeros_of : (s : List ℕ) → all_zero s ≡ true → s ≡ zeros (length s)
unfolding all_zero zeros
zeros_of [] e = refl
zeros_of (b ∷ s) e =
    let first : b ≡ 0 = eqb-true b 0 (and_left (eqb b 0) (all_zero s) e) in
    let rest : s ≡ zeros (length s) = zeros_of s (and_right (eqb b 0) (all_zero s) e) in
    rw first (ap (λ (l : List ℕ). 0 ∷ l) rest)

-- zeros behind a list are what is read past its end
pub read_zeros : (s : List ℕ) (m i : ℕ) → byte_at (s ++ zeros m) i ≡ byte_at s i
unfolding zeros
read_zeros [] zero i = refl
read_zeros [] (suc m) zero = refl
read_zeros [] (suc m) (suc i) = read_zeros [] m i
read_zeros (b ∷ s) m zero = refl
read_zeros (b ∷ s) m (suc i) = read_zeros s m i

-- a reader holds what it was made of
module _ (s : List ℕ) (few : length s ≤ 77) where
  pub reader_length_lem : length (reader_bytes s) ≡ 78
  unfolding reader_bytes
  reader_length_lem = rw (length-append, length_zeros) (omega arith)

  pub received_back : received_in (reader_bytes s) ≡ s
  unfolding reader_bytes
  received_back = take-append_seam s (zeros (77 - length s))

  pub filled : Filled (reader_bytes s)
  filled = record { same = rw received_back; few = rw received_back few }

-- what the test of a reader says
pub record Reader (r : List ℕ) : Type 0 where
  pub whole : length r ≡ 78
  pub few : byte_at r 0 ≤ 76
  pub going : is_open (received_in r) ≡ true
  pub rest : all_zero (drop (byte_at r 0 + 1) r) ≡ true

pub reader : (r : List ℕ) → is_reader r ≡ true → Reader r
unfolding is_reader pick
reader r e = by (eqb (length r) 78) refl (leb (byte_at r 0) 76) refl (is_open (received_in r)) refl e
  where
    by : (a : Bool) → eqb (length r) 78 ≡ a → (b : Bool) → leb (byte_at r 0) 76 ≡ b → (c : Bool) → is_open (received_in r) ≡ c
        → pick a (pick b (c && all_zero (drop (byte_at r 0 + 1) r)) false) false ≡ true → Reader r
    by true p true q true o z = record { whole = eqb-true _ _ p; few = leb-true _ _ q; going = o; rest = z }
    by true p true q false o z = absurd (let w : ◌≡◌ {A = ℕ} 0 1 = cc in omega arith)
    by true p false q c o z = absurd (let w : ◌≡◌ {A = ℕ} 0 1 = cc in omega arith)
    by false p b q c o z = absurd (let w : ◌≡◌ {A = ℕ} 0 1 = cc in omega arith)

pub reader_test : (r : List ℕ) → length r ≡ 78 → byte_at r 0 ≤ 76 → is_reader r ≡ (is_open (received_in r) && all_zero (drop (byte_at r 0 + 1) r))
unfolding is_reader pick
reader_test r w f = rw (eq-eqb (length r) 78 w, le-leb (byte_at r 0) 76 f)

-- a reader's bytes are those of what it holds
pub count_of : (r : List ℕ) → length r ≡ 78 → byte_at r 0 ≤ 77 → length (received_in r) ≡ byte_at r 0
count_of r w h = length-take-le (byte_at r 0) (drop 1 r) (rw length-drop (omega arith))

pub one_to_one : (r : List ℕ) → is_reader r ≡ true → r ≡ reader_bytes (received_in r)
unfolding reader_bytes
one_to_one [] e = absurd (omega (arith, (reader [] e).whole))
one_to_one (n ∷ t) e =
    let x : Reader (n ∷ t) = reader (n ∷ t) e in
    let w : length t ≡ 77 = omega (arith, x.whole) in
    let c : length (take n t) ≡ n = count_of (n ∷ t) x.whole (omega (arith, x.few)) in
    let r : all_zero (drop n t) ≡ true = rw add-one at x.rest in
    let z : drop n t ≡ zeros (77 - n) = rw (length-drop, w) at (zeros_of (drop n t) r) in
    rw (c, ← z) (ap (λ (l : List ℕ). n ∷ l) (sym (take-append-drop n t)))

-- a byte joins what a reader holds
pub joined_in : (s : List ℕ) (b : ℕ) → length s ≤ 76 → set (set (reader_bytes s) (length s + 1) b) 0 (length s + 1) ≡ reader_bytes (s ++ (b ∷ []))
unfolding reader_bytes zeros
joined_in s b h =
    let e : 77 - length s ≡ suc (76 - length s) = omega arith in
    let q : 77 - suc (length s) ≡ 76 - length s = omega arith in
    let n : length (s ++ (b ∷ [])) ≡ suc (length s) = length-append s (b ∷ []) ∙ add-one (length s) in
    rw (n, add-one, e, q, append_assoc) (ap (λ (l : List ℕ). suc (length s) ∷ l) (set-append_seam s 0 (zeros (76 - length s)) b))

pub taken_in : (r : List ℕ) (b : ℕ) → is_reader r ≡ true → set (set r (byte_at r 0 + 1) b) 0 (byte_at r 0 + 1) ≡ reader_bytes (received_in r ++ (b ∷ []))
taken_in r b e =
    let x : Reader r = reader r e in
    let n : length (received_in r) ≡ byte_at r 0 = count_of r x.whole (omega (arith, x.few)) in
    rw n at (rw (← one_to_one r e) at (joined_in (received_in r) b (rw n x.few)))

-- by cases of a choice
pub by_pick : {A : Type 0} {P : Type 0} (t : Bool) (x y z : A) → pick t x y ≡ z → (t ≡ true → x ≡ z → P) → (t ≡ false → y ≡ z → P) → P
unfolding pick
by_pick true x y z e f g = f refl e
by_pick false x y z e f g = g refl e

-- where a command is whole: a read at 9 bytes, a write with all its data
pub more_whole : {P : Type 0} (c : Command) → More ≡ Whole c → P
more_whole c e = absurd (let z : ◌≡◌ {A = ℕ} 0 1 = cc in omega arith)

pub right_whole : {P : Type 0} (c : Command) → Right ≡ Whole c → P
right_whole c e = absurd (let z : ◌≡◌ {A = ℕ} 0 1 = cc in omega arith)

pub wrong_whole : {P : Type 0} (c : Command) → Wrong ≡ Whole c → P
wrong_whole c e = absurd (let z : ◌≡◌ {A = ℕ} 0 1 = cc in omega arith)

module _ (s : List ℕ) (c : Command) where
  pub opening_never : opening_fate s ≡ Whole c → ⊥
  unfolding opening_fate
  opening_never e =
      by_pick _ _ _ _ e (λ _ q. more_whole c q)
      (λ _ a. by_pick _ _ _ _ a (λ _ q. by_pick _ _ _ _ q (λ _ p. right_whole c p) (λ _ p. wrong_whole c p))
      (λ _ b. by_pick _ _ _ _ b (λ _ q. more_whole c q)
      (λ _ q. by_pick _ _ _ _ q (λ _ p. right_whole c p) (λ _ p. wrong_whole c p))))

  pub data_end : data_fate s ≡ Whole c → 12 + size_in s ≤ length s
  unfolding data_fate
  data_end e =
      by_pick _ _ _ _ e (λ _ q. more_whole c q)
      (λ _ a. by_pick _ _ _ _ a (λ _ q. by_pick _ _ _ _ q (λ _ p. more_whole c p) (λ _ p. wrong_whole c p))
      (λ _ b. by_pick _ _ _ _ b (λ _ q. more_whole c q) (λ t _. ltb-false _ _ t)))

  pub whole_at : judged s ≡ Whole c → (length s ≤ 9) ⊎ (12 + size_in s ≤ length s)
  unfolding judged
  whole_at e =
      by_pick _ _ _ _ e (λ _ q. absurd (opening_never q))
      (λ _ a. by_pick _ _ _ _ a (λ t _. inl (let h : length s < 10 = ltb-true _ _ t in omega arith)) (λ _ q. inr (data_end q)))

  -- its data: how many they are, and where they stand in the reader
  pub record Data : Type 0 where
    pub small : size_in s ≤ 65
    pub one : byte_at s 10 ≡ size_in s
    pub all : length (data_in s) ≡ size_in s
    pub there : (t : List ℕ) → take (size_in s) (drop 11 (s ++ t)) ≡ data_in s

  pub data_of : length s ≤ 77 → judged s ≡ Whole c → Data
  data_of few e = by (whole_at e)
    where
      past : (n : ℕ) → length s ≤ n → byte_at s n ≡ 0
      past n h = get_or-eq_default s 0 h

      by : (length s ≤ 9) ⊎ (12 + size_in s ≤ length s) → Data
      by (inl h) =
          let none : size_in s ≡ 0 = rw (past 9 h, past 10 (omega arith)) in
          record { small = omega arith; one = rw none (past 10 (omega arith)); all = rw none; there = λ t. rw none }
      by (inr h) =
          let within : size_in s ≤ length (drop 11 s) = rw length-drop (omega arith) in
          record {
            small = omega arith;
            one = omega arith;
            all = length-take-le _ _ within;
            there = λ t. let g : 11 ≤ length s = omega arith in rw (drop-append-le 11 s t g, take-append-le _ (drop 11 s) t within);
          }

-- THE PACKET, made where the data stand: s with zeros behind it, the head put four bytes before the data
pub packet_made : (s : List ℕ) (c : Command) → length s ≤ 77 → judged s ≡ Whole c → (n : ℕ) → n ≡ byte_at (reader_bytes s) 11
    → take (12 + n - 8) (drop 8 (take 8 (reader_bytes s) ++ ((0x10 ∷ low (opcode_of c) ∷ high (opcode_of c) ∷ n ∷ []) ++ drop 4 (drop 8 (reader_bytes s))))) ≡ packet_in c s
unfolding reader_bytes
packet_made s c few e n q =
    let d : Data s c = data_of s c few e in
    let size : n ≡ size_in s = q ∙ read_zeros s (77 - length s) 10 ∙ d.one in
    let eight : length (take 8 (reader_bytes s)) ≡ 8 = length-take-le 8 (reader_bytes s) (rw (reader_length_lem s few) (omega arith)) in
    let four : 12 + n - 8 ≡ suc (suc (suc (suc n))) = omega arith in
    rw (drop_at _ _ 8 eight, four, size, drop-drop 4 7 (s ++ zeros (77 - length s)), d.there (zeros (77 - length s)), d.all)

-- the same over the reader's bytes as they are
module _ (r : List ℕ) (f : Filled r) where
  pub filled_count : byte_at r 0 ≡ length (received_in r)
  unfolding reader_bytes
  filled_count = ap (λ (l : List ℕ). byte_at l 0) f.same

  module _ (c : Command) (e : judged (received_in r) ≡ Whole c) where
    pub packet_end : 12 + byte_at r 11 ≤ 77
    unfolding reader_bytes
    packet_end =
        let s = received_in r in
        let d : Data s c = data_of s c f.few e in
        let q : byte_at r 11 ≡ byte_at s 10 = ap (λ (l : List ℕ). byte_at l 11) f.same ∙ read_zeros s (77 - length s) 10 in
        omega (arith, d.small, d.one)

    pub packet_in_lem : (n : ℕ) → n ≡ byte_at r 11
        → take (12 + n - 8) (drop 8 (take 8 r ++ ((0x10 ∷ low (opcode_of c) ∷ high (opcode_of c) ∷ n ∷ []) ++ drop 4 (drop 8 r)))) ≡ packet_in c (received_in r)
    packet_in_lem n q =
        let p : n ≡ byte_at (reader_bytes (received_in r)) 11 = q ∙ ap (λ (l : List ℕ). byte_at l 11) f.same in
        subst (λ (l : List ℕ). take (12 + n - 8) (drop 8 (take 8 l ++ ((0x10 ∷ low (opcode_of c) ∷ high (opcode_of c) ∷ n ∷ []) ++ drop 4 (drop 8 l)))) ≡ packet_in c (received_in r))
        (sym f.same) (packet_made (received_in r) c f.few e n p)
