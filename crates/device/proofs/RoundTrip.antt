-- Devices and records are one to one: what is decoded of an encoded device is the device, and a record's bytes are those of the device
-- that is decoded.
use Prim.Native.Nat.{ℕ, zero, suc, ◌+◌, ◌*◌, ◌/◌, ◌%◌, ◌<◌, ◌≤◌}
use mathlib.Core.Path.{◌≡◌, refl, ap, sym}
use mathlib.Core.Bool.{Bool, true, false, ◌&&◌, ◌||◌}
use mathlib.Core.List.{List, [], ◌∷◌, ◌++◌}
use native.Mathlib.Omega.{arith}
use borrow.Author.Tests.{eqb-true, leb-true, eq-eqb}
use lib.Dec.{eqb, leb}
use lib.ListN.{length, take, drop, length-append, take-append-drop}
use lib.Seq.{take_at, take_all, drop-append-add, drop-cons}
use Rattle.basics.specs.Choice.{pick, and_left, and_right}
use Rattle.basics.specs.Words.{byte_at, word_at, joined, flag}
use Rattle.basics.proofs.Words.{unword, flag_small}
use Rattle.device.specs.Types.{Device}
use Rattle.device.specs.declared.Mode.{Mode}
use Rattle.device.specs.declared.Mode.TheVariants.{Stack, Idle, Upgrade, Delete}
use Rattle.device.specs.Whole.{Shaped}
use Rattle.device.specs.Layout.{record_length, locks_at, tag_of, p_of, size_of, version_of, head_bytes, encode, Bounded, mode_of, head_in, locks_in, auth_in, kinds_in, sizes_in, keys_in, decode, Bytes, is_head, is_record, asked_at, auth_at, image_at, image_version_at, locked_at, mode_at, present_at, recorded_at, rollback_at, size_at}
use Rattle.device.specs.Modes.{recorded_in}
use Rattle.device.proofs.Records.{after_head, head_length}

-- A DEVICE, ENCODED AND DECODED
unflag : (b : Bool) → eqb (flag b) 1 ≡ b
unflag true = refl
unflag false = refl

unmode : (m : Mode) → mode_of (tag_of m) (p_of m) (size_of m) (version_of m) (recorded_in m) ≡ m
unfolding pick
unmode Stack = refl
unmode Idle = refl
unmode (Upgrade p size version recorded) = refl
unmode (Delete recorded) = refl

skip : (n m : ℕ) (xs ys : List ℕ) → length xs ≡ n → drop (n + m) (xs ++ ys) ≡ drop m ys
skip n m xs ys e = rw (← e, drop-append-add xs ys m)

tag_small : (m : Mode) → leb (tag_of m) 3 ≡ true
tag_small Stack = refl
tag_small Idle = refl
tag_small (Upgrade p size version recorded) = refl
tag_small (Delete recorded) = refl

no_image : (m : Mode) → (eqb (tag_of m) 2 || (eqb (p_of m) 0 && eqb (size_of m) 0 && eqb (version_of m) 0)) ≡ true
no_image Stack = refl
no_image Idle = refl
no_image (Upgrade p size version recorded) = refl
no_image (Delete recorded) = refl

no_job : (m : Mode) → (leb 2 (tag_of m) || eqb (recorded_in m) 0) ≡ true
no_job Stack = refl
no_job Idle = refl
no_job (Upgrade p size version recorded) = refl
no_job (Delete recorded) = refl

module _ (d : Device) (s : Shaped d) (w : Bounded d.head) where
  head_back : head_in (encode d) ≡ d.head
  unfolding encode head_bytes head_in
  head_back =
      rw (
        unflag d.head.present,
        unflag d.head.auth,
        unflag d.head.locked,
        unflag d.head.rollback,
        unflag d.head.asked,
        unword d.head.version w.version,
        unword d.head.sectors w.sectors,
        unword d.head.boundary w.boundary,
        unword d.head.floor w.floor,
        unword (p_of d.head.mode) w.p,
        unword (size_of d.head.mode) w.size,
        unword (version_of d.head.mode) w.image,
        unword (recorded_in d.head.mode) w.recorded,
        unmode d.head.mode,
      )

  locks_back : locks_in (encode d) ≡ d.locks
  unfolding encode head_bytes
  locks_back = take_at d.locks _ 101 s.locks

  auth_back : auth_in (encode d) ≡ d.key
  unfolding encode head_bytes
  auth_back = rw (skip 101 0 d.locks _ s.locks) (take_at d.key _ 64 s.key)

  kinds_back : kinds_in (encode d) ≡ d.kinds
  unfolding encode head_bytes
  kinds_back = rw (skip 101 64 d.locks _ s.locks, skip 64 0 d.key _ s.key) (take_at d.kinds _ 101 s.kinds)

  sizes_back : sizes_in (encode d) ≡ d.sizes
  unfolding encode head_bytes
  sizes_back =
      rw (skip 101 (64 + 101) d.locks _ s.locks, skip 64 101 d.key _ s.key, skip 101 0 d.kinds _ s.kinds)
      (take_at d.sizes _ 101 s.sizes)

  keys_back : keys_in (encode d) ≡ d.bytes
  unfolding encode head_bytes
  keys_back =
      rw (
        skip 101 (64 + (101 + 101)) d.locks _ s.locks,
        skip 64 (101 + 101) d.key _ s.key,
        skip 101 101 d.kinds _ s.kinds,
        skip 101 0 d.sizes _ s.sizes,
      ) (take_all 4444 d.bytes (omega (arith, s.bytes)))

  -- a device is what is decoded of its bytes
  pub decode_encode : decode (encode d) ≡ d
  unfolding decode
  decode_encode = rw (head_back, locks_back, auth_back, kinds_back, sizes_back, keys_back)

  head_passes : is_head (encode d) ≡ true
  unfolding is_head encode head_bytes
  head_passes =
      rw (
        flag_small d.head.present,
        flag_small d.head.auth,
        flag_small d.head.locked,
        flag_small d.head.rollback,
        flag_small d.head.asked,
        tag_small d.head.mode,
        unword (p_of d.head.mode) w.p,
        unword (size_of d.head.mode) w.size,
        unword (version_of d.head.mode) w.image,
        unword (recorded_in d.head.mode) w.recorded,
        no_image d.head.mode,
        no_job d.head.mode,
      )

  encode_length : length (encode d) ≡ record_length
  unfolding encode
  encode_length = rw (length-append, head_length d.head, length-append, s.locks, length-append, s.key, length-append, s.kinds, length-append, s.sizes, s.bytes)

  -- and its bytes are a record's
  pub encode_record : is_record (encode d) ≡ true
  encode_record = rw (eq-eqb (length (encode d)) record_length encode_length, head_passes)

-- A RECORD'S BYTES, DECODED AND ENCODED
-- the n elements from k on
unfoldable listed : ℕ → ℕ → List ℕ → List ℕ
listed zero k l = []
listed (suc n) k l = byte_at l k ∷ listed n (suc k) l

take_listed : (n k : ℕ) (l : List ℕ) → k + n ≤ length l → take n (drop k l) ≡ listed n k l
unfolding listed
take_listed zero k l h = refl
take_listed (suc n) k l h =
    let g : k < length l = omega arith in
    rw (drop-cons l k 0 g) (ap (λ (t : List ℕ). byte_at l k ∷ t) (take_listed n (suc k) l (omega arith)))

reflag : (x : ℕ) → leb x 1 ≡ true → flag (eqb x 1) ≡ x
reflag zero e = refl
reflag (suc zero) e = refl
reflag (suc (suc n)) e = let h : suc (suc n) ≤ 1 = leb-true (suc (suc n)) 1 e in omega arith

-- the bytes of a word
record Four (v a b c d : ℕ) : Type 0 where
  pub first : v % 256 ≡ a
  pub second : v / 256 % 256 ≡ b
  pub third : v / 65536 % 256 ≡ c
  pub fourth : v / 16777216 % 256 ≡ d

reword : (a b c d : ℕ) → a < 256 → b < 256 → c < 256 → d < 256 → Four (joined a b c d) a b c d
reword a b c d ha hb hc hd =
    let v = joined a b c d in
    let q : v / 256 ≡ b + c * 256 + d * 65536 = omega arith in
    let r : v / 65536 ≡ c + d * 256 = omega arith in
    let s : v / 16777216 ≡ d = omega arith in
    record { first = omega arith; second = rw q (omega arith); third = rw r (omega arith); fourth = rw s (omega arith) }

record Eight (a b c d e f g h : Bool) : Type 0 where
  pub t1 : a ≡ true
  pub t2 : b ≡ true
  pub t3 : c ≡ true
  pub t4 : d ≡ true
  pub t5 : e ≡ true
  pub t6 : f ≡ true
  pub t7 : g ≡ true
  pub t8 : h ≡ true

eight : (a b c d e f g h : Bool) → (a && b && c && d && e && f && g && h) ≡ true → Eight a b c d e f g h
eight a b c d e f g h x8 =
    let x7 : (a && b && c && d && e && f && g) ≡ true = and_left (a && b && c && d && e && f && g) h x8 in
    let x6 : (a && b && c && d && e && f) ≡ true = and_left (a && b && c && d && e && f) g x7 in
    let x5 : (a && b && c && d && e) ≡ true = and_left (a && b && c && d && e) f x6 in
    let x4 : (a && b && c && d) ≡ true = and_left (a && b && c && d) e x5 in
    let x3 : (a && b && c) ≡ true = and_left (a && b && c) d x4 in
    let x2 : (a && b) ≡ true = and_left (a && b) c x3 in
    record {
      t1 = and_left a b x2;
      t2 = and_right a b x2;
      t3 = and_right (a && b) c x3;
      t4 = and_right (a && b && c) d x4;
      t5 = and_right (a && b && c && d) e x5;
      t6 = and_right (a && b && c && d && e) f x6;
      t7 = and_right (a && b && c && d && e && f) g x7;
      t8 = and_right (a && b && c && d && e && f && g) h x8;
    }

-- the mode's numbers, where those that it has no use for are 0
record Numbered (tag p size version recorded : ℕ) (m : Mode) : Type 0 where
  pub tag_back : tag_of m ≡ tag
  pub p_back : p_of m ≡ p
  pub size_back : size_of m ≡ size
  pub version_back : version_of m ≡ version
  pub recorded_back : recorded_in m ≡ recorded

record Zero (p size version : ℕ) : Type 0 where
  pub p_zero : 0 ≡ p
  pub size_zero : 0 ≡ size
  pub version_zero : 0 ≡ version

all_zero_lem : (p size version : ℕ) → (eqb p 0 && eqb size 0 && eqb version 0) ≡ true → Zero p size version
all_zero_lem p size version e =
    let two : (eqb p 0 && eqb size 0) ≡ true = and_left (eqb p 0 && eqb size 0) (eqb version 0) e in
    record {
      p_zero = sym (eqb-true p 0 (and_left (eqb p 0) (eqb size 0) two));
      size_zero = sym (eqb-true size 0 (and_right (eqb p 0) (eqb size 0) two));
      version_zero = sym (eqb-true version 0 (and_right (eqb p 0 && eqb size 0) (eqb version 0) e));
    }

renumber : (tag p size version recorded : ℕ) → leb tag 3 ≡ true
    → (eqb tag 2 || (eqb p 0 && eqb size 0 && eqb version 0)) ≡ true
    → (leb 2 tag || eqb recorded 0) ≡ true
    → Numbered tag p size version recorded (mode_of tag p size version recorded)
unfolding pick
renumber zero p size version recorded h a b =
    let z = all_zero_lem p size version a in
    record { tag_back = refl; p_back = z.p_zero; size_back = z.size_zero; version_back = z.version_zero; recorded_back = sym (eqb-true recorded 0 b) }
renumber (suc zero) p size version recorded h a b =
    let z = all_zero_lem p size version a in
    record { tag_back = refl; p_back = z.p_zero; size_back = z.size_zero; version_back = z.version_zero; recorded_back = sym (eqb-true recorded 0 b) }
renumber (suc (suc zero)) p size version recorded h a b =
    record { tag_back = refl; p_back = refl; size_back = refl; version_back = refl; recorded_back = refl }
renumber (suc (suc (suc zero))) p size version recorded h a b =
    let z = all_zero_lem p size version a in
    record { tag_back = refl; p_back = z.p_zero; size_back = z.size_zero; version_back = z.version_zero; recorded_back = refl }
renumber (suc (suc (suc (suc n)))) p size version recorded h a b =
    let g : suc (suc (suc (suc n))) ≤ 3 = leb-true (suc (suc (suc (suc n)))) 3 h in
    let z : ⊥ = omega arith in absurd z

module _ (l : List ℕ) (b : Bytes l) where
  word_back : (k : ℕ) → Four (word_at l k) (byte_at l k) (byte_at l (k + 1)) (byte_at l (k + 2)) (byte_at l (k + 3))
  word_back k = reword (byte_at l k) (byte_at l (k + 1)) (byte_at l (k + 2)) (byte_at l (k + 3)) (b k) (b (k + 1)) (b (k + 2)) (b (k + 3))

  head_again : is_head l ≡ true → head_bytes (head_in l) ≡ listed locks_at 0 l
  unfolding is_head head_bytes head_in listed
  head_again e =
      let t =
      eight (leb (byte_at l present_at) 1) (leb (byte_at l auth_at) 1) (leb (byte_at l locked_at) 1) (leb (byte_at l rollback_at) 1) (leb (byte_at l asked_at) 1) (leb (byte_at l mode_at) 3)
      (eqb (byte_at l mode_at) 2 || (eqb (word_at l image_at) 0 && eqb (word_at l size_at) 0 && eqb (word_at l image_version_at) 0))
      (leb 2 (byte_at l mode_at) || eqb (word_at l recorded_at) 0) e in
      let g = renumber (byte_at l mode_at) (word_at l image_at) (word_at l size_at) (word_at l image_version_at) (word_at l recorded_at) t.t6 t.t7 t.t8 in
      rw (
        g.tag_back,
        g.p_back,
        g.size_back,
        g.version_back,
        g.recorded_back,
        reflag (byte_at l present_at) t.t1,
        reflag (byte_at l auth_at) t.t2,
        reflag (byte_at l locked_at) t.t3,
        reflag (byte_at l rollback_at) t.t4,
        reflag (byte_at l asked_at) t.t5,
        (word_back 10).first,
        (word_back 10).second,
        (word_back 10).third,
        (word_back 10).fourth,
        (word_back 14).first,
        (word_back 14).second,
        (word_back 14).third,
        (word_back 14).fourth,
        (word_back 18).first,
        (word_back 18).second,
        (word_back 18).third,
        (word_back 18).fourth,
        (word_back 22).first,
        (word_back 22).second,
        (word_back 22).third,
        (word_back 22).fourth,
        (word_back 26).first,
        (word_back 26).second,
        (word_back 26).third,
        (word_back 26).fourth,
        (word_back 30).first,
        (word_back 30).second,
        (word_back 30).third,
        (word_back 30).fourth,
        (word_back 34).first,
        (word_back 34).second,
        (word_back 34).third,
        (word_back 34).fourth,
        (word_back 38).first,
        (word_back 38).second,
        (word_back 38).third,
        (word_back 38).fourth,
      )

  -- a record's bytes are those of the device that they are
  pub encode_decode : is_record l ≡ true → encode (decode l) ≡ l
  unfolding encode decode
  encode_decode e =
      let n : length l ≡ record_length = eqb-true (length l) record_length (and_left (eqb (length l) record_length) (is_head l) e) in
      let t : take locks_at l ≡ listed locks_at 0 l = take_listed locks_at 0 l (omega arith) in
      rw (head_again (and_right (eqb (length l) record_length) (is_head l) e), ← t, after_head l n) (take-append-drop locks_at l)
