-- Stores into a record's bytes are changes of the device that they are.
use Prim.Native.Nat.{ℕ, zero, suc, ◌+◌, ◌-◌, ◌*◌, ◌≤◌}
use mathlib.Core.Path.{◌≡◌, refl, sym, ap, ◌∙◌}
use mathlib.Core.Bool.{true, false}
use mathlib.Core.List.{List, [], ◌∷◌, ◌++◌, append_assoc, append-nil}
use native.Mathlib.Omega.{arith}
use borrow.Author.Tests.{eqb-true}
use lib.Dec.{lit≤}
use lib.ListN.{length, take, drop, length-take, length-drop, length-append, take-append-drop, drop_of_length-le, set, length-set}
use lib.Seq.{take_at, drop_at, length-take-le, drop-drop, take_all, take-add, drop-append-le, set_out}
use Rattle.basics.specs.Words.{put_at, zeros}
use Rattle.basics.proofs.Words.{length_zeros}
use Rattle.device.specs.declared.Head.{Head}
use Rattle.device.specs.declared.Mode.TheVariants.{Stack}
use Rattle.device.specs.Types.{Device, Effect, Keep, Drop, Lock, Put, Auth}
use Rattle.device.specs.Whole.{with_head, with_locks, with_key, put_key, fits, apply}
use Rattle.device.specs.Layout.{record_length, locks_at, key_at, kinds_at, sizes_at, keys_at, part, locks_in, auth_in, kinds_in, sizes_in, keys_in, head_bytes, encode, decode, key_put, applied}

-- a part, and what stands after it
tail : (n m : ℕ) (l : List ℕ) → part n m l ++ drop (n + m) l ≡ drop n l
tail n m l = rw (← drop-drop m n l) (take-append-drop m (drop n l))

part_length : (at n : ℕ) (l : List ℕ) → at + n ≤ length l → length (part at n l) ≡ n
part_length at n l h = simp (length-take, length-drop) (omega arith)

pub head_length : (h : Head) → length (head_bytes h) ≡ locks_at
unfolding head_bytes
head_length h = refl

-- a record from its arrays on
module _ (l : List ℕ) (e : length l ≡ record_length) where
  after_auth : kinds_in l ++ (sizes_in l ++ keys_in l) ≡ drop kinds_at l
  after_auth =
      let z : keys_in l ≡ drop keys_at l = take_all 4444 (drop keys_at l) (omega (arith, length-drop keys_at l)) in
      rw (z, tail sizes_at 101 l, tail kinds_at 101 l)

  after_locks : auth_in l ++ (kinds_in l ++ (sizes_in l ++ keys_in l)) ≡ drop key_at l
  after_locks = rw (after_auth, tail key_at 64 l)

  pub after_head : locks_in l ++ (auth_in l ++ (kinds_in l ++ (sizes_in l ++ keys_in l))) ≡ drop locks_at l
  after_head = rw (after_locks, tail locks_at 101 l)

  -- the locks put where they stand
  pub no_lock : (i : ℕ) → 101 ≤ i → put_at l locks_at (set (locks_in l) i 1) ≡ l
  no_lock i h =
      let k : length (locks_in l) ≡ 101 = part_length locks_at 101 l (omega arith) in
      let g : length (locks_in l) ≤ i = omega arith in
      rw (set_out (locks_in l) i 1 g, k, take-append-drop 101 (drop locks_at l), take-append-drop locks_at l)

  pub lock_length : (i : ℕ) → length (set (locks_in l) i 1) ≡ 101
  lock_length i = rw (length-set (locks_in l) i 1) (part_length locks_at 101 l (omega arith))

  pub locks_length : length (locks_in l) ≡ 101
  locks_length = part_length locks_at 101 l (omega arith)

  module _ (h : Head) where
    -- another head
    pub put_head : put_at l 0 (head_bytes h) ≡ encode (with_head h (decode l))
    unfolding encode decode
    put_head = rw (after_head, head_length h)

    -- other locks, and then the head
    pub locks_first : (z : List ℕ) → length z ≡ 101 → put_at (put_at l locks_at z) 0 (head_bytes h) ≡ encode (with_locks z (with_head h (decode l)))
    unfolding encode decode
    locks_first z k =
        let t : length (take locks_at l) ≡ locks_at = length-take-le locks_at l (omega arith) in
        rw (head_length h, drop_at (take locks_at l) (z ++ drop (length z) (drop locks_at l)) locks_at t, k, drop-drop 101 locks_at l, after_locks)

    -- another authentication key, and then the head
    auth_first : (key : List ℕ) → length key ≡ 64 → put_at (put_at l key_at key) 0 (head_bytes h) ≡ encode (with_key key (with_head h (decode l)))
    unfolding encode decode
    auth_first key k =
        let t : length (take locks_at l) ≡ locks_at = length-take-le locks_at l (omega arith) in
        let u : locks_at ≤ length (take key_at l) = omega (arith, length-take-le key_at l (omega arith)) in
        let a : take key_at l ≡ take locks_at l ++ locks_in l = take-add locks_at 101 l in
        let b : drop locks_at (take key_at l) ≡ locks_in l = rw (a, drop_at (take locks_at l) (locks_in l) locks_at t) in
        rw (head_length h, drop-append-le locks_at (take key_at l) (key ++ drop (length key) (drop key_at l)) u, b, k, drop-drop 64 key_at l, after_auth)

    -- another key in a slot, and then the head
    key_first : (key : List ℕ) (i kind : ℕ) → put_at (key_put i kind key l) 0 (head_bytes h) ≡ encode (put_key i kind key (with_head h (decode l)))
    unfolding encode decode
    key_first key i kind =
        let t : length (take locks_at l) ≡ locks_at = length-take-le locks_at l (omega arith) in
        let u : locks_at ≤ length (take kinds_at l) = omega (arith, length-take-le kinds_at l (omega arith)) in
        let a : take kinds_at l ≡ take locks_at l ++ take (kinds_at - locks_at) (drop locks_at l) = take-add locks_at (kinds_at - locks_at) l in
        let b : take (kinds_at - locks_at) (drop locks_at l) ≡ locks_in l ++ take 64 (drop 101 (drop locks_at l)) = take-add 101 64 (drop locks_at l) in
        let m : drop locks_at (take kinds_at l) ≡ locks_in l ++ auth_in l =
        rw (a, drop_at (take locks_at l) (take (kinds_at - locks_at) (drop locks_at l)) locks_at t, b, drop-drop 101 locks_at l) in
        rw (head_length h, drop-append-le locks_at (take kinds_at l) _ u, m, append_assoc (locks_in l) (auth_in l) _)

-- an effect on the bytes, and then the head, is the same on the device
pub put_applied : (x : Effect) (key : List ℕ) (h : Head) (l : List ℕ) → length l ≡ record_length → fits x (length key) ≡ true
    → put_at (applied x key l) 0 (head_bytes h) ≡ encode (apply x key (with_head h (decode l)))
unfolding decode
put_applied Keep key h l n f = put_head l n h
put_applied Drop key h l n f = locks_first l n h (zeros 101) (length_zeros 101)
put_applied (Lock i) key h l n f = locks_first l n h (set (locks_in l) i 1) (lock_length l n i)
put_applied (Put i kind) key h l n f = key_first l n h key i kind
put_applied Auth key h l n f = auth_first l n h key (eqb-true (length key) 64 f)

cut_take : (p x s : List ℕ) (n : ℕ) → length (p ++ x) ≡ n → take n (p ++ (x ++ s)) ≡ p ++ x
cut_take p x s n e = rw (← append_assoc p x s) (take_at (p ++ x) s n e)

cut_drop : (p x s : List ℕ) (n : ℕ) → length (p ++ x) ≡ n → drop n (p ++ (x ++ s)) ≡ s
cut_drop p x s n e = rw (← append_assoc p x s) (drop_at (p ++ x) s n e)

-- the type, the size and the bytes of a key, stored one after the other
pub stored_key_lem : (l r1 r2 x1 x2 x3 key : List ℕ) (i kind : ℕ)
    → length l ≡ record_length
    → r1 ≡ take kinds_at l ++ (x1 ++ drop 101 (drop kinds_at l))
    → r2 ≡ take sizes_at r1 ++ (x2 ++ drop 101 (drop sizes_at r1))
    → x1 ≡ set (kinds_in l) i kind
    → x2 ≡ set (sizes_in r1) i (length key)
    → x3 ≡ put_at (keys_in r2) (i * 44) key
    → take keys_at r2 ++ (x3 ++ drop 4444 (drop keys_at r2)) ≡ key_put i kind key l
stored_key_lem l r1 r2 x1 x2 x3 key i kind e f1 f2 e1 e2 e3 =
    let t : length (take kinds_at l) ≡ kinds_at = length-take-le kinds_at l (omega arith) in
    let a1 : length x1 ≡ 101 = rw (e1, length-set (kinds_in l) i kind) (part_length kinds_at 101 l (omega arith)) in
    let b1 : length (take kinds_at l ++ x1) ≡ sizes_at = rw (length-append (take kinds_at l) x1) (omega arith) in
    let p1 : drop sizes_at r1 ≡ drop sizes_at l = rw (f1, cut_drop (take kinds_at l) x1 (drop 101 (drop kinds_at l)) sizes_at b1, drop-drop 101 kinds_at l) in
    let t1 : take sizes_at r1 ≡ take kinds_at l ++ x1 = rw (f1, cut_take (take kinds_at l) x1 (drop 101 (drop kinds_at l)) sizes_at b1) in
    let g2 : x2 ≡ set (sizes_in l) i (length key) = rw (e2, p1) in
    let a2 : length x2 ≡ 101 = rw (g2, length-set (sizes_in l) i (length key)) (part_length sizes_at 101 l (omega arith)) in
    let b2 : length ((take kinds_at l ++ x1) ++ x2) ≡ keys_at = rw (length-append (take kinds_at l ++ x1) x2) (omega arith) in
    let q2 : r2 ≡ (take kinds_at l ++ x1) ++ (x2 ++ drop keys_at l) = rw (f2, t1, p1, drop-drop 101 sizes_at l) in
    let p2 : drop keys_at r2 ≡ drop keys_at l = rw (q2, cut_drop (take kinds_at l ++ x1) x2 (drop keys_at l) keys_at b2) in
    let t2 : take keys_at r2 ≡ (take kinds_at l ++ x1) ++ x2 = rw (q2, cut_take (take kinds_at l ++ x1) x2 (drop keys_at l) keys_at b2) in
    let z : drop 4444 (drop keys_at l) ≡ [] = drop_of_length-le (drop keys_at l) {i = 4444} (omega (arith, length-drop keys_at l)) in
    let g3 : x3 ≡ put_at (keys_in l) (i * 44) key = rw (e3, p2) in
    rw (t2, p2, z, append-nil x3, append_assoc (take kinds_at l ++ x1) x2 x3, append_assoc (take kinds_at l) x1 (x2 ++ x3), e1, g2, g3)

part_zeros : (at n m : ℕ) → at + n ≤ m → part at n (zeros m) ≡ zeros n
unfolding zeros
part_zeros zero zero m h = refl
part_zeros zero (suc n) zero h = let z : ⊥ = omega arith in absurd z
part_zeros zero (suc n) (suc m) h = ap (λ (l : List ℕ). 0 ∷ l) (part_zeros zero n m (omega arith))
part_zeros (suc at) n zero h = let z : ⊥ = omega arith in absurd z
part_zeros (suc at) n (suc m) h = part_zeros at n m (omega arith)

-- a record of zeros is a device with nothing in it
abbrev blank_head : Head
blank_head =
    record { present = false; version = 0; sectors = 0; boundary = 0; mode = Stack; count = 0; auth = false; locked = false; rollback = false; floor = 0; loaded = 0; asked = false; error = 0; made = 0 }

abbrev pub blank : Device
blank =
    record { head = blank_head; locks = zeros 101; key = zeros 64; kinds = zeros 101; sizes = zeros 101; bytes = zeros 4444 }

blank_head_lem : zeros locks_at ≡ head_bytes blank_head
unfolding zeros head_bytes
blank_head_lem = refl

pub zeros_blank : zeros record_length ≡ encode blank
unfolding decode
zeros_blank =
    let l : List ℕ = zeros record_length in
    let e : take locks_at l ≡ head_bytes blank_head = part_zeros 0 locks_at record_length (lit≤ tt) ∙ blank_head_lem in
    let f : put_at l 0 (head_bytes blank_head) ≡ l = rw (head_length blank_head, ← e, take-append-drop locks_at l) in
    sym f ∙ put_head l (length_zeros record_length) blank_head
    ∙ ap encode
    (rw (
      part_zeros locks_at 101 record_length (lit≤ tt),
      part_zeros key_at 64 record_length (lit≤ tt),
      part_zeros kinds_at 101 record_length (lit≤ tt),
      part_zeros sizes_at 101 record_length (lit≤ tt),
      part_zeros keys_at 4444 record_length (lit≤ tt),
    ))
