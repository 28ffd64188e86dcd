-- A slot of the keys in words, and what the commands do to the slots.
use Prim.Native.Nat.{ℕ, zero, suc, ◌+◌, ◌≤◌, ◌<◌}
use mathlib.Core.Path.{◌≡◌, refl}
use mathlib.Core.Bool.{Bool, true, ◌&&◌, ◌||◌, or-true}
use native.Mathlib.Omega.{arith}
use borrow.Author.Tests.{leb-true, le-leb, ltb-true, lt-ltb, eqb-true, eq-eqb}
use lib.Dec.{leb, ltb, eqb}
use Rattle.basics.specs.Choice.{and_left, and_right, or_either}
use Rattle.keys.specs.Keys.{key_lawful}
use Rattle.soundness.specs.Sound.{none_in, master_in, user_in, slot_sound}

-- a slot holds nothing, the master, or a user key
pub data Slot (i count kind size lock : ℕ) : Type 0 where
  none : kind ≡ 0 → size ≡ 0 → lock ≡ 0 → (1 ≤ i → count < i) → Slot i count kind size lock
  master : kind ≡ 2 → key_lawful kind size ≡ true → lock ≡ 0 → i ≡ 0 → Slot i count kind size lock
  user : (eqb kind 1 || eqb kind 3) ≡ true → key_lawful kind size ≡ true → lock ≤ 1 → 1 ≤ i → i ≤ count → Slot i count kind size lock

outside : (i count : ℕ) → (1 ≤ i → count < i) → (eqb i 0 || ltb count i) ≡ true
outside zero count h = refl
outside (suc n) count h = rw (lt-ltb count (suc n) (h (omega arith))) (or-true (eqb (suc n) 0))

out_of : (i count : ℕ) → (eqb i 0 || ltb count i) ≡ true → 1 ≤ i → count < i
out_of i count e h =
    or_either (eqb i 0) (ltb count i) e
    (λ z. let q : i ≡ 0 = eqb-true i 0 z in omega arith)
    (λ z. ltb-true count i z)

module _ (i count kind size lock : ℕ) where
  -- what a slot holds, by its test
  pub none_in_lem : none_in kind size lock ≡ true → (1 ≤ i → count < i) → Slot i count kind size lock
  none_in_lem e h =
      let a = and_left (eqb kind 0 && eqb size 0) (eqb lock 0) e in
      none (eqb-true kind 0 (and_left (eqb kind 0) (eqb size 0) a)) (eqb-true size 0 (and_right (eqb kind 0) (eqb size 0) a)) (eqb-true lock 0 (and_right (eqb kind 0 && eqb size 0) (eqb lock 0) e)) h

  pub master_in_lem : master_in kind size lock ≡ true → i ≡ 0 → Slot i count kind size lock
  master_in_lem e z =
      let a = and_left (eqb kind 2 && key_lawful kind size) (eqb lock 0) e in
      master (eqb-true kind 2 (and_left (eqb kind 2) (key_lawful kind size) a)) (and_right (eqb kind 2) (key_lawful kind size) a) (eqb-true lock 0 (and_right (eqb kind 2 && key_lawful kind size) (eqb lock 0) e)) z

  pub user_in_lem : user_in kind size lock ≡ true → 1 ≤ i → i ≤ count → Slot i count kind size lock
  user_in_lem e low high =
      let k = eqb kind 1 || eqb kind 3 in
      let a = and_left (k && key_lawful kind size) (leb lock 1) e in
      user (and_left k (key_lawful kind size) a) (and_right k (key_lawful kind size) a) (leb-true lock 1 (and_right (k && key_lawful kind size) (leb lock 1) e)) low high

  -- with the test of its place
  abbrev none_test : Bool
  none_test = none_in kind size lock && (eqb i 0 || ltb count i)

  abbrev master_test : Bool
  master_test = master_in kind size lock && eqb i 0

  abbrev user_test : Bool
  user_test = user_in kind size lock && leb 1 i && leb i count

  pub slot_of : slot_sound i count kind size lock ≡ true → Slot i count kind size lock
  slot_of e =
      let n = none_in kind size lock in
      let m = master_in kind size lock in
      let u = user_in kind size lock in
      or_either (none_test || master_test) user_test e
      (λ a.
      or_either none_test master_test a
      (λ b. none_in_lem (and_left n (eqb i 0 || ltb count i) b) (out_of i count (and_right n (eqb i 0 || ltb count i) b)))
      (λ b. master_in_lem (and_left m (eqb i 0) b) (eqb-true i 0 (and_right m (eqb i 0) b))))
      (λ a.
      let b = and_left (u && leb 1 i) (leb i count) a in
      user_in_lem (and_left u (leb 1 i) b) (leb-true 1 i (and_right u (leb 1 i) b)) (leb-true i count (and_right (u && leb 1 i) (leb i count) a)))

  pub slot_sound_lem : Slot i count kind size lock → slot_sound i count kind size lock ≡ true
  slot_sound_lem (none k s l h) =
      let t : none_test ≡ true = rw (eq-eqb kind 0 k, eq-eqb size 0 s, eq-eqb lock 0 l, outside i count h) in
      rw t
  slot_sound_lem (master k law l z) =
      let t : master_test ≡ true = rw (law, eq-eqb kind 2 k, eq-eqb lock 0 l, eq-eqb i 0 z) in
      rw (t, or-true none_test)
  slot_sound_lem (user k law l low high) =
      let t : user_test ≡ true = rw (law, k, le-leb lock 1 l, le-leb 1 i low, le-leb i count high) in
      rw t (or-true (none_test || master_test))

  -- a lock that is dropped
  pub unlocked : Slot i count kind size lock → Slot i count kind size 0
  unlocked (none k s l h) = none k s refl h
  unlocked (master k law l z) = master k law refl z
  unlocked (user k law l low high) = user k law (omega arith) low high

  -- a user key that is locked
  pub locked : 1 ≤ i → i ≤ count → Slot i count kind size lock → Slot i count kind size 1
  locked low high (none k s l h) = let g : count < i = h low in let z : ⊥ = omega arith in absurd z
  locked low high (master k law l z) = let z : ⊥ = omega arith in absurd z
  locked low high (user k law l low₂ high₂) = user k law (omega arith) low high

  -- one user key more, at another index
  pub another : (i ≡ count + 1 → ⊥) → Slot i count kind size lock → Slot i (count + 1) kind size lock
  another other (none k s l h) = none k s l (λ low. let g : count < i = h low in omega (arith, other))
  another other (master k law l z) = master k law l z
  another other (user k law l low high) = user k law l low (omega arith)

  -- what stands in the slot of the next user key
  pub next_free : i ≡ count + 1 → Slot i count kind size lock → lock ≡ 0
  next_free e (none k s l h) = l
  next_free e (master k law l z) = l
  next_free e (user k law l low high) = let z : ⊥ = omega arith in absurd z

  -- and in the master's
  pub master_free : i ≡ 0 → Slot i count kind size lock → lock ≡ 0
  master_free e (none k s l h) = l
  master_free e (master k law l z) = l
  master_free e (user k law l low high) = let z : ⊥ = omega arith in absurd z
