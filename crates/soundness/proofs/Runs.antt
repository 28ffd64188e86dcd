-- The slots in the order in which the code goes over them: the master's, the user keys', and those that hold nothing.
-- Assumes nothing.
use Prim.Native.Nat.{ℕ, zero, suc, ◌+◌, ◌*◌, ◌≤◌, ◌<◌}
use mathlib.Core.Path.{◌≡◌, refl, sym, ◌∙◌}
use mathlib.Core.Bool.{Bool, true, false, not, ◌&&◌, or-true}
use mathlib.Core.List.{List}
use native.Mathlib.Omega.{arith}
use borrow.Author.Tests.{le-leb, ltb-true, ltb-false, lt-ltb, le-ltb, not-true, eq-eqb}
use lib.Dec.{ltb}
use lib.ListN.{get_or, drop}
use lib.Seq.{get_or-take, get_or-drop}
use Rattle.device.specs.Layout.{part}
use Rattle.basics.specs.Choice.{pick, both_true, and_left, and_right, or_either}
use Rattle.soundness.specs.Sound.{none_in, master_in, user_in, first_in, place_in, place_test, users_end, slot_test, all_below, slots_sound}
use Rattle.soundness.proofs.Laws.{all_below_lem, each_below}
use Rattle.soundness.proofs.Slots.{Slot, none, master, user, none_in_lem, master_in_lem, user_in_lem, slot_of, slot_sound_lem}

-- tests that hold together are the same
same : (a b : Bool) → (a ≡ true → b ≡ true) → (b ≡ true → a ≡ true) → a ≡ b
same true b f g = sym (f refl)
same false true f g = g refl
same false false f g = refl

-- where the user keys end
before_end : (count i : ℕ) → i < users_end count → i ≤ count
unfolding pick
before_end count i = go (ltb count 100) refl
  where
    go : (t : Bool) → ltb count 100 ≡ t → i < pick t (count + 1) 101 → i ≤ count
    go true e h = omega arith
    go false e h = let g : 100 ≤ count = ltb-false count 100 e in omega arith

from_end : (count i : ℕ) → i < 101 → users_end count ≤ i → count < i
unfolding pick
from_end count i low = go (ltb count 100) refl
  where
    go : (t : Bool) → ltb count 100 ≡ t → pick t (count + 1) 101 ≤ i → count < i
    go true e h = omega arith
    go false e h = let z : ⊥ = omega arith in absurd z

-- one slot: what it holds, and the test of its place
module _ (i count kind size lock : ℕ) where
  pub first_of : i ≡ 0 → Slot i count kind size lock → first_in kind size lock ≡ true
  first_of z (none k s l h) = rw (eq-eqb kind 0 k, eq-eqb size 0 s, eq-eqb lock 0 l)
  first_of z (master k law l q) =
      let t : master_in kind size lock ≡ true = rw (law, eq-eqb kind 2 k, eq-eqb lock 0 l) in rw t (or-true (none_in kind size lock))
  first_of z (user k law l low high) = let y : ⊥ = omega arith in absurd y

  pub user_of : 1 ≤ i → i ≤ count → Slot i count kind size lock → user_in kind size lock ≡ true
  user_of low high (none k s l h) = let g : count < i = h low in let z : ⊥ = omega arith in absurd z
  user_of low high (master k law l q) = let z : ⊥ = omega arith in absurd z
  user_of low high (user k law l low₂ high₂) = rw (law, k, le-leb lock 1 l)

  pub none_of : 1 ≤ i → count < i → Slot i count kind size lock → none_in kind size lock ≡ true
  none_of low high (none k s l h) = rw (eq-eqb kind 0 k, eq-eqb size 0 s, eq-eqb lock 0 l)
  none_of low high (master k law l q) = let z : ⊥ = omega arith in absurd z
  none_of low high (user k law l low₂ high₂) = let z : ⊥ = omega arith in absurd z

-- the byte at an index of one of a record's arrays
pub in_part : (at n : ℕ) (l : List ℕ) (i : ℕ) → i < n → get_or (part at n l) i 0 ≡ get_or l (at + i) 0
in_part at n l i h = get_or-take n (drop at l) i 0 h ∙ get_or-drop at l i 0

-- where a loop begins
pub places_start : (from end : ℕ) (kinds sizes locks : List ℕ) → all_below from (place_test from end kinds sizes locks) ≡ true
places_start from end kinds sizes locks = all_below_lem from (place_test from end kinds sizes locks) (λ i h. rw (lt-ltb i from h))

-- the byte that counts twice the slot
pub twice_below : (n m i e : ℕ) → n ≡ i * 2 → m ≡ e * 2 → ltb n m ≡ ltb i e
twice_below n m i e p q = go (ltb i e) refl
  where
    go : (t : Bool) → ltb i e ≡ t → ltb n m ≡ t
    go true h = let g : i < e = ltb-true i e h in lt-ltb n m (omega arith)
    go false h = let g : e ≤ i = ltb-false i e h in le-ltb n m (omega arith)

-- all slots, by two loops: from 1 to `to`, and from `from` on
module _ (count to from : ℕ) (kinds sizes locks : List ℕ) (low : 1 ≤ from) (meet : from ≤ to) (fit : to ≤ 101) where
  abbrev first : Bool
  first = first_in (get_or kinds 0 0) (get_or sizes 0 0) (get_or locks 0 0)

  abbrev many : Bool
  many = all_below to (place_test 1 (users_end count) kinds sizes locks)

  abbrev rest : Bool
  rest = all_below 101 (place_test from (users_end count) kinds sizes locks)

  abbrev In : ℕ → Type 0
  In i = Slot i count (get_or kinds i 0) (get_or sizes i 0) (get_or locks i 0)

  abbrev Place : ℕ → Bool
  Place i = place_in i (users_end count) (get_or kinds i 0) (get_or sizes i 0) (get_or locks i 0)

  place_of : (i : ℕ) (t : Bool) → ltb i (users_end count) ≡ t → 1 ≤ i → i < 101 → In i → Place i ≡ true
  place_of i true e one h s =
      let u = user_of i count (get_or kinds i 0) (get_or sizes i 0) (get_or locks i 0) one (before_end count i (ltb-true i (users_end count) e)) s in rw (e, u)
  place_of i false e one h s =
      let u = none_of i count (get_or kinds i 0) (get_or sizes i 0) (get_or locks i 0) one (from_end count i h (ltb-false i (users_end count) e)) s in rw (e, u)

  place_holds : (from i : ℕ) (t : Bool) → ltb i from ≡ t → 1 ≤ from → i < 101 → In i → place_test from (users_end count) kinds sizes locks i ≡ true
  place_holds from i true e low h s = rw e
  place_holds from i false e low h s =
      let g : from ≤ i = ltb-false i from e in
      let u : Place i ≡ true = place_of i (ltb i (users_end count)) refl (omega arith) h s in rw u (or-true (ltb i from))

  parted : slots_sound count kinds sizes locks ≡ true → (first && many && rest) ≡ true
  unfolding slots_sound
  parted e =
      let each : (i : ℕ) → i < 101 → In i =
      λ i h. slot_of i count (get_or kinds i 0) (get_or sizes i 0) (get_or locks i 0) (each_below 101 (slot_test count kinds sizes locks) e i h) in
      both_true (first && many) rest
      (both_true first many
      (first_of 0 count (get_or kinds 0 0) (get_or sizes 0 0) (get_or locks 0 0) refl (each 0 (omega arith)))
      (all_below_lem to (place_test 1 (users_end count) kinds sizes locks) (λ i h. place_holds 1 i (ltb i 1) refl (omega arith) (omega arith) (each i (omega arith)))))
      (all_below_lem 101 (place_test from (users_end count) kinds sizes locks) (λ i h. place_holds from i (ltb i from) refl (omega arith) h (each i h)))

  holds_place : (i : ℕ) → 1 ≤ i → i < 101 → Place i ≡ true → In i
  holds_place i one h e =
      let u = user_in (get_or kinds i 0) (get_or sizes i 0) (get_or locks i 0) in
      let n = none_in (get_or kinds i 0) (get_or sizes i 0) (get_or locks i 0) in
      let t = ltb i (users_end count) in
      or_either (t && u) (not t && n) e
      (λ z. user_in_lem i count (get_or kinds i 0) (get_or sizes i 0) (get_or locks i 0) (and_right t u z) one (before_end count i (ltb-true i (users_end count) (and_left t u z))))
      (λ z. none_in_lem i count (get_or kinds i 0) (get_or sizes i 0) (get_or locks i 0) (and_right (not t) n z) (λ g. from_end count i h (ltb-false i (users_end count) (not-true t (and_left (not t) n z)))))

  holds_first : first ≡ true → In 0
  holds_first e =
      or_either (none_in (get_or kinds 0 0) (get_or sizes 0 0) (get_or locks 0 0)) (master_in (get_or kinds 0 0) (get_or sizes 0 0) (get_or locks 0 0)) e
      (λ a. none_in_lem 0 count (get_or kinds 0 0) (get_or sizes 0 0) (get_or locks 0 0) a (λ low. let y : ⊥ = omega arith in absurd y))
      (λ a. master_in_lem 0 count (get_or kinds 0 0) (get_or sizes 0 0) (get_or locks 0 0) a refl)

  beyond : (at i : ℕ) → at ≤ i → 1 ≤ i → i < 101 → place_test at (users_end count) kinds sizes locks i ≡ true → In i
  beyond at i g one h e =
      or_either (ltb i at) (Place i) e
      (λ z. let q : i < at = ltb-true i at z in let y : ⊥ = omega arith in absurd y)
      (holds_place i one h)

  holds : (i : ℕ) (t : Bool) → ltb i to ≡ t → i < 101 → first ≡ true → many ≡ true → rest ≡ true → In i
  holds zero t e h f u r = holds_first f
  holds (suc n) true e h f u r =
      beyond 1 (suc n) (omega arith) (omega arith) h (each_below to (place_test 1 (users_end count) kinds sizes locks) u (suc n) (ltb-true (suc n) to e))
  holds (suc n) false e h f u r =
      let g : to ≤ suc n = ltb-false (suc n) to e in
      beyond from (suc n) (omega arith) (omega arith) h (each_below 101 (place_test from (users_end count) kinds sizes locks) r (suc n) h)

  joined : (first && many && rest) ≡ true → slots_sound count kinds sizes locks ≡ true
  unfolding slots_sound
  joined e =
      let a = and_left (first && many) rest e in
      all_below_lem 101 (slot_test count kinds sizes locks)
      (λ i h. slot_sound_lem i count (get_or kinds i 0) (get_or sizes i 0) (get_or locks i 0) (holds i (ltb i to) refl h (and_left first many a) (and_right first many a) (and_right (first && many) rest e)))

  pub slots_by : (first && many && rest) ≡ slots_sound count kinds sizes locks
  slots_by = same (first && many && rest) (slots_sound count kinds sizes locks) joined parted
