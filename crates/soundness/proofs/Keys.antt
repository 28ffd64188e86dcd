-- What is said of the keys stays true as keys are locked, unloaded, loaded and stored.
use Prim.Native.Nat.{ℕ, zero, suc, ◌+◌, ◌≤◌, ◌<◌}
use mathlib.Core.Path.{◌≡◌, refl}
use mathlib.Core.Bool.{Bool, true, false, not, ◌||◌, or-true, or-false}
use mathlib.Core.List.{List}
use native.Mathlib.Omega.{arith}
use borrow.Author.Tests.{eqb-true, eqb-false}
use lib.Dec.{eqb}
use lib.ListN.{get_or, set, length}
use lib.Seq.{get_or-set_same, get_or-set_other}
use Rattle.basics.specs.Words.{zeros}
use Rattle.keys.specs.Keys.{key_lawful, type_lawful}
use Rattle.soundness.specs.Sound.{loaded_sound}
use Rattle.soundness.proofs.Slots.{Slot, none, master, user, unlocked, locked, another, next_free, master_free}
use Rattle.soundness.proofs.Parts.{Keys}

zero_at : (n i : ℕ) → get_or (zeros n) i 0 ≡ 0
unfolding zeros
zero_at zero i = refl
zero_at (suc n) zero = refl
zero_at (suc n) (suc i) = zero_at n i

-- the master's slot holds no encrypted key
no_encrypted : (count kind size lock : ℕ) → Slot 0 count kind size lock → loaded_sound kind kind ≡ true
no_encrypted count kind size lock (none k s l h) = rw k
no_encrypted count kind size lock (master k law l z) = rw k
no_encrypted count kind size lock (user k law l low high) = let z : ⊥ = omega arith in absurd z

-- a list with one element changed, by where it is looked at
at_set : (P : ℕ → Type 0) (l : List ℕ) (j i v : ℕ) (b : Bool) → eqb i j ≡ b → j < length l → (i ≡ j → P v) → ((i ≡ j → ⊥) → P (get_or l i 0)) → P (get_or (set l j v) i 0)
at_set P l j i v true e fits here there =
    let q : i ≡ j = eqb-true i j e in
    rw (q, get_or-set_same l j v 0 fits) (here q)
at_set P l j i v false e fits here there =
    let q : i ≡ j → ⊥ = eqb-false i j e in
    rw (get_or-set_other l j i v 0 q) (there q)

module _ (count loaded : ℕ) (kinds sizes locks : List ℕ) (p : Keys count loaded kinds sizes locks) where
  -- no key is loaded
  pub keys_unloaded : Keys count 0 kinds sizes locks
  keys_unloaded = record {
    slots = p.slots;
    encrypted = no_encrypted count (get_or kinds 0 0) (get_or sizes 0 0) (get_or locks 0 0) (p.slots 0 (omega arith));
  }

  -- a key is loaded
  pub keys_loaded : (i : ℕ) → loaded_sound (get_or kinds i 0) (get_or kinds 0 0) ≡ true → Keys count i kinds sizes locks
  keys_loaded i e = record { slots = p.slots; encrypted = e }

  -- the lost things are lost
  pub keys_lost : Keys count 0 kinds sizes (zeros 101)
  keys_lost = record {
    slots = λ i h. rw (zero_at 101 i) (unlocked i count (get_or kinds i 0) (get_or sizes i 0) (get_or locks i 0) (p.slots i h));
    encrypted = keys_unloaded.encrypted;
  }

  -- a user key is locked
  pub keys_locked : (j : ℕ) → length locks ≡ 101 → 1 ≤ j → j ≤ count → count ≤ 100 → Keys count loaded kinds sizes (set locks j 1)
  keys_locked j all low high few = record {
    slots = λ i h.
        at_set (Slot i count (get_or kinds i 0) (get_or sizes i 0)) locks j i 1 (eqb i j) refl (omega arith)
        (λ q. locked i count (get_or kinds i 0) (get_or sizes i 0) (get_or locks i 0) (omega arith) (omega arith) (p.slots i h))
        (λ q. p.slots i h);
    encrypted = p.encrypted;
  }

  -- what stands in the slots after a key was put at j
  slot_put : (more j kind n i : ℕ) (b : Bool) → eqb i j ≡ b → length kinds ≡ 101 → length sizes ≡ 101 → j < 101
      → (i ≡ j → Slot i more kind n (get_or locks i 0)) → ((i ≡ j → ⊥) → Slot i more (get_or kinds i 0) (get_or sizes i 0) (get_or locks i 0))
      → Slot i more (get_or (set kinds j kind) i 0) (get_or (set sizes j n) i 0) (get_or locks i 0)
  slot_put more j kind n i true e lk ls fits here there =
      let q : i ≡ j = eqb-true i j e in
      let k : get_or (set kinds j kind) i 0 ≡ kind = rw (q, get_or-set_same kinds j kind 0 (omega arith)) in
      let s : get_or (set sizes j n) i 0 ≡ n = rw (q, get_or-set_same sizes j n 0 (omega arith)) in
      rw (k, s) (here q)
  slot_put more j kind n i false e lk ls fits here there =
      let q : i ≡ j → ⊥ = eqb-false i j e in
      rw (get_or-set_other kinds j i kind 0 q, get_or-set_other sizes j i n 0 q) (there q)

  module _ (lk : length kinds ≡ 101) (ls : length sizes ≡ 101) (kind n : ℕ) (lawful : key_lawful kind n ≡ true) where
    -- the master is stored
    pub keys_mastered : eqb kind 2 ≡ true → Keys count loaded (set kinds 0 kind) (set sizes 0 n) locks
    keys_mastered is = record {
      slots = λ i h.
          slot_put count 0 kind n i (eqb i 0) refl lk ls (omega arith)
          (λ q. master (eqb-true kind 2 is) lawful (master_free i count (get_or kinds i 0) (get_or sizes i 0) (get_or locks i 0) q (p.slots i h)) q)
          (λ q. p.slots i h);
      encrypted = rw (get_or-set_same kinds 0 kind 0 (omega arith), is) (or-true (not (eqb (get_or (set kinds 0 kind) loaded 0) 3)));
    }

    -- a user key is stored
    pub keys_stored : type_lawful kind ≡ true → eqb kind 2 ≡ false → loaded ≤ count → count < 100
        → Keys (count + 1) loaded (set kinds (count + 1) kind) (set sizes (count + 1) n) locks
    keys_stored type is low few =
        let t : (eqb kind 1 || eqb kind 3) ≡ true = rw (is, or-false (eqb kind 1)) at type in
        record {
          slots = λ i h.
              slot_put (count + 1) (count + 1) kind n i (eqb i (count + 1)) refl lk ls (omega arith)
              (λ q.
              let z : get_or locks i 0 ≡ 0 = next_free i count (get_or kinds i 0) (get_or sizes i 0) (get_or locks i 0) q (p.slots i h) in
              user t lawful (omega arith) (omega arith) (omega arith))
              (λ q. another i count (get_or kinds i 0) (get_or sizes i 0) (get_or locks i 0) q (p.slots i h));
          encrypted =
              rw (get_or-set_other kinds (count + 1) loaded kind 0 (λ q. omega arith), get_or-set_other kinds (count + 1) 0 kind 0 (λ q. omega arith)) p.encrypted;
        }
