-- Flash bytes stay bytes, and four of them are a word.
-- Assumes nothing.
use Prim.Native.Nat.{ℕ, zero, suc, ◌+◌, ◌-◌, ◌*◌, ◌<◌}
use mathlib.Core.List.{List, [], ◌∷◌, ◌++◌}
use native.Mathlib.Omega.{arith}
use lib.ListN.{take, drop, replicate}
use lib.Seq.{get_or-drop}
use Rattle.basics.specs.Words.{word_at}
use Rattle.sectors.specs.Sectors.{sector, put_sector, erased, fit}
use Rattle.answer.specs.declared.Checked.{Checked}
use Rattle.answer.specs.declared.Checked.TheVariants.{Good, Fails, Erases}
use Rattle.image.specs.Images.{flash_after}
use Rattle.plan.specs.declared.Store.{Store}
use Rattle.plan.specs.declared.Store.TheVariants.{Erase, Write, Record, Last}
use Rattle.plan.specs.Stores.{stored, spoilt}
use Rattle.device.specs.Layout.{Word, Bytes}

none_bytes : Bytes []
none_bytes i = omega arith

cons_bytes : (x : ℕ) (l : List ℕ) → x < 256 → Bytes l → Bytes (x ∷ l)
cons_bytes x l h b zero = h
cons_bytes x l h b (suc i) = b i

pub drop_bytes : (n : ℕ) (l : List ℕ) → Bytes l → Bytes (drop n l)
drop_bytes n l b i = rw (get_or-drop n l i 0) (b (n + i))

take_bytes : (n : ℕ) (l : List ℕ) → Bytes l → Bytes (take n l)
take_bytes zero l b = none_bytes
take_bytes (suc n) [] b = none_bytes
take_bytes (suc n) (x ∷ l) b = cons_bytes x (take n l) (b 0) (take_bytes n l (λ i. b (suc i)))

append_bytes : (l m : List ℕ) → Bytes l → Bytes m → Bytes (l ++ m)
append_bytes [] m b c = c
append_bytes (x ∷ l) m b c = cons_bytes x (l ++ m) (b 0) (append_bytes l m (λ i. b (suc i)) c)

blank_bytes : (n : ℕ) → Bytes (replicate n 0xFF)
blank_bytes zero = none_bytes
blank_bytes (suc n) = cons_bytes 0xFF (replicate n 0xFF) (omega arith) (blank_bytes n)

pub word_of : (l : List ℕ) (i : ℕ) → Bytes l → Word (word_at l i)
word_of l i b = omega (arith, b i, b (i + 1), b (i + 2), b (i + 3))

module _ (S : ℕ) (F : List ℕ) (b : Bytes F) where
  put_bytes : (t : ℕ) (x : List ℕ) → Bytes x → Bytes (put_sector S F t x)
  unfolding put_sector
  put_bytes t x c =
      append_bytes (take (t * S) F) (x ++ drop S (drop (t * S) F)) (take_bytes (t * S) F b)
      (append_bytes x (drop S (drop (t * S) F)) c (drop_bytes S (drop (t * S) F) (drop_bytes (t * S) F b)))

  -- a store, and one that was cut
  pub stored_bytes : (store : Store) → Bytes (stored S store F)
  unfolding stored erased fit sector
  stored_bytes (Erase t) = put_bytes t (replicate S 0xFF) (blank_bytes S)
  stored_bytes (Write t s n) =
      let x : List ℕ = take S (drop (s * S) F) in
      put_bytes t (take n x ++ replicate (S - n) 0xFF) (append_bytes (take n x) _ (take_bytes n x (take_bytes S (drop (s * S) F) (drop_bytes (s * S) F b))) (blank_bytes (S - n)))
  stored_bytes Record = b
  stored_bytes Last = b

  pub spoilt_bytes : (store : Store) (x : List ℕ) → Bytes x → Bytes (spoilt S store x F)
  unfolding spoilt
  spoilt_bytes (Erase t) x c = put_bytes t x c
  spoilt_bytes (Write t s n) x c = put_bytes t x c
  spoilt_bytes Record x c = b
  spoilt_bytes Last x c = b

  -- the erasure after the checks
  pub checked_bytes : (c : Checked) → Bytes (flash_after S c F)
  unfolding erased
  checked_bytes (Good p size version) = b
  checked_bytes (Fails failure) = b
  checked_bytes (Erases failure p) = put_bytes p (replicate S 0xFF) (blank_bytes S)
