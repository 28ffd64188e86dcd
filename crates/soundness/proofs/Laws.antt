-- Laws that several proofs cite.
use Prim.Native.Nat.{ℕ, zero, suc, ◌≤◌, ◌<◌}
use mathlib.Core.Path.{◌≡◌, refl}
use mathlib.Core.Bool.{Bool, true, false}
use native.Mathlib.Omega.{arith}
use borrow.Author.Tests.{ltb-true, ltb-false}
use lib.Dec.{ltb}
use Rattle.basics.specs.Choice.{pick, and_left, and_right}
use Rattle.device.specs.Types.{Step}
use Rattle.soundness.specs.Sound.{all_below}

-- a test of each number below n, as a computed test and as a fact of each
pub all_below_lem : (n : ℕ) (f : ℕ → Bool) → ((i : ℕ) → i < n → f i ≡ true) → all_below n f ≡ true
unfolding all_below
all_below_lem zero f h = refl
all_below_lem (suc n) f h =
    let front : all_below n f ≡ true = all_below_lem n f (λ i g. h i (omega arith)) in
    let last : f n ≡ true = h n (omega arith) in
    rw (front, last)

last_below : (n : ℕ) (f : ℕ → Bool) (i : ℕ) (b : Bool) → ltb i n ≡ b → (i < n → f i ≡ true) → f n ≡ true → i < suc n → f i ≡ true
last_below n f i true t front last h = front (ltb-true i n t)
last_below n f i false t front last h =
    let g : n ≤ i = ltb-false i n t in
    let e : i ≡ n = omega arith in
    rw e last

pub each_below : (n : ℕ) (f : ℕ → Bool) → all_below n f ≡ true → (i : ℕ) → i < n → f i ≡ true
unfolding all_below
each_below zero f e i h = let z : ⊥ = omega arith in absurd z
each_below (suc n) f e i h =
    last_below n f i (ltb i n) refl (λ g. each_below n f (and_left (all_below n f) (f n) e) i g) (and_right (all_below n f) (f n) e) h

-- what holds of either step holds of the one that is picked
pub chosen : (P : Step → Type 0) (t : Bool) (a b : Step) → (t ≡ true → P a) → (t ≡ false → P b) → P (pick t a b)
unfolding pick
chosen P true a b p q = p refl
chosen P false a b p q = q refl
