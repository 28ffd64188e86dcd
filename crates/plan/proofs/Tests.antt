-- A test on numbers together with what it says: to match on `below k n` is to go by cases on `ltb k n` with the fact in hand.
use Prim.Native.Nat.{ℕ, ◌≤◌, ◌<◌}
use mathlib.Core.Bool.{Bool, true, false}
use mathlib.Core.Path.{◌≡◌, refl, sym}
use lib.Dec.{ltb, leb, eqb}
use borrow.Author.Tests.{ltb-true, ltb-false, leb-true, leb-false, eqb-true, eqb-false, lt-ltb, le-ltb, eq-eqb, ne_eqb}
use Rattle.basics.specs.Choice.{pick, yes_by, no_by}

-- what a test says: A where it holds, B where it fails
pub data Told (A B : Type 0) : Bool → Type 0 where
  holds : A → Told A B true
  fails : B → Told A B false

told : {A B : Type 0} (b : Bool) → (b ≡ true → A) → (b ≡ false → B) → Told A B b
told true y n = holds (y refl)
told false y n = fails (n refl)

pub below : (k n : ℕ) → Told (k < n) (n ≤ k) (ltb k n)
below k n = told (ltb k n) (ltb-true k n) (ltb-false k n)

pub up_to : (k n : ℕ) → Told (k ≤ n) (n < k) (leb k n)
up_to k n = told (leb k n) (leb-true k n) (leb-false k n)

pub same : (m n : ℕ) → Told (m ≡ n) (m ≡ n → ⊥) (eqb m n)
same m n = told (eqb m n) (eqb-true m n) (eqb-false m n)

-- a choice whose test is known
pub pick_lt : {A : Type 0} {k n : ℕ} (a b : A) → k < n → pick (ltb k n) a b ≡ a
pick_lt {k = k} {n = n} a b h = sym (yes_by (ltb k n) a b a (lt-ltb k n h) refl)

pub pick_ge : {A : Type 0} {k n : ℕ} (a b : A) → n ≤ k → pick (ltb k n) a b ≡ b
pick_ge {k = k} {n = n} a b h = sym (no_by (ltb k n) a b b (le-ltb k n h) refl)

pub pick_eq : {A : Type 0} {m n : ℕ} (a b : A) → m ≡ n → pick (eqb m n) a b ≡ a
pick_eq {m = m} {n = n} a b h = sym (yes_by (eqb m n) a b a (eq-eqb m n h) refl)

pub pick_ne : {A : Type 0} {m n : ℕ} (a b : A) → (m ≡ n → ⊥) → pick (eqb m n) a b ≡ b
pick_ne {m = m} {n = n} a b h = sym (no_by (eqb m n) a b b (ne_eqb m n h) refl)
