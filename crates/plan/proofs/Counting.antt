-- Each store takes one off the stores that are still to do, and how many these are at most and at least.
use Prim.Native.Nat.{ℕ, suc, ◌+◌, ◌-◌, ◌*◌, ◌≤◌, ◌<◌}
use mathlib.Core.Path.{◌≡◌}
use native.Mathlib.Decide.{dec_lt}
use native.Mathlib.Omega.{arith}
use Rattle.plan.specs.declared.Store.{Store}
use Rattle.plan.specs.declared.Store.TheVariants.{Erase, Write, Record, Last}
use Rattle.plan.specs.Stores.{Plan, steps, next, wants, left, onward, left_at}
use Rattle.plan.proofs.Due.{wants_is, Due, due}

module _ (P : Plan) where
  recorded_count : {k m : ℕ} → k < steps P → m ≡ wants P k → suc (left P (suc k) 0) ≡ left P k m
  unfolding left
  recorded_count {k} {m} l e = elim (dec_lt k P.moved) [ yes h ↦ copied h | no h ↦ erasing (omega arith) ]
    where
      copied : k < P.moved → suc ((P.moved - suc k) + 2 * (steps P - suc k) + 1 - 0) ≡ (P.moved - k) + 2 * (steps P - k) + 1 - m
      copied h = let w : m ≡ 2 = omega (arith, wants_is P k) in rw w (omega arith)

      erasing : P.moved ≤ k → suc ((P.moved - suc k) + 2 * (steps P - suc k) + 1 - 0) ≡ (P.moved - k) + 2 * (steps P - k) + 1 - m
      erasing h = let w : m ≡ 1 = omega (arith, wants_is P k) in rw w (omega arith)

  due_count : (s : Store) (k m : ℕ) → Due P k m s → suc (left_at P (onward s k m)) ≡ left P k m
  unfolding Due onward left_at left
  due_count (Erase t) k m (l, e, e-t) = omega arith
  due_count (Write t s n) k m (l, e, e-t, e-s, e-n) = omega arith
  due_count Record k m (l, e) = recorded_count l e
  due_count Last k m (e, e') = omega arith

  -- the count is exact
  pub left_less : (k m : ℕ) → k ≤ steps P → m ≤ wants P k → suc (left_at P (onward (next P k m) k m)) ≡ left P k m
  left_less k m low most = due_count (next P k m) k m (due P k m low most)

  pub left_some : (k m : ℕ) → m ≤ wants P k → 0 < left P k m
  unfolding left
  left_some k m most = omega (arith, wants_is P k)

  pub left_most : (k m : ℕ) → left P k m ≤ 3 * P.moved + 2 * P.cleared + 1
  unfolding left
  left_most k m = omega arith
