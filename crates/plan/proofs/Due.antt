-- Which store is next, read off the progress.
use Prim.Native.Nat.{ℕ, ◌+◌, ◌-◌, ◌≤◌, ◌<◌, min}
use mathlib.Core.Bool.{Bool}
use mathlib.Core.Path.{◌≡◌, refl}
use native.Mathlib.Omega.{arith}
use Rattle.basics.specs.Choice.{pick}
use Rattle.plan.specs.declared.Store.{Store}
use Rattle.plan.specs.declared.Store.TheVariants.{Erase, Write, Record, Last}
use Rattle.plan.specs.Stores.{Plan, steps, next, wants}
use Rattle.plan.proofs.Tests.{Told, holds, fails, below, same}

pub wants_is : (P : Plan) (k : ℕ) → wants P k ≡ min 1 (P.moved - k) + min 1 (steps P - k)
unfolding wants pick
wants_is P k = go (below k P.moved) (below k (steps P))
  where
    go : {b c : Bool} → Told (k < P.moved) (P.moved ≤ k) b → Told (k < steps P) (steps P ≤ k) c
        → pick b 2 (pick c 1 0) ≡ min 1 (P.moved - k) + min 1 (steps P - k)
    go (holds h) c = omega arith
    go (fails h) (holds h') = omega arith
    go (fails h) (fails h') = omega arith

-- what is so when a store is the next one
unfoldable pub Due : Plan → ℕ → ℕ → Store → Type 0
Due P k m (Erase t) = (k < steps P) × (m ≡ 0) × (t ≡ P.target k)
Due P k m (Write t s n) = (k < P.moved) × (m ≡ 1) × (t ≡ P.target k) × (s ≡ P.source k) × (n ≡ P.kept k)
Due P k m Record = (k < steps P) × (m ≡ wants P k)
Due P k m Last = (k ≡ steps P) × (m ≡ 0)

pub due : (P : Plan) (k m : ℕ) → k ≤ steps P → m ≤ wants P k → Due P k m (next P k m)
unfolding Due next pick
due P k m low most = go (below k P.moved) (below k (steps P)) (same m 0) (same m 1)
  where
    go : {a b c d : Bool} → Told (k < P.moved) (P.moved ≤ k) a → Told (k < steps P) (steps P ≤ k) b → Told (m ≡ 0) (m ≡ 0 → ⊥) c → Told (m ≡ 1) (m ≡ 1 → ⊥) d
        → Due P k m (pick a (pick c (Erase (P.target k)) (pick d (Write (P.target k) (P.source k) (P.kept k)) Record)) (pick b (pick c (Erase (P.target k)) Record) Last))
    go (holds h) b (holds e) d = (omega arith, e, refl)
    go (holds h) b (fails e) (holds e') = (h, e', refl, refl, refl)
    go (holds h) b (fails e) (fails e') = (omega arith, omega (arith, wants_is P k))
    go (fails h) (holds h') (holds e) d = (h', e, refl)
    go (fails h) (holds h') (fails e) d = (h', omega (arith, wants_is P k))
    go (fails h) (fails h') c d = (omega arith, omega (arith, wants_is P k))
