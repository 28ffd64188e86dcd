-- The sectors that a flash holds lie inside.
use mathlib.Core.Path.{◌≡◌}
use mathlib.Core.Bool.{Bool, true, false, not, ◌&&◌}
use Prim.Native.Nat.{ℕ, ◌+◌, ◌*◌, ◌/◌, ◌≤◌, ◌<◌}
use native.Mathlib.Nat.{mul-le-mul_right, zero-mul, div-add-mod'}
use native.Mathlib.Omega.{arith}
use lib.Dec.{eqb, leb, ltb}
use borrow.Author.Tests.{ltb-true, leb-true, eqb-false, not-true}
use Rattle.basics.specs.Choice.{pick}
use Rattle.image.proofs.Judging.{both}
use Rattle.leaves.specs.Leaves.{held, copies, searches}

some_held : (z : Bool) (S n b : ℕ) → b ≤ pick z 0 (n / S) → b * S ≤ n
unfolding pick
some_held true S n b h = let e : b ≡ 0 = omega arith in rw (e, zero-mul) (omega arith)
some_held false S n b h = omega (arith, div-add-mod' n S, mul-le-mul_right {m = b} {n = n / S} S h)

held_inside : (S n b : ℕ) → b ≤ held S n → b * S ≤ n
unfolding held
held_inside S n b h = some_held (eqb S 0) S n b h

pub sector_inside : (S n t : ℕ) → t < held S n → (t + 1) * S ≤ n
sector_inside S n t h = held_inside S n (t + 1) (omega arith)

-- what a copy asks
pub copies_inside : (S n s t count : ℕ) → copies S n s t count ≡ true
    → (((s + 1) * S ≤ n) × ((t + 1) * S ≤ n)) × ((count ≤ S) × (s ≡ t → ⊥))
copies_inside S n s t count e =
    let a = ltb s (held S n) in
    let b = ltb t (held S n) in
    let c = leb count S in
    let last = both (a && b && c) (not (eqb s t)) e in
    let third = both (a && b) c last.0 in
    let first = both a b third.0 in (
      (sector_inside S n s (ltb-true s (held S n) first.0), sector_inside S n t (ltb-true t (held S n) first.1)),
      (leb-true count S third.1, eqb-false s t (not-true (eqb s t) last.1)),
    )

-- what a search asks
pub searches_inside : (S n boundary : ℕ) → searches S n boundary ≡ true → (5 ≤ S) × (boundary * S ≤ n)
searches_inside S n boundary e =
    let parts = both (leb 5 S) (leb boundary (held S n)) e in
    (leb-true 5 S parts.0, held_inside S n boundary (leb-true boundary (held S n) parts.1))
