-- Laws of bytes in lists.
use Prim.Native.Nat.{ℕ, ◌+◌, ◌*◌, ◌/◌, ◌%◌, ◌<◌}
use mathlib.Core.Path.{◌≡◌, refl}
use mathlib.Core.Bool.{Bool, true, false}
use native.Mathlib.Nat.{div-div-eq-div-mul, div-add-mod', mod-eq_of_lt}
use native.Mathlib.Omega.{arith}
use lib.Dec.{leb}
use lib.ListN.{length, length-replicate}
use Rattle.basics.specs.Words.{joined, flag, zeros}

linear : (v q1 q2 q3 r0 r1 r2 r3 : ℕ)
    → q1 * 256 + r0 ≡ v → q2 * 256 + r1 ≡ q1 → q3 * 256 + r2 ≡ q2 → r3 ≡ q3
    → joined r0 r1 r2 r3 ≡ v
linear v q1 q2 q3 r0 r1 r2 r3 a b c g = omega arith

-- a number below 2^32 is what its four bytes stand for
pub unword : (v : ℕ) → v < 4294967296 → joined (v % 256) (v / 256 % 256) (v / 65536 % 256) (v / 16777216 % 256) ≡ v
unword v h =
    let f : v / 16777216 < 256 = omega arith in
    let g : v / 16777216 % 256 ≡ v / 16777216 = mod-eq_of_lt f in
    let a : v / 256 * 256 + v % 256 ≡ v = div-add-mod' v 256 in
    let b : v / 65536 * 256 + v / 256 % 256 ≡ v / 256 = rw (div-div-eq-div-mul v 256 256) at (div-add-mod' (v / 256) 256) in
    let c : v / 16777216 * 256 + v / 65536 % 256 ≡ v / 65536 =
    rw (div-div-eq-div-mul v 65536 256) at (div-add-mod' (v / 65536) 256) in
    linear v (v / 256) (v / 65536) (v / 16777216) (v % 256) (v / 256 % 256) (v / 65536 % 256) (v / 16777216 % 256) a b c g

-- a flag's byte is 0 or 1
pub flag_small : (b : Bool) → leb (flag b) 1 ≡ true
flag_small true = refl
flag_small false = refl

pub length_zeros : (n : ℕ) → length (zeros n) ≡ n
unfolding zeros
length_zeros n = length-replicate {A = ℕ} n 0
