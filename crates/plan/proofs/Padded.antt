-- The sectors of a text with 0xFF behind it.
use Prim.Native.Nat.{ℕ, ◌+◌, ◌-◌, ◌≤◌, ◌<◌, min}
use mathlib.Core.Path.{◌≡◌, sym, ap, ◌∙◌}
use mathlib.Core.List.{List, ◌++◌}
use native.Mathlib.Decide.{dec_lt}
use native.Mathlib.Omega.{arith}
use lib.ListN.{length, get_or, take, drop, replicate, length-replicate, length-append, length-drop, length-take, get_or-replicate, get_or-append}
use lib.Seq.{ext_get_or, get_or-append-add, get_or-take, get_or-drop, length-take-le}
use Rattle.sectors.specs.Sectors.{fit}

module _ (n : ℕ) (X R : List ℕ) (h : n ≤ length X) (i : ℕ) where
  cut_length : length (take n X) ≡ n
  cut_length = length-take-le n X h

  in_text : i < n → get_or (take n X ++ R) i 0 ≡ get_or X i 0
  in_text l = get_or-append (take n X) R 0 i (omega (arith, cut_length)) ∙ get_or-take n X i 0 l

  past_text : n ≤ i → get_or (take n X ++ R) i 0 ≡ get_or R (i - n) 0
  past_text l =
      let e : i ≡ length (take n X) + (i - n) = omega (arith, cut_length) in
      ap (λ (u : ℕ). get_or (take n X ++ R) u 0) e ∙ get_or-append-add (take n X) R (i - n) 0

-- S bytes, from byte a on, of the first `size` bytes of X with enough bytes 0xFF behind them
module _ (S size m a : ℕ) (X Z : List ℕ) (there : size ≤ length X) (enough : a + S ≤ size + m) where
  n : ℕ
  n = min S (size - a)

  L : List ℕ
  L = take size X ++ (replicate m 0xFF ++ Z)

  Y : List ℕ
  Y = take S (drop a X)

  length_left : length (take S (drop a L)) ≡ S
  unfolding L
  length_left = simp (length-take, length-drop, length-append, length-replicate) (omega arith)

  kept : n ≤ length Y
  unfolding n Y
  kept = simp (length-take, length-drop) (omega arith)

  length_same : length (take S (drop a L)) ≡ length (take n Y ++ replicate (S - n) 0xFF)
  unfolding n
  length_same = length_left ∙ simp (length-append, length-replicate) (omega (arith, length-take-le n Y kept))

  module _ (k : ℕ) (low : k < S) where
    left : get_or (take S (drop a L)) k 0 ≡ get_or L (a + k) 0
    left = get_or-take S (drop a L) k 0 low ∙ get_or-drop a L k 0

    text : a + k < size → get_or (take S (drop a L)) k 0 ≡ get_or (take n Y ++ replicate (S - n) 0xFF) k 0
    unfolding n L Y
    text y =
        left ∙ in_text size X _ there (a + k) y
        ∙ sym (in_text n Y _ kept k (omega arith) ∙ get_or-take S (drop a X) k 0 low ∙ get_or-drop a X k 0)

    pad : size ≤ a + k → get_or (take S (drop a L)) k 0 ≡ get_or (take n Y ++ replicate (S - n) 0xFF) k 0
    unfolding n L Y
    pad y =
        left ∙ past_text size X _ there (a + k) y
        ∙ get_or-append (replicate m 0xFF) Z 0 (a + k - size) (simp length-replicate (omega arith))
        ∙ get_or-replicate m (a + k - size) 0xFF 0 (omega arith)
        ∙ sym (past_text n Y _ kept k (omega arith) ∙ get_or-replicate (S - n) (k - n) 0xFF 0 (omega arith))

  pub padded : take S (drop a (take size X ++ (replicate m 0xFF ++ Z))) ≡ fit S (min S (size - a)) (take S (drop a X))
  unfolding fit n L Y
  padded =
      ext_get_or 0 (take S (drop a L)) (take n Y ++ replicate (S - n) 0xFF) length_same λ k h.
      let low : k < S = omega (arith, length_left) in
      elim (dec_lt (a + k) size) [ yes y ↦ text k low y | no y ↦ pad k low (omega arith) ]
