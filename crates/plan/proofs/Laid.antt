-- A flash is the one that the rules say if its sectors are.
use Prim.Native.Nat.{ℕ, zero, suc, ◌+◌, ◌-◌, ◌*◌, ◌≤◌, ◌<◌, min}
use mathlib.Core.Path.{◌≡◌, sym, ap, ◌∙◌}
use mathlib.Core.List.{List, ◌++◌, append_assoc}
use native.Mathlib.Nat.{zero-mul, add-mul, mul-le-mul_right}
use native.Mathlib.Decide.{dec_lt}
use native.Mathlib.Omega.{arith}
use lib.ListN.{length, take, drop, replicate, length-replicate, length-append, length-drop}
use lib.Seq.{length-take-le, drop_at, take_at, drop-append-add, drop-drop}
use Rattle.sectors.specs.Sectors.{sector, fit}
use Rattle.sectors.proofs.Laws.{inside, ext}
use Rattle.plan.specs.Final.{chained}
use Rattle.plan.proofs.Padded.{padded}

module _ (S M : ℕ) (f : ℕ → List ℕ) (whole : (t : ℕ) → t < M → length (f t) ≡ S) where
  length_chained : (n : ℕ) → n ≤ M → length (chained n f) ≡ n * S
  unfolding chained
  length_chained zero h = sym (zero-mul S)
  length_chained (suc n) h = rw length-append (omega (arith, length_chained n (omega arith), whole n h))

  sector_chained : (n t : ℕ) (R : List ℕ) → n ≤ M → t < n → sector S (chained n f ++ R) t ≡ f t
  unfolding chained
  sector_chained zero t R m h = absurd (omega arith)
  sector_chained (suc n) t R m h = go (dec_lt t n) λ l. sector_chained n t (f n ++ R) (omega arith) l
    where
      go : Dec (t < n) → (t < n → sector S (chained n f ++ (f n ++ R)) t ≡ f t) → sector S ((chained n f ++ f n) ++ R) t ≡ f t
      go (yes l) ih = rw append_assoc (ih l)
      go (no l) ih =
          let e : t ≡ n = omega arith in
          rw (e, append_assoc)
          (unfold sector in (ap (take S) (drop_at (chained n f) _ (n * S) (length_chained n (omega arith))) ∙ take_at (f n) R S (whole n m)))

-- a sector behind a front of whole sectors
sector_behind : (S n i : ℕ) (A R : List ℕ) → length A ≡ n * S → sector S (A ++ R) (n + i) ≡ sector S R i
unfolding sector
sector_behind S n i A R e = rw (add-mul, ← e) (ap (take S) (drop-append-add A R (i * S)))

sector_drop : (S n i : ℕ) (F : List ℕ) → sector S (drop (n * S) F) i ≡ sector S F (n + i)
unfolding sector
sector_drop S n i F = rw (add-mul, drop-drop)

-- F is the flash before, G the flash after. Below q the sectors are f's; b sectors from q on hold `size` bytes of what was at p
module _ (S N q b p size top : ℕ) (f : ℕ → List ℕ) (F G : List ℕ) (sizedF : length F ≡ N * S) (sizedG : length G ≡ N * S)
    (whole : (t : ℕ) → t < q → length (f t) ≡ S) (join : q + b ≡ top) (lent : top ≤ N) (fits : size ≤ b * S) (there : p * S + size ≤ N * S) where
  Text : List ℕ
  Text = take size (drop (p * S) F)

  Front : List ℕ
  Front = (chained q f ++ Text) ++ replicate (b * S - size) 0xFF

  room : q * S + b * S ≡ top * S
  room = sym (add-mul q b S) ∙ ap (λ (n : ℕ). n * S) join

  text_there : size ≤ length (drop (p * S) F)
  text_there = rw length-drop (omega arith)

  length_low : length (chained q f) ≡ q * S
  length_low = length_chained S q f whole q (omega arith)

  length_front : length Front ≡ top * S
  unfolding Front Text
  length_front =
      simp (length-append, length-replicate) (omega (arith, length_low, length-take-le size (drop (p * S) F) text_there, room))

  middle : (i : ℕ) → i < b → sector S (Front ++ drop (top * S) F) (q + i) ≡ fit S (min S (size - i * S)) (sector S F (p + i))
  unfolding Front Text sector
  middle i h =
      simp append_assoc
      (sector_behind S q i (chained q f) _ length_low
      ∙ padded S size (b * S - size) (i * S) (drop (p * S) F) _ text_there (omega (arith, inside S h))
      ∙ ap (fit S (min S (size - i * S))) (sector_drop S p i F))

  early : (t : ℕ) → t < q → sector S (Front ++ drop (top * S) F) t ≡ f t
  unfolding Front
  early t h = simp append_assoc (sector_chained S q f whole q t _ (omega arith) h)

  late : (t : ℕ) → top ≤ t → sector S (Front ++ drop (top * S) F) t ≡ sector S F t
  late t h =
      let e : t ≡ top + (t - top) = omega arith in
      ap (sector S (Front ++ drop (top * S) F)) e ∙ sector_behind S top (t - top) Front _ length_front ∙ sector_drop S top (t - top) F
      ∙ sym (ap (sector S F) e)

  pub laid_out : ((t : ℕ) → t < q → sector S G t ≡ f t)
      → ((i : ℕ) → i < b → sector S G (q + i) ≡ fit S (min S (size - i * S)) (sector S F (p + i)))
      → ((t : ℕ) → top ≤ t → t < N → sector S G t ≡ sector S F t)
      → G ≡ chained q f ++ ((take size (drop (p * S) F) ++ replicate (b * S - size) 0xFF) ++ drop (top * S) F)
  laid_out below inner beyond =
      ext S N G (Front ++ drop (top * S) F) sizedG length_all (λ t h. at t h (dec_lt t q) (dec_lt t top)) ∙ (unfold Front Text in simp append_assoc)
    where
      length_all : length (Front ++ drop (top * S) F) ≡ N * S
      length_all = rw (length-append, length-drop) (omega (arith, length_front, mul-le-mul_right S lent))

      at : (t : ℕ) → t < N → Dec (t < q) → Dec (t < top) → sector S G t ≡ sector S (Front ++ drop (top * S) F) t
      at t n (yes h) d = below t h ∙ sym (early t h)
      at t n (no h) (yes l) =
          let e : t ≡ q + (t - q) = omega arith in
          ap (sector S G) e ∙ inner (t - q) (omega arith) ∙ sym (ap (sector S (Front ++ drop (top * S) F)) e ∙ middle (t - q) (omega arith))
      at t n (no h) (no l) = beyond t (omega arith) n ∙ sym (late t (omega arith))
