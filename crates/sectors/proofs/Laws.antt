-- Reading a sector of a flash and storing one: what a store leaves there, elsewhere, and of an earlier store.
use mathlib.Core.Path.{◌≡◌, refl, sym, ap, ap₂, ◌∙◌}
use mathlib.Core.Logic.{◌≢◌}
use mathlib.Core.List.{List, [], ◌∷◌, ◌++◌, append_assoc}
use Prim.Native.Nat.{ℕ, zero, suc, ◌+◌, ◌-◌, ◌*◌, ◌≤◌, ◌<◌}
use native.Mathlib.Nat.{mul-le-mul_right, suc-mul, add_comm, zero-mul, zero-lt-suc}
use native.Mathlib.Decide.{dec_lt}
use native.Mathlib.Omega.{arith}
use lib.ListN.{length, take, drop, length-append, length-drop, length-take, length-replicate, take-append-drop}
use lib.Seq.{length-take-le, take_at, drop_at, drop-drop, take-take}
use Rattle.sectors.specs.Sectors.{sector, put_sector, erased, fit}

-- sector t, and with it all before it, lie inside
pub inside : (S : ℕ) {t N : ℕ} → t < N → t * S + S ≤ N * S
inside S {t} {N} h = omega (arith, mul-le-mul_right S h)

-- the same, as the stores of src/ ask it
pub reaches : (S N : ℕ) (F : List ℕ) → length F ≡ N * S → (t : ℕ) → t < N → (t + 1) * S ≤ length F
reaches S N F sized t h = rw sized (mul-le-mul_right {m = t + 1} {n = N} S (omega arith))

pub length_erased : (S : ℕ) → length (erased S) ≡ S
unfolding erased
length_erased S = length-replicate S 0xFF

pub length_fit : (S n : ℕ) (x : List ℕ) → length x ≡ S → n ≤ S → length (fit S n x) ≡ S
unfolding fit
length_fit S n x e h = simp (length-append, length-replicate, length-take) (omega arith)

pub sector_length : (S N : ℕ) (F : List ℕ) → length F ≡ N * S → (s : ℕ) → s < N → length (sector S F s) ≡ S
unfolding sector
sector_length S N F e s h = simp (length-take, length-drop) (omega (arith, inside S h))

around : (S t : ℕ) (y A B : List ℕ) → take (t * S) A ≡ take (t * S) B → drop (t * S + S) A ≡ drop (t * S + S) B → put_sector S A t y ≡ put_sector S B t y
unfolding put_sector
around S t y A B e₁ e₂ = simp drop-drop (ap₂ (λ (u v : List ℕ). u ++ (y ++ v)) e₁ e₂)

-- a part of a part
pub part : (a n k : ℕ) (l : List ℕ) → a + k ≤ n → take k (drop a l) ≡ take k (drop a (take n l))
part zero n k l h = sym (take-take k n l (omega arith))
part (suc a) zero k l h = absurd (omega arith)
part (suc a) (suc n) k [] h = refl
part (suc a) (suc n) k (x ∷ l) h = part a n k l (omega arith)

-- a sector that lies in a part in which two lists agree
sector_part : (S s n : ℕ) (A B : List ℕ) → s * S + S ≤ n → take n A ≡ take n B → sector S A s ≡ sector S B s
unfolding sector
sector_part S s n A B h e =
    part (s * S) n S A h ∙ ap (λ (l : List ℕ). take S (drop (s * S) l)) e ∙ sym (part (s * S) n S B h)

sector_rest : (S s n : ℕ) (A B : List ℕ) → n ≤ s * S → drop n A ≡ drop n B → sector S A s ≡ sector S B s
unfolding sector
sector_rest S s n A B h e = ap (take S) (beyond A ∙ ap (drop (s * S - n)) e ∙ sym (beyond B))
  where
    beyond : (l : List ℕ) → drop (s * S) l ≡ drop (s * S - n) (drop n l)
    beyond l = let e : s * S ≡ n + (s * S - n) = omega arith in rw drop-drop (ap (λ (k : ℕ). drop k l) e)

-- a store of x to sector t, which lies inside
module _ (S : ℕ) (F : List ℕ) (t : ℕ) (fits : t * S + S ≤ length F) (x : List ℕ) (whole : length x ≡ S) where
  front : length (take (t * S) F) ≡ t * S
  front = length-take-le (t * S) F (omega arith)

  up_to : length (take (t * S) F ++ x) ≡ t * S + S
  up_to = length-append (take (t * S) F) x ∙ ap₂ ◌+◌ front whole

  before_put : take (t * S) (put_sector S F t x) ≡ take (t * S) F
  unfolding put_sector
  before_put = take_at (take (t * S) F) _ (t * S) front

  after_put : drop (t * S + S) (put_sector S F t x) ≡ drop (t * S + S) F
  unfolding put_sector
  after_put = simp (drop-drop, ← append_assoc) (drop_at (take (t * S) F ++ x) _ (t * S + S) up_to)

  pub stored_length : length (put_sector S F t x) ≡ length F
  unfolding put_sector
  stored_length = simp (length-append, length-drop) (omega (arith, front))

  pub stored_same : sector S (put_sector S F t x) t ≡ x
  unfolding sector put_sector
  stored_same = rw (drop_at (take (t * S) F) _ (t * S) front) (take_at x _ S whole)

  -- a store is a function of what lies around the sector
  pub stored_twice : (y : List ℕ) → put_sector S (put_sector S F t x) t y ≡ put_sector S F t y
  stored_twice y = around S t y (put_sector S F t x) F before_put after_put

  pub stored_other : (s : ℕ) → s ≢ t → sector S (put_sector S F t x) s ≡ sector S F s
  stored_other s ne = elim (dec_lt s t) [ yes h ↦ below h | no h ↦ above (omega arith) ]
    where
      below : s < t → sector S (put_sector S F t x) s ≡ sector S F s
      below h = sector_part S s (t * S) (put_sector S F t x) F (omega (arith, inside S h)) before_put

      above : t < s → sector S (put_sector S F t x) s ≡ sector S F s
      above h = sector_rest S s (t * S + S) (put_sector S F t x) F (omega (arith, inside S h)) after_put

-- the same for a flash of N sectors
module _ (S N : ℕ) (F : List ℕ) (sized : length F ≡ N * S) (t : ℕ) (low : t < N) (x : List ℕ) (whole : length x ≡ S) where
  fits : t * S + S ≤ length F
  fits = omega (arith, inside S low)

  pub length_put : length (put_sector S F t x) ≡ N * S
  length_put = stored_length S F t fits x whole ∙ sized

  pub sector_put_same : sector S (put_sector S F t x) t ≡ x
  sector_put_same = stored_same S F t fits x whole

  pub put_put : (y : List ℕ) → put_sector S (put_sector S F t x) t y ≡ put_sector S F t y
  put_put = stored_twice S F t fits x whole

  pub sector_put_other : (s : ℕ) → s ≢ t → sector S (put_sector S F t x) s ≡ sector S F s
  sector_put_other = stored_other S F t fits x whole

-- two flashes are the same if their sectors are
pub ext : (S N : ℕ) (F G : List ℕ) → length F ≡ N * S → length G ≡ N * S → ((t : ℕ) → t < N → sector S F t ≡ sector S G t) → F ≡ G
unfolding sector
ext S zero [] [] f g same = refl
ext S zero [] (y ∷ ys) f g same = absurd (omega (arith, zero-mul S))
ext S zero (x ∷ xs) G f g same = absurd (omega (arith, zero-mul S))
ext S (suc N) F G f g same =
    sym (take-append-drop S F)
    ∙ ap₂ ◌++◌ (rw zero-mul at (same zero (zero-lt-suc N)))
    (ext S N (drop S F) (drop S G) (simp length-drop (omega arith)) (simp length-drop (omega arith)) λ t h. rw (drop-drop (t * S) S F, drop-drop (t * S) S G, add_comm S, ← suc-mul) (same (suc t) (omega arith)))
    ∙ take-append-drop S G
