-- The cleared sectors, as the rules list them, are those that the plan clears; and how many stores a job has.
use Prim.Native.Nat.{ℕ, zero, suc, ◌+◌, ◌-◌, ◌*◌, ◌≤◌, ◌<◌, min}
use mathlib.Core.Bool.{Bool, ◌&&◌, ◌||◌}
use mathlib.Core.Path.{◌≡◌, refl, sym, ap, ap₂, ◌∙◌}
use mathlib.Core.List.{List, [], ◌∷◌, ◌++◌, append_assoc, append-nil}
use native.Mathlib.Nat.{add-zero, add-suc}
use native.Mathlib.Omega.{arith}
use lib.Dec.{ltb, leb}
use lib.ListN.{length, length-append}
use Rattle.basics.specs.Choice.{pick}
use Rattle.plan.specs.declared.Job.{Job}
use Rattle.plan.specs.Placement.{blocks, goal, those, cleared, cleared_image, cleared_stack, cleared_count, store_count, Able}
use Rattle.plan.specs.Stores.{clearing, plan_of, left}
use Rattle.plan.specs.Final.{chained}
use Rattle.plan.proofs.Tests.{Told, holds, fails, below, up_to, pick_lt, pick_ge}

count : (b c : ℕ) → (b - 0) + 2 * (b + c - 0) + 1 - 0 ≡ 3 * b + 2 * c + 1
count b c = omega arith

pub stores_are : (S top : ℕ) (job : Job) → left (plan_of S top job) 0 0 ≡ store_count S top job
unfolding left plan_of
stores_are S top job = count (blocks S job) (cleared_count S top job)

chained_same : (n : ℕ) {f g : ℕ → List ℕ} → ((i : ℕ) → i < n → f i ≡ g i) → chained n f ≡ chained n g
unfolding chained
chained_same zero e = refl
chained_same (suc n) e = ap₂ ◌++◌ (chained_same n λ i h. e i (omega arith)) (e n (omega arith))

chained_add : (a n : ℕ) (f : ℕ → List ℕ) → chained (a + n) f ≡ chained a f ++ chained n (λ i. f (a + i))
unfolding chained
chained_add a zero f = rw (add-zero, append-nil) refl
chained_add a (suc n) f = rw (add-suc, ← append_assoc) (ap (λ (l : List ℕ). l ++ f (a + n)) (chained_add a n f))

length_chained_one : (n : ℕ) (f : ℕ → ℕ) → length (chained n (λ i. f i ∷ [])) ≡ n
unfolding chained
length_chained_one zero f = refl
length_chained_one (suc n) f = rw length-append (omega (arith, length_chained_one n f))

-- x, x + 1 .. x + n - 1
unfoldable run : ℕ → ℕ → List ℕ
run x n = chained n (λ i. (x + i) ∷ [])

run_none : (x n : ℕ) → n ≡ 0 → run x n ≡ []
unfolding run chained
run_none x n e = rw e refl

-- one run behind another, with nothing more, one more of the first before the second begins, or one more of the second
module _ (p boundary : ℕ) where
  none_more : (a c a' c' : ℕ) → a' ≡ a → c' ≡ c → (run p a ++ run boundary c) ++ [] ≡ run p a' ++ run boundary c'
  none_more a c a' c' e e' = rw (append-nil, e, e') refl

  first_more : (a c a' c' t : ℕ) → c ≡ 0 → c' ≡ 0 → a' ≡ suc a → t ≡ p + a → (run p a ++ run boundary c) ++ (t ∷ []) ≡ run p a' ++ run boundary c'
  unfolding run chained
  first_more a c a' c' t e e' e-a e-t = rw (e, e', e-a, e-t, append-nil, append-nil) refl

  second_more : (a c a' c' t : ℕ) → a' ≡ a → c' ≡ suc c → t ≡ boundary + c → (run p a ++ run boundary c) ++ (t ∷ []) ≡ run p a' ++ run boundary c'
  unfolding run chained
  second_more a c a' c' t e-a e-c e-t = rw (e-a, e-c, e-t, append_assoc) refl

module _ (p b boundary : ℕ) (room : p + b + 1 ≤ boundary) where
  abbrev test : ℕ → Bool
  test t = (leb p t && ltb t (p + b)) || leb boundary t

  -- those below n: of the image, then of the old stack
  those_are : (n : ℕ) → those test n ≡ run p (min b (n - p)) ++ run boundary (n - boundary)
  unfolding those pick
  those_are zero = sym (ap₂ ◌++◌ (run_none p (min b (0 - p)) (omega arith)) (run_none boundary (0 - boundary) (omega arith)))
  those_are (suc n) = rw (those_are n) (go (up_to p n) (below n (p + b)) (up_to boundary n))
    where
      go : {x y z : Bool} → Told (p ≤ n) (n < p) x → Told (n < p + b) (p + b ≤ n) y → Told (boundary ≤ n) (n < boundary) z
          → (run p (min b (n - p)) ++ run boundary (n - boundary)) ++ pick ((x && y) || z) (n ∷ []) []
          ≡ run p (min b (suc n - p)) ++ run boundary (suc n - boundary)
      go (holds h) (holds h') z = first_more p boundary _ _ _ _ n (omega arith) (omega arith) (omega arith) (omega arith)
      go (holds h) (fails h') (holds l) = second_more p boundary _ _ _ _ n (omega arith) (omega arith) (omega arith)
      go (holds h) (fails h') (fails l) = none_more p boundary _ _ _ _ (omega arith) (omega arith)
      go (fails h) y (holds l) = absurd (omega arith)
      go (fails h) y (fails l) = none_more p boundary _ _ _ _ (omega arith) (omega arith)

behind : (c x y i : ℕ) → pick (ltb (c + i) c) x (y + (c + i - c)) ≡ y + i
behind c x y i = let e : y + (c + i - c) ≡ y + i = omega arith in pick_ge {k = c + i} {n = c} _ _ (omega arith) ∙ e

module _ {S top : ℕ} {job : Job} (able : Able S top job) where
  pub cleared_are : cleared S top job ≡ chained (cleared_count S top job) (λ i. clearing S top job i ∷ [])
  unfolding cleared run
  cleared_are =
      those_are job.p (blocks S job) job.boundary able.room (goal S top job)
      ∙ sym (chained_add (cleared_image S top job) (cleared_stack S top job) _
      ∙ ap₂ ◌++◌ (chained_same (cleared_image S top job) λ i h. ap (λ (t : ℕ). t ∷ []) (pick_lt _ _ h)) (chained_same (cleared_stack S top job) λ i h. ap (λ (t : ℕ). t ∷ []) (behind (cleared_image S top job) _ job.boundary i)))

  pub cleared_count_lem : length (cleared S top job) ≡ cleared_count S top job
  cleared_count_lem = ap length cleared_are ∙ length_chained_one (cleared_count S top job) (clearing S top job)
