-- What the same job never cut leaves in each sector.
use Prim.Native.Nat.{ℕ, zero, suc, ◌*◌, ◌≤◌, ◌<◌}
use mathlib.Core.Bool.{Bool}
use mathlib.Core.Path.{◌≡◌, refl, ◌∙◌}
use mathlib.Core.Logic.{◌≢◌}
use mathlib.Core.List.{List}
use native.Mathlib.Decide.{dec_lt}
use native.Mathlib.Omega.{arith}
use lib.ListN.{length}
use Rattle.basics.specs.Choice.{pick}
use Rattle.sectors.specs.Sectors.{sector, erased, fit}
use Rattle.sectors.proofs.Laws.{length_put, sector_put_same, sector_put_other, length_erased, length_fit, sector_length}
use Rattle.plan.specs.Stores.{Plan, steps}
use Rattle.plan.specs.Safe.{Safe}
use Rattle.plan.specs.Uncut.{content, after}
use Rattle.plan.proofs.Tests.{Told, holds, fails, below, pick_lt, pick_ge}

module _ (S : ℕ) (P : Plan) (k : ℕ) where
  pub content_copy : (F : List ℕ) → k < P.moved → content S P k F ≡ fit S (P.kept k) (sector S F (P.source k))
  unfolding content
  content_copy F h = pick_lt _ _ h

  pub content_clear : (F : List ℕ) → P.moved ≤ k → content S P k F ≡ erased S
  unfolding content
  content_clear F h = pick_ge _ _ h

module _ {S N : ℕ} {P : Plan} (safe : Safe S N P) (F₀ : List ℕ) (sized : length F₀ ≡ N * S) where
  pub length_content : (k : ℕ) → length (content S P k F₀) ≡ S
  unfolding content pick
  length_content k = go (below k P.moved)
    where
      go : {b : Bool} → Told (k < P.moved) (P.moved ≤ k) b → length (pick b (fit S (P.kept k) (sector S F₀ (P.source k))) (erased S)) ≡ S
      go (holds h) = length_fit S (P.kept k) _ (sector_length S N F₀ sized (P.source k) (safe.sources k h)) (safe.whole k h)
      go (fails h) = length_erased S

  pub length_after : (k : ℕ) → k ≤ steps P → length (after S P F₀ k) ≡ N * S
  unfolding after
  length_after zero h = sized
  length_after (suc k) h =
      length_put S N (after S P F₀ k) (length_after k (omega arith)) (P.target k) (safe.targets k h) _ (length_content k)

  here : (n : ℕ) → n < steps P → sector S (after S P F₀ (suc n)) (P.target n) ≡ content S P n F₀
  unfolding after
  here n h = sector_put_same S N (after S P F₀ n) (length_after n (omega arith)) (P.target n) (safe.targets n h) _ (length_content n)

  elsewhere : (n : ℕ) → n < steps P → (s : ℕ) → s ≢ P.target n → sector S (after S P F₀ (suc n)) s ≡ sector S (after S P F₀ n) s
  unfolding after
  elsewhere n h = sector_put_other S N (after S P F₀ n) (length_after n (omega arith)) (P.target n) (safe.targets n h) _ (length_content n)

  -- a sector to which no step stores
  pub after_other : (s k : ℕ) → k ≤ steps P → ((j : ℕ) → j < k → s ≢ P.target j) → sector S (after S P F₀ k) s ≡ sector S F₀ s
  after_other s zero h ne = unfold after in refl
  after_other s (suc k) h ne = elsewhere k h s (ne k (omega arith)) ∙ after_other s k (omega arith) λ j l. ne j (omega arith)

  -- the sector of step k, to which no later step stores
  pub after_at : (k n : ℕ) → k < n → n ≤ steps P → ((j : ℕ) → k < j → j < n → P.target k ≢ P.target j)
      → sector S (after S P F₀ n) (P.target k) ≡ content S P k F₀
  after_at k zero l h ne = absurd (omega arith)
  after_at k (suc n) l h ne = go (dec_lt k n) λ lt. after_at k n lt (omega arith) λ j a b. ne j a (omega arith)
    where
      go : Dec (k < n) → (k < n → sector S (after S P F₀ n) (P.target k) ≡ content S P k F₀)
          → sector S (after S P F₀ (suc n)) (P.target k) ≡ content S P k F₀
      go (yes lt) before = elsewhere n h (P.target k) (ne n lt (omega arith)) ∙ before lt
      go (no ge) before = let e : k ≡ n = omega arith in rw e (here n h)
