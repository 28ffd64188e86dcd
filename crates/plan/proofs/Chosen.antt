-- Which store is next, and where it goes, told from the tests that the code makes.
use Prim.Native.Nat.{ℕ, ◌+◌, ◌-◌, ◌*◌, ◌≤◌, ◌<◌, min}
use mathlib.Core.Path.{◌≡◌, refl, sym, ◌∙◌}
use native.Mathlib.Numerals.{add-one}
use native.Mathlib.Decide.{dec_lt}
use native.Mathlib.Omega.{arith}
use Rattle.plan.specs.declared.Job.{Job}
use Rattle.plan.specs.declared.Store.TheVariants.{Erase, Write, Record, Last}
use Rattle.plan.specs.Placement.{blocks, cleared_image, cleared_count}
use Rattle.plan.specs.Stores.{Plan, steps, clearing, plan_of, next}
use Rattle.plan.proofs.Tests.{pick_lt, pick_ge, pick_eq, pick_ne}

module _ (P : Plan) (k m : ℕ) where
  pub next_last : steps P ≤ k → next P k m ≡ Last
  unfolding next
  next_last h = let l : P.moved ≤ k = omega arith in pick_ge _ _ l ∙ pick_ge _ _ h

  pub next_erase : k < steps P → m ≡ 0 → next P k m ≡ Erase (P.target k)
  unfolding next
  next_erase h e = elim (dec_lt k P.moved) [
    | yes l ↦ pick_lt _ _ l ∙ pick_eq _ _ e
    | no l ↦ (let l' : P.moved ≤ k = omega arith in pick_ge _ _ l' ∙ pick_lt _ _ h ∙ pick_eq _ _ e)
  ]

  pub next_write : k < P.moved → m ≡ 1 → next P k m ≡ Write (P.target k) (P.source k) (P.kept k)
  unfolding next
  next_write h e = let z : m ≡ 0 → ⊥ = omega arith in pick_lt _ _ h ∙ pick_ne _ _ z ∙ pick_eq _ _ e

  pub next_record : k < steps P → (m ≡ 0 → ⊥) → (k < P.moved → m ≡ 1 → ⊥) → next P k m ≡ Record
  unfolding next
  next_record h z e = elim (dec_lt k P.moved) [
    | yes l ↦ (let w : m ≡ 1 → ⊥ = e l in pick_lt _ _ l ∙ pick_ne _ _ z ∙ pick_ne _ _ w)
    | no l ↦ (let l' : P.moved ≤ k = omega arith in pick_ge _ _ l' ∙ pick_lt _ _ h ∙ pick_ne _ _ z)
  ]

-- the sector of clearing i, where `image` sectors of the image are cleared first
module _ (S top : ℕ) (job : Job) (i image : ℕ) (e : image ≡ cleared_image S top job) where
  pub image_at_lem : i < image → job.p + i ≡ clearing S top job i
  image_at_lem h = sym (pick_lt _ _ (rw e at h))

  pub stack_at : image ≤ i → job.boundary + (i - image) ≡ clearing S top job i
  stack_at h = rw e (sym (pick_ge _ _ (rw e at h)))

-- the stores of step k, where the image has b sectors
module _ (S top : ℕ) (job : Job) (k b : ℕ) (e : b ≡ blocks S job) where
  pub copy_at : k < b → top - b + (b - (k + 1)) ≡ (plan_of S top job).target k
  unfolding plan_of
  copy_at h = rw (e, add-one) (sym (pick_lt _ _ (rw e at h)))

  pub clear_at : b ≤ k → clearing S top job (k - b) ≡ (plan_of S top job).target k
  unfolding plan_of
  clear_at h = rw e (sym (pick_ge _ _ (rw e at h)))

  pub index_low : b ≤ k → k < steps (plan_of S top job) → k - b < cleared_count S top job
  unfolding plan_of
  index_low h l = low (blocks S job) (cleared_count S top job) e l
    where
      low : (a c : ℕ) → b ≡ a → k < a + c → k - b < c
      low a c e l = omega arith

  pub write_at : {t rest n : ℕ} → t ≡ (plan_of S top job).target k → rest ≡ job.size - (b - (k + 1)) * S → n ≡ min S rest
      → Write t (job.p + (b - (k + 1))) n ≡ Write ((plan_of S top job).target k) ((plan_of S top job).source k) ((plan_of S top job).kept k)
  unfolding plan_of
  write_at e-t e-r e-n = rw (e-t, e-n, e-r, e, add-one) refl

module _ (S top : ℕ) (job : Job) where
  pub steps_are : {b c : ℕ} → b ≡ blocks S job → c ≡ cleared_count S top job → b + c ≡ steps (plan_of S top job)
  unfolding plan_of
  steps_are e d = rw (e, d) refl

-- what the code needs of them: which sector a clearing erases, to which a step stores, and which store is next
pub ruleset clearings = (image_at_lem, stack_at)

pub ruleset targets = (copy_at, clear_at, index_low)

pub ruleset choices = (next_last, next_erase, next_write, next_record, steps_are)
