-- A job never cut leaves the flash that the rules say.
use Prim.Native.Nat.{ℕ, ◌+◌, ◌-◌, ◌*◌, ◌/◌, ◌≤◌, ◌<◌, min}
use mathlib.Core.Bool.{Bool, true, false, ◌&&◌, ◌||◌}
use mathlib.Core.Path.{◌≡◌, refl, ap, ◌∙◌}
use mathlib.Core.Logic.{◌≢◌}
use mathlib.Core.List.{List}
use native.Mathlib.Nat.{mul-le-mul_right, div-add-mod', mod-lt}
use native.Mathlib.Omega.{arith}
use lib.ListN.{length}
use Rattle.basics.specs.Choice.{pick}
use Rattle.sectors.specs.Sectors.{sector, erased, fit}
use Rattle.sectors.proofs.Laws.{length_erased, sector_length}
use Rattle.plan.specs.declared.Job.{Job}
use Rattle.plan.specs.Placement.{blocks, goal, held, cleared_image, cleared_stack, Able}
use Rattle.plan.specs.Stores.{steps, place, plan_of}
use Rattle.plan.specs.Uncut.{content, after}
use Rattle.plan.specs.Final.{below_goal, from_goal, final_flash}
use Rattle.plan.proofs.Tests.{Told, holds, fails, below, up_to}
use Rattle.plan.proofs.Uncut.{content_copy, content_clear, length_after, after_other, after_at}
use Rattle.plan.proofs.Aims.{Aim, copy, image, stack, aim_same, aim_once, job_aim, job_safe}
use Rattle.plan.proofs.Laid.{laid_out}

-- the size in sectors holds the size
pub blocks_hold : (S size : ℕ) → 0 < S → size ≤ (size + (S - 1)) / S * S
blocks_hold S size h = omega (arith, div-add-mod' (size + (S - 1)) S, mod-lt (size + (S - 1)) h)

-- to go by whether sector t held image or old stack
by_held : {A : Type 0} (S : ℕ) (job : Job) (t : ℕ) {x y z : A} → (job.boundary ≤ t → z ≡ x) → (job.p ≤ t → t < job.p + blocks S job → z ≡ x)
    → (t < job.boundary → ((i : ℕ) → i < blocks S job → t ≢ job.p + i) → z ≡ y) → z ≡ pick (held S job t) x y
unfolding pick
by_held S job t {x} {y} {z} e f g = go (up_to job.p t) (below t (job.p + blocks S job)) (up_to job.boundary t)
  where
    go : {a b c : Bool} → Told (job.p ≤ t) (t < job.p) a → Told (t < job.p + blocks S job) (job.p + blocks S job ≤ t) b
        → Told (job.boundary ≤ t) (t < job.boundary) c → z ≡ pick ((a && b) || c) x y
    go (holds h) (holds h') c = f h h'
    go (holds h) (fails h') (holds l) = e l
    go (holds h) (fails h') (fails l) = g l λ i l'. omega arith
    go (fails h) b (holds l) = e l
    go (fails h) b (fails l) = g l λ i l'. omega arith

module _ {S top : ℕ} {job : Job} (able : Able S top job) {N : ℕ} (lent : top ≤ N) (F : List ℕ) (sized : length F ≡ N * S) where
  abbrev Last : List ℕ
  Last = after S (plan_of S top job) F (steps (plan_of S top job))

  -- step k stores to sector t, and no later step does
  at_step : (k t : ℕ) → Aim job.p (blocks S job) job.boundary top k t → k < steps (plan_of S top job) → sector S Last t ≡ content S (plan_of S top job) k F
  at_step k t a h =
      rw (aim_same a (job_aim able k h))
      (after_at (job_safe able lent) F sized k _ h (omega arith) λ i l l'. aim_once able.room able.under l (job_aim able k h) (job_aim able i l'))

  in_goal : (i : ℕ) → i < blocks S job → sector S Last (goal S top job + i) ≡ fit S (min S (job.size - i * S)) (sector S F (job.p + i))
  unfolding plan_of
  in_goal i h =
      let k : ℕ = place S job i in
      let l : k < blocks S job = omega arith in
      let e : place S job k ≡ i = omega arith in
      at_step k (goal S top job + i) (copy l (omega (arith, able.room, able.under))) (omega arith)
      ∙ content_copy S (plan_of S top job) k F l
      ∙ ap (λ (n : ℕ). fit S (min S (job.size - n * S)) (sector S F (job.p + n))) e

  in_image : (i : ℕ) → i < cleared_image S top job → sector S Last (job.p + i) ≡ erased S
  unfolding plan_of
  in_image i h = at_step (blocks S job + i) _ (image i h refl refl) (omega arith) ∙ content_clear S (plan_of S top job) (blocks S job + i) F (omega arith)

  in_stack : (i : ℕ) → i < cleared_stack S top job → sector S Last (job.boundary + i) ≡ erased S
  unfolding plan_of
  in_stack i h =
      at_step (blocks S job + cleared_image S top job + i) _ (stack i h refl refl) (omega arith)
      ∙ content_clear S (plan_of S top job) (blocks S job + cleared_image S top job + i) F (omega arith)

  in_none : (t : ℕ) → (goal S top job ≤ t → top ≤ t) → ((i : ℕ) → i < cleared_image S top job → t ≢ job.p + i)
      → ((i : ℕ) → i < cleared_stack S top job → t ≢ job.boundary + i) → sector S Last t ≡ sector S F t
  in_none t a b c = after_other (job_safe able lent) F sized t (steps (plan_of S top job)) (omega arith) λ k h e. miss k (rw e (job_aim able k h))
    where
      miss : (k : ℕ) → Aim job.p (blocks S job) job.boundary top k t → ⊥
      miss k (copy h e) = omega (arith, able.room, able.under, a (omega (arith, able.room, able.under)))
      miss k (image i h e e') = b i h e'
      miss k (stack i h e e') = c i h e'

  below_goal_lem : (t : ℕ) → t < goal S top job → sector S Last t ≡ pick (held S job t) (erased S) (sector S F t)
  below_goal_lem t h =
      by_held S job t
      (λ l. let e : t ≡ job.boundary + (t - job.boundary) = omega arith in rw e (in_stack (t - job.boundary) (omega arith)))
      (λ l l'. let e : t ≡ job.p + (t - job.p) = omega arith in rw e (in_image (t - job.p) (omega arith)))
      (λ l none. in_none t (omega arith) (λ i h'. none i (omega arith)) (omega arith))

  length_piece : (t : ℕ) → t < goal S top job → length (pick (held S job t) (erased S) (sector S F t)) ≡ S
  unfolding pick
  length_piece t h = go (held S job t)
    where
      go : (b : Bool) → length (pick b (erased S) (sector S F t)) ≡ S
      go true = length_erased S
      go false = sector_length S N F sized t (omega arith)

  pub job_done : after S (plan_of S top job) F (steps (plan_of S top job)) ≡ final_flash S top job F
  unfolding final_flash below_goal from_goal
  job_done =
      laid_out S N (goal S top job) (blocks S job) job.p job.size top (λ t. pick (held S job t) (erased S) (sector S F t)) F Last sized
      (length_after (job_safe able lent) F sized _ (omega arith)) length_piece (omega (arith, able.room, able.under)) lent
      (blocks_hold S job.size able.some) inner below_goal_lem in_goal (λ t h h'. in_none t (omega arith) (omega (arith, able.room, able.under)) (omega arith))
    where
      inner : job.p * S + job.size ≤ N * S
      inner =
          let h : job.p + blocks S job ≤ N = omega (arith, able.room, able.under) in
          omega (arith, mul-le-mul_right S h, blocks_hold S job.size able.some)
