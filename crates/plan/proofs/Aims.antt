-- The plan of a job that can be carried out is safe, and no two of its steps store to one sector.
use Prim.Native.Nat.{ℕ, suc, ◌+◌, ◌-◌, ◌≤◌, ◌<◌, min}
use mathlib.Core.Bool.{Bool}
use mathlib.Core.Path.{◌≡◌, refl}
use mathlib.Core.Logic.{◌≢◌}
use native.Mathlib.Omega.{arith}
use Rattle.basics.specs.Choice.{pick}
use Rattle.plan.specs.declared.Job.{Job}
use Rattle.plan.specs.Placement.{blocks, goal, cleared_image, Able}
use Rattle.plan.specs.Stores.{steps, place, plan_of}
use Rattle.plan.specs.Safe.{Safe}
use Rattle.plan.proofs.Tests.{Told, holds, fails, below}

-- step k of a job with b sectors at p stores to sector t: it copies, or it clears a sector of the image, or of the old stack
pub data Aim (p b boundary top k t : ℕ) : Type 0 where
  copy : k < b → t + suc k ≡ top → Aim p b boundary top k t
  image : (i : ℕ) → i < min b (top - b - p) → k ≡ b + i → t ≡ p + i → Aim p b boundary top k t
  stack : (i : ℕ) → i < top - b - boundary → k ≡ b + min b (top - b - p) + i → t ≡ boundary + i → Aim p b boundary top k t

module _ {p b boundary top : ℕ} where
  pub aim_same : {k t u : ℕ} → Aim p b boundary top k t → Aim p b boundary top k u → t ≡ u
  aim_same (copy a e) (copy a' d) = omega arith
  aim_same (copy a e) (image i' a' d d') = omega arith
  aim_same (copy a e) (stack i' a' d d') = omega arith
  aim_same (image i a e e') (copy a' d) = omega arith
  aim_same (image i a e e') (image i' a' d d') = omega arith
  aim_same (image i a e e') (stack i' a' d d') = omega arith
  aim_same (stack i a e e') (copy a' d) = omega arith
  aim_same (stack i a e e') (image i' a' d d') = omega arith
  aim_same (stack i a e e') (stack i' a' d d') = omega arith

  module _ (room : p + b + 1 ≤ boundary) (under : boundary ≤ top) where
    aim_low : {k t : ℕ} → Aim p b boundary top k t → t < top
    aim_low (copy a e) = omega arith
    aim_low (image i a e e') = omega arith
    aim_low (stack i a e e') = omega arith

    pub aim_once : {i k t u : ℕ} → i < k → Aim p b boundary top i t → Aim p b boundary top k u → t ≢ u
    aim_once l (copy a e) (copy a' d) = omega arith
    aim_once l (copy a e) (image i' a' d d') = omega arith
    aim_once l (copy a e) (stack i' a' d d') = omega arith
    aim_once l (image i a e e') (copy a' d) = omega arith
    aim_once l (image i a e e') (image i' a' d d') = omega arith
    aim_once l (image i a e e') (stack i' a' d d') = omega arith
    aim_once l (stack i a e e') (copy a' d) = omega arith
    aim_once l (stack i a e e') (image i' a' d d') = omega arith
    aim_once l (stack i a e e') (stack i' a' d d') = omega arith

    -- what is stored to was copied before, if it is of the image at all
    aim_apart : {j k t : ℕ} → j ≤ k → k < b → Aim p b boundary top j t → p + (b - suc k) ≢ t
    aim_apart l h (copy a e) = omega arith
    aim_apart l h (image i a e e') = omega arith
    aim_apart l h (stack i a e e') = omega arith

module _ {S top : ℕ} {job : Job} (able : Able S top job) where
  -- the sector of each step of the job's plan
  pub job_aim : (k : ℕ) → k < steps (plan_of S top job) → Aim job.p (blocks S job) job.boundary top k ((plan_of S top job).target k)
  unfolding plan_of pick
  job_aim k h = go (below k (blocks S job)) (below (k - blocks S job) (cleared_image S top job))
    where
      go : {c d : Bool} → Told (k < blocks S job) (blocks S job ≤ k) c
          → Told (k - blocks S job < cleared_image S top job) (cleared_image S top job ≤ k - blocks S job) d
          → Aim job.p (blocks S job) job.boundary top k
          (pick c (goal S top job + place S job k) (pick d (job.p + (k - blocks S job)) (job.boundary + (k - blocks S job - cleared_image S top job))))
      go (holds l) d = copy l (omega (arith, able.room, able.under))
      go (fails l) (holds l') = image (k - blocks S job) (omega arith) (omega arith) refl
      go (fails l) (fails l') = stack (k - blocks S job - cleared_image S top job) (omega arith) (omega arith) refl

  pub job_safe : {N : ℕ} → top ≤ N → Safe S N (plan_of S top job)
  unfolding plan_of
  job_safe {N} lent = record {
    targets = λ k h. omega (arith, aim_low able.room able.under (job_aim k h));
    sources = λ k h. omega (arith, able.room, able.under);
    whole = λ k h. omega arith;
    apart = λ j k l h. aim_apart able.room able.under l h (job_aim j (omega arith));
  }
