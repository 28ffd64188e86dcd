-- What a head with a job says of its next store.
-- Assumes nothing.
use Prim.Native.Nat.{ℕ, ◌*◌, ◌≤◌}
use mathlib.Core.Path.{◌≡◌}
use mathlib.Core.List.{List}
use native.Mathlib.Omega.{arith}
use lib.ListN.{length}
use Rattle.sectors.specs.Sectors.{sectors_for}
use Rattle.sectors.proofs.Laws.{reaches}
use Rattle.plan.specs.declared.Store.{Store}
use Rattle.plan.specs.declared.Store.TheVariants.{Erase, Write, Record, Last}
use Rattle.plan.specs.Safe.{Safe}
use Rattle.plan.specs.Stores.{plan_of}
use Rattle.plan.proofs.Aims.{job_safe}
use Rattle.plan.proofs.Due.{wants_is, Due, due}
use Rattle.device.specs.declared.Head.{Head}
use Rattle.device.specs.declared.Mode.TheVariants.{Upgrade}
use Rattle.soundness.specs.Sound.{plan_for}
use Rattle.device.specs.Modes.{recorded_in}
use Rattle.jobs.specs.Jobs.{next_store, Within, Doing}

module _ {S top : ℕ} {h : Head} (d : Doing S top h) where
  pub made_few : h.made ≤ 2
  made_few = omega (arith, d.most, wants_is (plan_for S top h) (recorded_in h.mode))

  pub recorded_few : recorded_in h.mode ≤ 196608
  unfolding plan_of
  recorded_few = omega (arith, d.low, d.able.room, d.able.under, d.range.count)

  -- the next store lies within the lent flash
  within_as : (N : ℕ) (F : List ℕ) → Safe S N (plan_for S top h) → length F ≡ N * S → (store : Store) → Due (plan_for S top h) (recorded_in h.mode) h.made store → Within S (length F) store
  unfolding Due
  within_as N F safe e (Erase t) (l, m, q) = rw q (reaches S N F e _ (safe.targets _ l))
  within_as N F safe e (Write t s n) (l, m, q, r, u) =
      rw (q, r, u) (reaches S N F e _ (safe.targets _ (omega arith)), reaches S N F e _ (safe.sources _ l), safe.whole _ l, safe.apart _ _ (omega arith) l)
  within_as N F safe e Record q = tt
  within_as N F safe e Last q = tt

  pub within : (N : ℕ) (F : List ℕ) → top ≤ N → length F ≡ N * S → Within S (length F) (next_store S top h)
  within N F low e =
      within_as N F (job_safe d.able low) e (next_store S top h) (due (plan_for S top h) (recorded_in h.mode) h.made d.low d.most)
