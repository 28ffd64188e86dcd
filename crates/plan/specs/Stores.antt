-- Paper 01, "An accepted job", as stores: image sectors go to q onward from the last to the first, each erased, written, recorded; then,
-- upward, each cleared sector is erased and recorded; then the last store. And what power loss does to the next store.
use Rattle.std.specs.Prelude.{ℕ, suc, ◌+◌, ◌-◌, ◌*◌, min, Bool, true, false, List, ltb, eqb}
use Rattle.basics.specs.Choice.{pick}
use Rattle.sectors.specs.Sectors.{sector, put_sector, erased, fit}
use Rattle.plan.specs.declared.Job.{Job}
use Rattle.plan.specs.declared.Store.{Store}
use Rattle.plan.specs.declared.Store.TheVariants.{Erase, Write, Record, Last}
use Rattle.plan.specs.Placement.{blocks, goal, cleared_image, cleared_count}

-- a plan: steps 0 to moved - 1 each copy a sector, the `cleared` steps after them each erase one. Step k stores to `target k`; a copy
-- takes the first `kept k` bytes of `source k`
pub record Plan : Type 0 where
  pub moved : ℕ
  pub cleared : ℕ
  pub target : ℕ → ℕ
  pub source : ℕ → ℕ
  pub kept : ℕ → ℕ

abbrev pub steps : Plan → ℕ
steps P = P.moved + P.cleared

-- the place in the image of the sector that step k copies: from the last to the first
abbrev pub place : ℕ → Job → ℕ → ℕ
place S job k = blocks S job - suc k

-- the sector that clearing i erases: those of the image, then those of the old stack
abbrev pub clearing : ℕ → ℕ → Job → ℕ → ℕ
clearing S top job i =
    pick (ltb i (cleared_image S top job)) (job.p + i) (job.boundary + (i - cleared_image S top job))

unfoldable pub plan_of : ℕ → ℕ → Job → Plan
plan_of S top job = record {
  moved = blocks S job;
  cleared = cleared_count S top job;
  target = λ k. pick (ltb k (blocks S job)) (goal S top job + place S job k) (clearing S top job (k - blocks S job));
  source = λ k. job.p + place S job k;
  kept = λ k. min S (job.size - place S job k * S);
}

-- the next store, after k sectors recorded and m stores made in the next one
unfoldable pub next : Plan → ℕ → ℕ → Store
next P k m =
    pick (ltb k P.moved)
    (pick (eqb m 0) (Erase (P.target k)) (pick (eqb m 1) (Write (P.target k) (P.source k) (P.kept k)) Record))
    (pick (ltb k (steps P)) (pick (eqb m 0) (Erase (P.target k)) Record) Last)

-- how many stores a sector takes before it is recorded: erased and written, only erased, or there is no such sector
unfoldable pub wants : Plan → ℕ → ℕ
wants P k = pick (ltb k P.moved) 2 (pick (ltb k (steps P)) 1 0)

-- the stores still to do
unfoldable pub left : Plan → ℕ → ℕ → ℕ
left P k m = (P.moved - k) + 2 * (steps P - k) + 1 - m

-- what a store leaves in the flash: a record store never touches it
unfoldable pub stored : ℕ → Store → List ℕ → List ℕ
stored S (Erase t) F = put_sector S F t (erased S)
stored S (Write t s n) F = put_sector S F t (fit S n (sector S F s))
stored S Record F = F
stored S Last F = F

-- what a store that was cut leaves: the filler in its sector, and nothing in any other
unfoldable pub spoilt : ℕ → Store → List ℕ → List ℕ → List ℕ
spoilt S (Erase t) x F = put_sector S F t x
spoilt S (Write t s n) x F = put_sector S F t x
spoilt S Record x F = F
spoilt S Last x F = F

-- how far a job is: so many sectors recorded and so many stores made in the next one, or ended
pub data Progress : Type 0 where
  going : (k m : ℕ) → Progress
  ended : Progress

-- after a store
unfoldable pub onward : Store → ℕ → ℕ → Progress
onward (Erase t) k m = going k (suc m)
onward (Write t s n) k m = going k (suc m)
onward Record k m = going (suc k) 0
onward Last k m = ended

-- after a store that was cut, and the restart that follows: progress inside one sector is lost; a record store went through or not
unfoldable pub cut_short : Store → Bool → ℕ → Progress
cut_short (Erase t) through k = going k 0
cut_short (Write t s n) through k = going k 0
cut_short Record true k = going (suc k) 0
cut_short Record false k = going k 0
cut_short Last true k = ended
cut_short Last false k = going k 0

-- the stores that are still to do at a point
unfoldable pub left_at : Plan → Progress → ℕ
left_at P (going k m) = left P k m
left_at P ended = 0
