-- Paper 01, "An accepted job": b, q, the cleared sectors, c and the number of stores.
-- S is the size of a sector, `top` the first sector of FUS (the paper's 244).
use Rattle.std.specs.Prelude.{ℕ, zero, suc, ◌+◌, ◌-◌, ◌*◌, ◌≤◌, ◌<◌, min, Bool, ◌&&◌, ◌||◌, List, [], ◌∷◌, ◌++◌, leb, ltb}
use Rattle.basics.specs.Choice.{pick}
use Rattle.sectors.specs.Sectors.{sectors_for}
use Rattle.plan.specs.declared.Job.{Job}

-- b: the size in sectors. A delete has b = 0
abbrev pub blocks : ℕ → Job → ℕ
blocks S job = sectors_for S job.size

-- q: the job's target. A delete has q = top
abbrev pub goal : ℕ → ℕ → Job → ℕ
goal S top job = top - blocks S job

-- did sector t hold image or old stack?
abbrev pub held : ℕ → Job → ℕ → Bool
held S job t = (leb job.p t && ltb t (job.p + blocks S job)) || leb job.boundary t

-- the numbers below n that pass a test, upward
unfoldable pub those : (ℕ → Bool) → ℕ → List ℕ
those f zero = []
those f (suc n) = those f n ++ pick (f n) (n ∷ []) []

-- the cleared sectors: upward, each that held image or old stack and lies below q
unfoldable pub cleared : ℕ → ℕ → Job → List ℕ
cleared S top job = those (held S job) (goal S top job)

-- c, their number, worked out: those of the image, and those of the old stack
abbrev pub cleared_image : ℕ → ℕ → Job → ℕ
cleared_image S top job = min (blocks S job) (goal S top job - job.p)

abbrev pub cleared_stack : ℕ → ℕ → Job → ℕ
cleared_stack S top job = goal S top job - job.boundary

abbrev pub cleared_count : ℕ → ℕ → Job → ℕ
cleared_count S top job = cleared_image S top job + cleared_stack S top job

-- a job has 3b + 2c + 1 stores
abbrev pub store_count : ℕ → ℕ → Job → ℕ
store_count S top job = 3 * blocks S job + 2 * cleared_count S top job + 1

-- a job that can be carried out: check 3 is met, and the boundary is not above FUS
pub record Able (S top : ℕ) (job : Job) : Type 0 where
  pub some : 0 < S
  pub room : job.p + blocks S job + 1 ≤ job.boundary
  pub under : job.boundary ≤ top
