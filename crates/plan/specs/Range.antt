-- What keeps every sum over a job's numbers in range.
use Rattle.std.specs.Prelude.{ℕ, ◌≤◌, ◌<◌}
use Rattle.plan.specs.declared.Job.{Job}

-- p and the boundary may be any numbers: they are only subtracted
pub record InRange (S top : ℕ) (job : Job) : Type 0 where
  pub some : 0 < S
  pub bytes : S ≤ 65536
  pub count : top ≤ 65536
  pub image : job.size < 4294967296
