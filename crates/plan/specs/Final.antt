-- Paper 01: "At the end sectors q to 243 hold the image's bytes as accepted, then 0xFF; cleared sectors are erased; no other has changed."
-- Written from the rules: nothing here speaks of stores.
use Rattle.std.specs.Prelude.{ℕ, zero, suc, ◌-◌, ◌*◌, List, [], ◌++◌, take, drop, replicate}
use Rattle.basics.specs.Choice.{pick}
use Rattle.sectors.specs.Sectors.{sector, erased}
use Rattle.plan.specs.declared.Job.{Job}
use Rattle.plan.specs.Placement.{blocks, goal, held}

-- f 0, f 1 .. f (n - 1), one behind the other
unfoldable pub chained : ℕ → (ℕ → List ℕ) → List ℕ
chained zero f = []
chained (suc n) f = chained n f ++ f n

-- below q: what held image or old stack is erased, no other has changed
unfoldable pub below_goal : ℕ → ℕ → Job → List ℕ → List ℕ
below_goal S top job F = chained (goal S top job) λ t. pick (held S job t) (erased S) (sector S F t)

-- from q on: the image's bytes, then 0xFF
unfoldable pub from_goal : ℕ → Job → List ℕ → List ℕ
from_goal S job F = take job.size (drop (job.p * S) F) ++ replicate (blocks S job * S - job.size) 0xFF

unfoldable pub final_flash : ℕ → ℕ → Job → List ℕ → List ℕ
final_flash S top job F = below_goal S top job F ++ (from_goal S job F ++ drop (top * S) F)
