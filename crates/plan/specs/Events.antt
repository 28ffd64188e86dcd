-- What can happen while a job is under way, and what it makes of the job's progress and the flash.
use Rattle.std.specs.Prelude.{ℕ, suc, Bool, ◌≡◌, List, [], ◌∷◌, length}
use Rattle.plan.specs.Stores.{Plan, Progress, going, ended, next, onward, stored, cut_short, spoilt}

-- a store is done; or power is cut during it, with a filler of one sector, and a record store goes through or not; or a restart; or a
-- call that changes nothing
pub data Event (S : ℕ) : Type 0 where
  work : Event S
  cut : (x : List ℕ) → length x ≡ S → (through : Bool) → Event S
  restart : Event S
  quiet : Event S

-- nothing happens to a job that has ended
unfoldable pub stepped : (S : ℕ) → Plan → Event S → Progress → List ℕ → Progress × List ℕ
stepped S P e ended F = (ended, F)
stepped S P work (going k m) F = (onward (next P k m) k m, stored S (next P k m) F)
stepped S P (cut x e through) (going k m) F = (cut_short (next P k m) through k, spoilt S (next P k m) x F)
stepped S P restart (going k m) F = (going k 0, F)
stepped S P quiet (going k m) F = (going k m, F)

unfoldable pub ran : (S : ℕ) → Plan → List (Event S) → Progress × List ℕ → Progress × List ℕ
ran S P [] r = r
ran S P (e ∷ es) r = ran S P es (stepped S P e r.0 r.1)

-- the works in a list of events
unfoldable pub works_in : {S : ℕ} → List (Event S) → ℕ
works_in [] = 0
works_in (work ∷ es) = suc (works_in es)
works_in (cut x e through ∷ es) = works_in es
works_in (restart ∷ es) = works_in es
works_in (quiet ∷ es) = works_in es

-- a list with no cut and no restart
unfoldable pub NoCut : {S : ℕ} → List (Event S) → Type 0
NoCut [] = Unit {0}
NoCut (work ∷ es) = NoCut es
NoCut (cut x e through ∷ es) = ⊥
NoCut (restart ∷ es) = ⊥
NoCut (quiet ∷ es) = NoCut es
