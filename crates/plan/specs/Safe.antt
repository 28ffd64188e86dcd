-- What makes a plan of stores safe: it can be carried out, and begun again at any sector.
use Rattle.std.specs.Prelude.{ℕ, ◌≤◌, ◌<◌, ◌≡◌}
use Rattle.plan.specs.Stores.{Plan, steps}

-- its sectors are among N of S bytes, and no step before a copy, nor the copy itself, stores to what the copy reads
pub record Safe (S N : ℕ) (P : Plan) : Type 0 where
  pub targets : (k : ℕ) → k < steps P → P.target k < N
  pub sources : (k : ℕ) → k < P.moved → P.source k < N
  pub whole : (k : ℕ) → k < P.moved → P.kept k ≤ S
  pub apart : (j k : ℕ) → j ≤ k → k < P.moved → P.source k ≡ P.target j → ⊥
