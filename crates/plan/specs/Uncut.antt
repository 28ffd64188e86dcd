-- The same job never cut: the flash after each step, with what the ORIGINAL flash held.
use Rattle.std.specs.Prelude.{ℕ, zero, suc, List, ltb}
use Rattle.basics.specs.Choice.{pick}
use Rattle.sectors.specs.Sectors.{sector, put_sector, erased, fit}
use Rattle.plan.specs.Stores.{Plan}

-- what step k leaves in its sector, from what a flash holds
unfoldable pub content : ℕ → Plan → ℕ → List ℕ → List ℕ
content S P k F = pick (ltb k P.moved) (fit S (P.kept k) (sector S F (P.source k))) (erased S)

-- the flash after k steps that were never cut
unfoldable pub after : ℕ → Plan → List ℕ → ℕ → List ℕ
after S P F zero = F
after S P F (suc k) = put_sector S (after S P F k) (P.target k) (content S P k F)
