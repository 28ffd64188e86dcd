use Rattle.std.proofs.Common.{◌≡◌, ◌*◌, ◌≤◌, length}
use Rattle.image.specs.Images.{find}
use Rattle.image.proofs.find_image.Given as goal

abbrev pub invariant-loop-sector : goal.invariant-loop-sector
invariant-loop-sector l = (l.sector * l.size ≤ length l.flash) × (find l.size l.flash l.boundary ≡ find l.size l.flash l.sector)
