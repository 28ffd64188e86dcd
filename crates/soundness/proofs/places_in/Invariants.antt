use Rattle.std.proofs.Common.{◌≡◌, ◌*◌}
use Rattle.device.specs.Layout.{kinds_in, sizes_in, locks_in}
use Rattle.soundness.specs.Sound.{all_below, place_test}
use Rattle.soundness.proofs.places_in.Given as goal

abbrev pub invariant-loop-i : goal.invariant-loop-i
invariant-loop-i l =
    (l.ok ≡ all_below l.i (place_test l.from l.end (kinds_in l.rec) (sizes_in l.rec) (locks_in l.rec))) × (l.n ≡ l.i * 2)
