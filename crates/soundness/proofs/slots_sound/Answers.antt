use Rattle.std.proofs.Common.{arith, ◌<◌}
use Rattle.device.specs.Layout.{kinds_at, sizes_at, locks_at, kinds_in, sizes_in, locks_in}
use Rattle.soundness.proofs.Runs.{in_part, slots_by}
use Rattle.soundness.proofs.slots_sound.Goals as goal

pub returns : goal.returns
returns c =
    let rec = c.args.rec.now in
    let high : 0 < 101 = omega arith in
    rw (
      c.places_in-2.ensures,
      c.places_in.ensures,
      c.first_in.ensures,
      c.users_end-end.ensures.value,
      ← in_part kinds_at 101 rec 0 high,
      ← in_part sizes_at 101 rec 0 high,
      ← in_part locks_at 101 rec 0 high,
    ) (slots_by c.args.count _ _ (kinds_in rec) (sizes_in rec) (locks_in rec) (omega arith) (omega arith) (omega arith))
