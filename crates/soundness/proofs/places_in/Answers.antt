use Rattle.std.proofs.Common.{arith, ◌≡◌, ◌≤◌, ◌<◌, ◌*◌, refl, sym, add-one, le-ltb}
use Rattle.device.specs.Layout.{kinds_at, sizes_at, locks_at, kinds_in, sizes_in, locks_in}
use Rattle.soundness.specs.Sound.{all_below}
use Rattle.soundness.proofs.Runs.{in_part, places_start, twice_below}
use Rattle.soundness.proofs.places_in.Goals as goal

pub loop-i-init : goal.loop-i-init
loop-i-init c =
    (sym (places_start c.args.from c.args.end (kinds_in c.args.rec.now) (sizes_in c.args.rec.now) (locks_in c.args.rec.now)), refl)

pub overflow_add-n : goal.overflow_add-n
overflow_add-n c = record { fits = omega (arith, c.loop-i.invariant.1) }

pub loop-i-preserved : goal.loop-i-preserved
unfolding all_below
loop-i-preserved c =
    let rec = c.args.rec.now in
    let i = c.loop-i.i in
    let low : c.args.from ≤ i = omega arith in
    let high : i < 101 = omega arith in (
      rw (add-one, c.loop-i.invariant.0, c.user_in.ensures, c.none_in.ensures, twice_below _ (c.args.end * 2) _ _ c.loop-i.invariant.1 refl, le-ltb _ _ low, in_part kinds_at 101 rec i high, in_part sizes_at 101 rec i high, in_part locks_at 101 rec i high),
      omega (arith, c.loop-i.invariant.1),
    )

pub returns : goal.returns
returns c = let e : c.loop-i.i ≡ c.args.to = omega arith in rw (c.loop-i.invariant.0, e)
