use mathlib.Core.Path.{ap, sym, ◌≡◌}
use native.Mathlib.Omega.{arith}
use Rattle.std.proofs.Common.{rules}
use Rattle.std.specs.Prelude.{None, Err}
use Rattle.basics.specs.Words.{zeros}
use Rattle.services.specs.Calls.{first, granted}
use Rattle.services.specs.InPlace.{HandlePlaced}
use Rattle.serial.proofs.Outcomes.{taken_length, whole_placed}
use Rattle.serial.proofs.whole.Goals as goal

pub returns-in_default : goal.returns-in_default
unfolding zeros
returns-in_default c =
    whole_placed _ _ (Err c.in_default.field-0) _ _ _ _ _ _ None _ (rw c.make_packet.ensures at c.in_default.ensures) (search rules) c.send.ensures.value c.send.ensures.out_after

pub unwrap-requires : goal.unwrap-requires
unwrap-requires c =
    c.as_array.ensures.variant.1 (omega (arith, taken_length first c.args.rec.now _ _ _ (ap (λ (h : HandlePlaced). h.verdict) (sym c.in-Ok.ensures))))

pub returns : goal.returns
unfolding zeros
returns c =
    let same : c.unwrap.result.now ≡ c.handle-handled.new.rec = search rules in
    whole_placed _ _ granted _ _ _ _ _ _ c.in-Ok.reason _ (rw c.make_packet.ensures at c.in-Ok.ensures) (search rules)
    (rw (c.look_ahead-next.ensures, same) at c.respond.ensures.value) (rw (c.look_ahead-next.ensures, same) at c.respond.ensures.out_after)
