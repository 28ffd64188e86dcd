use Rattle.std.proofs.Common.{◌≡◌, ◌+◌, ◌-◌, ◌*◌, true, false, sym, ◌∙◌, arith}
use Rattle.image.proofs.Laws.{last, starts_there, find_hit, find_miss, find_none}
use Rattle.image.proofs.find_image.Goals as goal

pub returns-then-starts-clause-value : goal.returns-then-starts-clause-value
returns-then-starts-clause-value c =
    let told = starts_there c.args.flash.now ((c.loop-sector.sector - 1) * c.args.size) _ true c.starts.ensures c.if-starts.true in
    find_hit c.args.size c.args.flash.now c.loop-sector.sector (omega arith) told ∙ sym c.loop-sector.invariant.1

pub loop-sector-preserved : goal.loop-sector-preserved
loop-sector-preserved c =
    let told = starts_there c.args.flash.now ((c.loop-sector.sector - 1) * c.args.size) _ false c.starts.ensures c.if-starts.false in
    let more : (c.loop-sector.sector - 1) * c.args.size + c.args.size ≡ c.loop-sector.sector * c.args.size = last c.loop-sector.sector c.args.size (omega arith) in
    (omega arith, c.loop-sector.invariant.1 ∙ find_miss c.args.size c.args.flash.now c.loop-sector.sector (omega arith) told)

pub returns-clause-value : goal.returns-clause-value
returns-clause-value c =
    sym (c.loop-sector.invariant.1 ∙ find_none c.args.size c.args.flash.now c.loop-sector.sector (omega arith))
