use Rattle.std.proofs.Common.{◌/◌, length, sym, ap, ◌∙◌, refl, arith}
use Rattle.image.specs.Sums.{sum_of}
use Rattle.image.proofs.Laws.{values, values_more, values_end, total_is}
use Rattle.image.proofs.image_sum.Goals as goal

pub loop-word-preserved : goal.loop-word-preserved
loop-word-preserved c =
    let more = values_more c.loop-word.word-index c.as_chunks.result.0.now c.loop-word-test.true in
    omega (arith, more, c.from_le_bytes-sum.ensures, c.loop-word.invariant)

pub returns : goal.returns
unfolding sum_of
returns c =
    let body = c.args.body.now in
    let all = ap values c.as_chunks.ensures.front ∙ sym (total_is (length body / 4) body refl) in
    let none = values_end c.loop-word.word-index c.as_chunks.result.0.now c.loop-word-test.false in
    omega (arith, all, none, c.loop-word.invariant)
