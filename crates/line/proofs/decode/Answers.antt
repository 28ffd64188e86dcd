use Prim.Native.Nat.{ℕ, ◌/◌, ◌<◌}
use mathlib.Core.Path.{◌≡◌, sym, ap, ◌∙◌}
use mathlib.Core.List.{List, ◌++◌}
use native.Mathlib.Omega.{arith}
use lib.ListN.{length, take}
use Rattle.line.proofs.Pairs.{odd_no, bad, good, one_more, stored, all_pairs, all_bytes}
use Rattle.line.proofs.decode.Goals as goal

pub returns-in_default-clause-pairs : goal.returns-in_default-clause-pairs
returns-in_default-clause-pairs c = sym (odd_no c.args.line.now (λ even. omega (arith, c.as_chunks.ensures.back_len)))

pub returns-in_err-out-clause-pairs : goal.returns-in_err-out-clause-pairs
returns-in_err-out-clause-pairs c =
    let no = bad c.args.line.now c.as_chunks.result.0.now c.as_chunks.ensures.front c.loop-i.i (omega arith) c.pair.result c.pair.ensures c.in_err-out.was in
    rw c.from_residual.ensures (sym (c.loop-i.invariant.pairs ∙ no))

pub loop-i-preserved : goal.loop-i-preserved
loop-i-preserved c =
    let h : c.loop-i.i < length c.args.line.now / 2 = omega arith in
    let all = good c.args.line.now c.as_chunks.result.0.now c.as_chunks.ensures.front c.loop-i.i h c.pair.result c.pair.ensures c.in_ok-out.field-0 c.in_ok-out.was in
    let next = one_more c.args.line.now c.as_chunks.result.0.now c.as_chunks.ensures.front c.loop-i.i h c.pair.result c.pair.ensures c.in_ok-out.field-0 c.in_ok-out.was in
    record {
      pairs = c.loop-i.invariant.pairs ∙ all;
      bytes = c.loop-i.invariant.bytes ∙ ap (λ (l : List ℕ). take c.loop-i.i c.loop-i.out ++ l) next ∙ sym (stored c.loop-i.out c.loop-i.i c.in_ok-out.field-0 _ (omega arith));
    }

pub returns-clause-pairs : goal.returns-clause-pairs
returns-clause-pairs c = sym (c.loop-i.invariant.pairs ∙ all_pairs c.args.line.now c.loop-i.i (omega arith))

pub returns-clause-bytes : goal.returns-clause-bytes
returns-clause-bytes c =
    let half : length c.as_chunks.result.0.now ≡ c.loop-i.i = omega arith in
    rw half (sym (c.loop-i.invariant.bytes ∙ all_bytes c.args.line.now c.loop-i.out c.loop-i.i (omega arith)))
