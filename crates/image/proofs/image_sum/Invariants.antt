use Rattle.std.proofs.Common.{◌≡◌, ◌+◌, ◌%◌, ◌^◌, drop}
use Rattle.image.proofs.Laws.{values}
use Rattle.image.proofs.image_sum.Given as goal

abbrev pub invariant-loop-word : goal.invariant-loop-word
invariant-loop-word l = (l.sum + values (drop l.word-index l.words)) % 2 ^ 32 ≡ values l.words % 2 ^ 32
