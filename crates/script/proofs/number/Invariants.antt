use Rattle.std.proofs.Common.{◌≡◌, ◌<◌, length, drop}
use Rattle.script.specs.Words.{are_digits, value_from}
use Rattle.script.proofs.number.Given as goal

abbrev pub invariant-loop-c : goal.invariant-loop-c
invariant-loop-c l =
    (0 < length l.word)
    × (l.value < l.limit)
    × (are_digits l.word ≡ are_digits (drop l.c-index l.word))
    × (value_from 0 l.word ≡ value_from l.value (drop l.c-index l.word))
