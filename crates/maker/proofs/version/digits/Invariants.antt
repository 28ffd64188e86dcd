use Prim.Native.Nat.{◌<◌}
use mathlib.Core.Path.{◌≡◌}
use lib.ListN.{length, drop}
use Rattle.maker.specs.Versions.{are_digits, value_of}
use Rattle.maker.proofs.version.digits.Given as goal

abbrev pub invariant-loop-c : goal.invariant-loop-c
invariant-loop-c l = record {
  some : 0 < length l.text;
  small : l.value < 4294967296;
  digits : are_digits l.base l.text ≡ are_digits l.base (drop l.c-index l.text);
  value : value_of l.base 0 l.text ≡ value_of l.base l.value (drop l.c-index l.text);
}
