use Prim.Native.Nat.{◌*◌}
use mathlib.Core.Path.{◌≡◌}
use mathlib.Core.List.{◌++◌}
use lib.ListN.{take, drop}
use Rattle.line.specs.Hex.{are_pairs, bytes_of}
use Rattle.line.proofs.decode.Given as goal

abbrev pub invariant-loop-i : goal.invariant-loop-i
invariant-loop-i l = record {
  pairs : are_pairs l.line ≡ are_pairs (drop (2 * l.i) l.line);
  bytes : bytes_of l.line ≡ take l.i l.out ++ bytes_of (drop (2 * l.i) l.line);
}
