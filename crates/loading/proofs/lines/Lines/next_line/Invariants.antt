use Rattle.std.proofs.Common.{◌≤◌, length, take}
use Rattle.loading.specs.Lines.{left, Begun}
use Rattle.loading.proofs.lines.Lines.next_line.Given as goal

abbrev pub invariant-loop : goal.invariant-loop
invariant-loop g l = record {
  room : l.n ≤ length l.self.line;
  begun : Begun (length l.self.line) (left g.R.Read.remaining l.initial.self.bytes) (left g.R.Read.remaining l.self.bytes) (take l.n l.self.line);
}
