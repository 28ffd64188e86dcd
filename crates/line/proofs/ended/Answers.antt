use native.Mathlib.Omega.{arith}
use Rattle.line.proofs.Texts.{one_digit, two_digits, three_digits}
use Rattle.line.proofs.ended.Goals as goal

pub returns-then-n-lt10 : goal.returns-then-n-lt10
returns-then-n-lt10 c = one_digit c.args.head c.args.at c.args.n (omega arith) c.if-n-lt10.true

pub returns-then-n-lt100 : goal.returns-then-n-lt100
returns-then-n-lt100 c = two_digits c.args.head c.args.at c.args.n (omega arith) c.if-n-lt10.false c.if-n-lt100.true

pub returns : goal.returns
returns c = three_digits c.args.head c.args.at c.args.n (omega arith) c.if-n-lt10.false c.if-n-lt100.false
