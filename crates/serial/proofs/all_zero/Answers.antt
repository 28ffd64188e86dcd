use Rattle.std.proofs.Common.{rules, ◌≡◌, ◌∙◌, ap, eqb}
use Rattle.std.specs.List.{fold}
use lib.Bits.{bit_or}
use Rattle.serial.proofs.Laws.{or_none}
use Rattle.serial.proofs.all_zero.Goals as goal

pub returns : goal.returns
returns c =
    let e : c.fold.result ≡ fold (λ any b. bit_or any b) 0 c.args.s.now = search rules in
    ap (λ x. eqb x 0) e ∙ or_none c.args.s.now
