use Rattle.std.proofs.Common.{rules, ◌≡◌, ◌∙◌, reverse}
use Rattle.std.specs.List.{fold}
use lib.Bits.{bit_xor}
use Rattle.serial.proofs.Laws.{xor_back}
use Rattle.serial.proofs.xor_of.Goals as goal

pub returns : goal.returns
returns c =
    let e : c.rfold.result ≡ fold (λ x b. bit_xor b x) 0 (reverse c.args.s.now) = search rules in
    e ∙ xor_back c.args.s.now
