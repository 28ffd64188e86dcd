use Prim.Native.Nat.{ℕ, ◌+◌, ◌*◌}
use mathlib.Core.Path.{◌≡◌, ap, sym, ◌∙◌}
use mathlib.Core.List.{[]}
use native.Mathlib.Omega.{arith}
use lib.ListN.{drop, drop_of_length-le}
use Rattle.maker.specs.Versions.{are_digits, value_of}
use Rattle.maker.proofs.Digits.{bad_digit, good_digit, next_value, grows, no_digits, too_large, too_long, short_enough, number}
use Rattle.maker.proofs.version.digits.Goals as goal

pub returns-in_err-digit : goal.returns-in_err-digit
returns-in_err-digit c =
    let bad = bad_digit c.args.base c.args.text.now c.loop-c.c-index (omega arith) c.digit.result c.digit.ensures c.in_err-digit.was in
    rw c.from_residual.ensures (no_digits c.args.base c.args.text.now (c.loop-c.invariant.digits ∙ bad))

pub returns-in_err-value : goal.returns-in_err-value
returns-in_err-value c =
    let next = next_value c.args.base c.args.text.now c.loop-c.c-index (omega arith) c.digit.result c.digit.ensures c.in_ok-digit.field-0 c.loop-c.value c.in_ok-digit.was in
    let long = too_long (c.loop-c.value * c.args.base + c.in_ok-digit.field-0) (sym c.longer.ensures ∙ c.in_err-value.was) in
    let more = grows c.args.base (c.loop-c.value * c.args.base + c.in_ok-digit.field-0) (drop (c.loop-c.c-index + 1) c.args.text.now) (omega arith) in
    rw c.from_residual-in_err-value.ensures (too_large c.args.base c.args.text.now (omega (arith, c.loop-c.invariant.value ∙ next, more, long)))

pub loop-c-preserved : goal.loop-c-preserved
loop-c-preserved c =
    let good = good_digit c.args.base c.args.text.now c.loop-c.c-index (omega arith) c.digit.result c.digit.ensures c.in_ok-digit.field-0 c.in_ok-digit.was in
    let next = next_value c.args.base c.args.text.now c.loop-c.c-index (omega arith) c.digit.result c.digit.ensures c.in_ok-digit.field-0 c.loop-c.value c.in_ok-digit.was in
    let short = short_enough (c.loop-c.value * c.args.base + c.in_ok-digit.field-0) c.in_ok-value.value (sym c.longer.ensures ∙ c.in_ok-value.was) in
    record {
      some = c.loop-c.invariant.some;
      small = omega (arith, short.0, short.1);
      digits = c.loop-c.invariant.digits ∙ good;
      value = c.loop-c.invariant.value ∙ next ∙ ap (λ (n : ℕ). value_of c.args.base n (drop (c.loop-c.c-index + 1) c.args.text.now)) short.1;
    }

pub returns : goal.returns
unfolding are_digits value_of
returns c =
    let done : drop c.loop-c.c-index c.args.text.now ≡ [] = drop_of_length-le c.args.text.now {i = c.loop-c.c-index} (omega arith) in
    number c.args.base c.args.text.now c.loop-c.value c.loop-c.invariant.some (rw done at c.loop-c.invariant.digits) (rw done at c.loop-c.invariant.value) c.loop-c.invariant.small
