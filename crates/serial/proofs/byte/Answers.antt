use mathlib.Core.Path.{◌≡◌, sym, ◌∙◌}
use mathlib.Core.Bool.{true, false}
use native.Mathlib.Omega.{arith}
use Rattle.std.proofs.Common.{rules}
use Rattle.services.specs.Calls.{first}
use Rattle.serial.specs.InPlace.{is_reader}
use Rattle.serial.proofs.Readers.{filled}
use Rattle.serial.proofs.Outcomes.{short_placed, unread_placed, other_placed, fits_in, byte_placed}
use Rattle.serial.proofs.byte.Goals as goal

pub returns-then-out-lt10 : goal.returns-then-out-lt10
returns-then-out-lt10 c =
    rw (c.refuse.ensures.value, c.refuse.ensures.out_after)
    (short_placed first c.args.rec.now c.args.flash.now c.args.reader.now c.args.byte c.args.out.now c.if-out-lt10.true)

pub returns-in_default : goal.returns-in_default
returns-in_default c =
    rw (c.refuse-in_default.ensures.value, c.refuse-in_default.ensures.out_after)
    (other_placed first c.args.rec.now c.args.flash.now c.args.reader.now c.args.byte c.args.out.now (omega arith) (search rules))

pub returns-then-not-is_reader : goal.returns-then-not-is_reader
returns-then-not-is_reader c =
    let same : c.in-Some.reader.now ≡ c.args.reader.now = search rules in
    let none : is_reader c.args.reader.now ≡ false = rw same at (sym c.is_reader.ensures ∙ c.if-not-is_reader.true) in
    rw (c.refuse-then-not-is_reader.ensures.value, c.refuse-then-not-is_reader.ensures.out_after, same)
    (unread_placed first c.args.rec.now c.args.flash.now c.args.reader.now c.args.byte c.args.out.now (omega arith) none)

pub hear-requires : goal.hear-requires
hear-requires c =
    let one : is_reader c.in-Some.reader.now ≡ true = sym c.is_reader.ensures ∙ c.if-not-is_reader.false in
    rw c.take_in.ensures (filled _ (fits_in first c.args.rec.now c.args.flash.now c.in-Some.reader.now c.args.byte c.args.out.now (omega arith) one))

pub returns : goal.returns
returns c =
    let same : c.in-Some.reader.now ≡ c.args.reader.now = search rules in
    let one : is_reader c.in-Some.reader.now ≡ true = sym c.is_reader.ensures ∙ c.if-not-is_reader.false in
    rw same at (byte_placed first c.args.rec.now c.args.flash.now c.in-Some.reader.now c.args.byte c.args.out.now (omega arith) one _ _ _ _ _ _ c.take_in.ensures c.hear.ensures)
