use Prim.Native.Nat.{◌+◌}
use mathlib.Core.Bool.{false}
use mathlib.Core.Path.{◌≡◌, sym, ◌∙◌}
use Rattle.basics.specs.Choice.{cases, via}
use Rattle.answer.specs.declared.Answer.TheVariants.{Stored}
use Rattle.device.specs.Types.{Put}
use Rattle.device.specs.Heads.{with_count}
use Rattle.device.specs.Steps.{accepted}
use Rattle.keys.specs.Keys.{type_lawful, store_key}
use Rattle.device.specs.Layout.{decode, head_in}
use Rattle.device.proofs.Laws.{finish, with_key_lem, yes_with, no_with}
use Rattle.keys.proofs.Laws.{no_type, typed}
use Rattle.keys.proofs.store_key.Goals as goal

pub returns-in_default : goal.returns-in_default
unfolding store_key
returns-in_default c =
    let a : type_lawful c.args.kind ≡ false = no_type c.args.kind (λ t e. c.in_default.not-Ok t (c.try_from.ensures ∙ e)) in
    no_with _ _ _ _ _ _ _ a (with_key_lem _ _ _ _ _ c.failed.ensures)

pub returns-then-not-allows : goal.returns-then-not-allows
unfolding store_key
returns-then-not-allows c =
    let t = typed c.args.kind c.in-Ok.key_type (sym c.try_from.ensures ∙ c.in-Ok.is) in
    let a = rw t.back at (via _ _ _ c.allows.ensures c.if-not-allows.true) in
    yes_with _ _ _ _ _ _ _ t.lawful (
    no_with _ _ _ _ _ _ _ a (with_key_lem _ _ _ _ _ c.failed-then-not-allows.ensures))

pub returns-then-slot-from : goal.returns-then-slot-from
unfolding store_key
returns-then-slot-from c =
    let t = typed c.args.kind c.in-Ok.key_type (sym c.try_from.ensures ∙ c.in-Ok.is) in
    let a = rw t.back at (via _ _ _ c.allows.ensures c.if-not-allows.false) in
    let f = rw c.from.ensures at c.if-slot-from.true in
    yes_with _ _ _ _ _ _ _ t.lawful (
    yes_with _ _ _ _ _ _ _ a (
    yes_with _ _ _ _ _ _ _ (sym t.master ∙ via _ _ _ c.eq.ensures c.if-eq.true) (
    yes_with _ _ _ _ _ _ _ (search cases) (with_key_lem _ _ _ _ _ c.failed-then-slot-from.ensures))))

pub returns-then-eq : goal.returns-then-eq
unfolding decode head_in store_key
returns-then-eq c =
    let f = rw c.from.ensures at c.if-slot-from.false in
    let t = typed c.args.kind c.in-Ok.key_type (sym c.try_from.ensures ∙ c.in-Ok.is) in
    let a = rw t.back at (via _ _ _ c.allows.ensures c.if-not-allows.false) in
    yes_with _ _ _ _ _ _ _ t.lawful (
    yes_with _ _ _ _ _ _ _ a (
    yes_with _ _ _ _ _ _ _ (sym t.master ∙ via _ _ _ c.eq.ensures c.if-eq.true) (
    no_with _ _ _ _ _ _ _ (search cases) (finish (accepted (head_in c.args.rec.now) (Stored 0) (Put 0 c.args.kind)) c.args.key.now c.args.rec.now _ (c.set_error.ensures _ c.set_key.ensures)))))

pub returns-then-count-ge100 : goal.returns-then-count-ge100
unfolding head_in store_key
returns-then-count-ge100 c =
    let t = typed c.args.kind c.in-Ok.key_type (sym c.try_from.ensures ∙ c.in-Ok.is) in
    let a = rw t.back at (via _ _ _ c.allows.ensures c.if-not-allows.false) in
    let n = rw c.byte-count.ensures at c.if-count-ge100.true in
    yes_with _ _ _ _ _ _ _ t.lawful (
    yes_with _ _ _ _ _ _ _ a (
    no_with _ _ _ _ _ _ _ (sym t.master ∙ via _ _ _ c.eq.ensures c.if-eq.false) (
    yes_with _ _ _ _ _ _ _ (search cases) (with_key_lem _ _ _ _ _ c.failed-then-count-ge100.ensures))))

pub returns : goal.returns
unfolding decode head_in store_key
returns c =
    let t = typed c.args.kind c.in-Ok.key_type (sym c.try_from.ensures ∙ c.in-Ok.is) in
    let a = rw t.back at (via _ _ _ c.allows.ensures c.if-not-allows.false) in
    let n = c.byte-count.result + 1 in
    rw (← c.byte-count.ensures)
    (yes_with _ _ _ _ _ _ _ t.lawful (
    yes_with _ _ _ _ _ _ _ a (
    no_with _ _ _ _ _ _ _ (sym t.master ∙ via _ _ _ c.eq.ensures c.if-eq.false) (
    no_with _ _ _ _ _ _ _ (search cases) (finish (accepted (with_count n (head_in c.args.rec.now)) (Stored n) (Put n c.args.kind)) c.args.key.now c.args.rec.now _ (c.set_error-2.ensures _ (c.set_count.ensures _ c.set_key-2.ensures)))))))
