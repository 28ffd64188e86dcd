use mathlib.Core.Path.{ap, ◌∙◌}
use mathlib.Core.List.{[], ◌∷◌}
use Rattle.basics.specs.Choice.{yes_by, no_by}
use Rattle.maker.specs.Versions.{digits_of, version_of}
use Rattle.maker.proofs.Digits.{prefixed}
use Rattle.maker.proofs.version.read.Goals as goal

pub returns-in-Some : goal.returns-in-Some
unfolding version_of
returns-in-Some c =
    yes_by _ _ _ _ (prefixed c.args.text.now (0x30 ∷ 0x78 ∷ []) ∙ c.in-Some.ensures.cases.0) (c.digits.ensures ∙ ap (digits_of 16) c.in-Some.ensures.cases.1)

pub returns-in-None : goal.returns-in-None
unfolding version_of
returns-in-None c = no_by _ _ _ _ (prefixed c.args.text.now (0x30 ∷ 0x78 ∷ []) ∙ c.in-None.ensures.cases) c.digits-in-None.ensures
