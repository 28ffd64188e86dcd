use Rattle.plan.specs.Stores.{plan_of, wants}
use Rattle.soundness.proofs.progress_sound.Goals as goal

pub returns : goal.returns
unfolding plan_of wants
returns c =
    rw (
      c.may_make.ensures,
      c.cleared_count.ensures,
      c.blocks-moved.ensures,
    )
