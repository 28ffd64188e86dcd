-- A job on a record's bytes.
use Rattle.std.specs.Prelude.{ℕ, ◌≡◌, true, List}
use Rattle.basics.specs.Choice.{pick}
use Rattle.plan.specs.Stores.{Progress}
use Rattle.device.specs.declared.Head.{Head}
use Rattle.jobs.specs.Jobs.{Doing, progressed}
use Rattle.device.specs.Layout.{is_head, head_in, encode, decode}
use Rattle.device.specs.Fields.{Held}

-- the bytes of a device with a job
pub record OnJob (S top : ℕ) (l : List ℕ) : Type 0 where
  pub held : Held l
  pub head : is_head l ≡ true
  pub doing : Doing S top (head_in l)

-- the bytes l become r, those of the device at that point of its job
abbrev pub Reaches : ℕ → ℕ → List ℕ → List ℕ → Progress → Type 0
Reaches S top l r at = r ≡ encode (progressed S top (decode l) at)

-- the floor after an upgrade
abbrev pub raised : ℕ → Head → Head
raised v h =
    record { present = h.present; version = h.version; sectors = h.sectors; boundary = h.boundary; mode = h.mode; count = h.count; auth = h.auth; locked = h.locked; rollback = h.rollback; floor = pick h.rollback v h.floor; loaded = h.loaded; asked = h.asked; error = h.error; made = h.made }
