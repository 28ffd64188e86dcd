-- A job's store on a record's bytes is the same on the device that they are.
use Prim.Native.Nat.{ℕ}
use mathlib.Core.Path.{◌≡◌, refl, sym, ap}
use mathlib.Core.Bool.{Bool, true, false}
use native.Mathlib.Omega.{arith}
use lib.Dec.{eqb}
use Rattle.basics.specs.Choice.{pick}
use Rattle.basics.specs.Words.{byte_at}
use Rattle.plan.specs.Stores.{going}
use Rattle.device.specs.declared.Head.{Head}
use Rattle.device.specs.Types.{Device}
use Rattle.device.specs.declared.Mode.{Mode}
use Rattle.device.specs.declared.Mode.TheVariants.{Stack, Idle, Upgrade, Delete}
use Rattle.device.specs.Heads.{with_mode, with_made, with_floor, with_stack}
use Rattle.device.specs.Whole.{with_head}
use Rattle.device.specs.Modes.{has_job, recorded_in, with_recorded}
use Rattle.jobs.specs.Jobs.{committed, progressed}
use Rattle.device.specs.Layout.{head_bytes, encode, rollback_at}
use Rattle.jobs.specs.OnJob.{raised}

never : false ≡ true → ⊥
never e = let z : ◌≡◌ {A = ℕ} 0 1 = cc in omega arith

-- what the last store of a job leaves that is no upgrade
pub deleted : (S top : ℕ) (m : Mode) (h : Head) → has_job m ≡ true → ((p size version recorded : ℕ) → m ≡ Upgrade p size version recorded → ⊥) → committed S top m h ≡ with_stack false 0xFFFFFFFF 0 top h.floor Idle h
deleted S top Stack h j n = absurd (never j)
deleted S top Idle h j n = absurd (never j)
deleted S top (Upgrade p size version recorded) h j n = absurd (n p size version recorded refl)
deleted S top (Delete recorded) h j n = refl

module _ (d : Device) where
  -- no sector more is recorded
  pub still : (S top m : ℕ) → encode (with_head (with_made m d.head) d) ≡ encode (progressed S top d (going (recorded_in d.head.mode) m))
  still S top m = ap (λ (x : Mode). encode (with_head (with_made m (with_mode x d.head)) d)) (same_mode d.head.mode)
    where
      same_mode : (x : Mode) → x ≡ with_recorded (recorded_in x) x
      same_mode Stack = refl
      same_mode Idle = refl
      same_mode (Upgrade p size version recorded) = refl
      same_mode (Delete recorded) = refl

  module _ (v : ℕ) where
    pub floor_on : eqb (byte_at (encode d) rollback_at) 1 ≡ true → encode (with_head (with_floor v d.head) d) ≡ encode (with_head (raised v d.head) d)
    unfolding encode head_bytes pick
    floor_on t = go d.head.rollback refl
      where
        go : (b : Bool) → d.head.rollback ≡ b → encode (with_head (with_floor v d.head) d) ≡ encode (with_head (raised v d.head) d)
        go true e = rw e
        go false e = let z : false ≡ true = rw e at t in absurd (never z)

    pub floor_off : eqb (byte_at (encode d) rollback_at) 1 ≡ false → encode d ≡ encode (with_head (raised v d.head) d)
    unfolding encode head_bytes pick
    floor_off t = go d.head.rollback refl
      where
        go : (b : Bool) → d.head.rollback ≡ b → encode d ≡ encode (with_head (raised v d.head) d)
        go true e = let z : true ≡ false = rw e at t in absurd (never (sym z))
        go false e = rw e
