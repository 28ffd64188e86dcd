-- The whole device: the head and the arrays, and what a decided step makes of it.
use Rattle.std.specs.Prelude.{ℕ, ◌*◌, ◌≡◌, Bool, true, ◌&&◌, List, leb, eqb, get_or, set, length}
use Rattle.basics.specs.Words.{put_at, zeros}
use Rattle.device.specs.declared.Head.{Head}
use Rattle.device.specs.Types.{Step, Look, Device, Effect, Keep, Drop, Lock, Put, Auth}
use Rattle.device.specs.Heads.{lost_head}

-- the lengths of a device's arrays
pub record Shaped (d : Device) : Type 0 where
  pub locks : length d.locks ≡ 101
  pub key : length d.key ≡ 64
  pub kinds : length d.kinds ≡ 101
  pub sizes : length d.sizes ≡ 101
  pub bytes : length d.bytes ≡ 4444

-- what stands at an index, and at the master's
abbrev pub look : List ℕ → List ℕ → ℕ → Look
look kinds locks i = record { kind = get_or kinds i 0; lock = get_or locks i 0; master = get_or kinds 0 0 }

abbrev pub with_head : Head → Device → Device
with_head h d =
    record { head = h; locks = d.locks; key = d.key; kinds = d.kinds; sizes = d.sizes; bytes = d.bytes }

abbrev pub with_locks : List ℕ → Device → Device
with_locks l d =
    record { head = d.head; locks = l; key = d.key; kinds = d.kinds; sizes = d.sizes; bytes = d.bytes }

abbrev pub with_key : List ℕ → Device → Device
with_key k d =
    record { head = d.head; locks = d.locks; key = k; kinds = d.kinds; sizes = d.sizes; bytes = d.bytes }

-- a user key in its slot of 44 bytes, with its type and its size
abbrev pub put_key : ℕ → ℕ → List ℕ → Device → Device
put_key i kind k d =
    record { head = d.head; locks = d.locks; key = d.key; kinds = set d.kinds i kind; sizes = set d.sizes i (length k); bytes = put_at d.bytes (i * 44) k }

-- is there room for what an effect puts?
abbrev pub fits : Effect → ℕ → Bool
fits Keep n = true
fits Drop n = true
fits (Lock i) n = true
fits (Put i kind) n = leb i 100 && leb n 44
fits Auth n = eqb n 64

-- what an effect does to the arrays; k are the key bytes of the packet
abbrev pub apply : Effect → List ℕ → Device → Device
apply Keep k d = d
apply Drop k d = with_locks (zeros 101) d
apply (Lock i) k d = with_locks (set d.locks i 1) d
apply (Put i kind) k d = put_key i kind k d
apply Auth k d = with_key k d

-- a step carried out
abbrev pub carried : Step → List ℕ → Device → Device
carried s k d = apply s.effect k (with_head s.head d)

-- WHAT IS LOST at power loss, restart, START, the second state request and a job's end
abbrev pub lost : Device → Device
lost d = with_locks (zeros 101) (with_head (lost_head d.head) d)
