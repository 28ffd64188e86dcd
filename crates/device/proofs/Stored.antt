-- A store to a record's field is a change of the device that the record is.
use Prim.Native.Nat.{ℕ, ◌≤◌}
use mathlib.Core.Path.{◌≡◌, refl, sym, ap, ◌∙◌}
use mathlib.Core.Bool.{Bool, true, false}
use mathlib.Core.List.{List, ◌++◌}
use native.Mathlib.Omega.{arith}
use lib.Dec.{eqb}
use lib.ListN.{length, take, drop, take-append-drop}
use lib.Seq.{take_at, drop_at, take-append-le, take-take, length-take-le}
use Rattle.basics.specs.Choice.{pick}
use Rattle.basics.specs.Words.{byte_at, word_at, put_at, zeros}
use Rattle.device.specs.declared.Mode.{Mode}
use Rattle.device.specs.declared.Mode.TheVariants.{Stack, Idle, Upgrade, Delete}
use Rattle.device.specs.Types.{Device, Effect, Keep, Drop, Lock, Put, Auth}
use Rattle.device.specs.Modes.{stack_runs}
use Rattle.device.specs.Whole.{with_locks, fits, apply}
use Rattle.device.specs.Layout.{mode_at, image_at, size_at, image_version_at, recorded_at, locks_at, key_at, kinds_at, tag_of, head_bytes, mode_of, mode_in, head_in, encode, decode, applied}
use Rattle.device.specs.Fields.{Held}
use Rattle.device.proofs.Records.{head_length, put_applied}

-- THE ARRAYS
module _ (l : List ℕ) (h : Held l) where
  front : take locks_at l ≡ head_bytes (head_in l)
  unfolding encode decode
  front = ap (λ (t : List ℕ). take locks_at t) h.same ∙ take_at (head_bytes (head_in l)) _ locks_at (head_length (head_in l))

  -- bytes after the head are changed
  behind : (n : ℕ) (s : List ℕ) → locks_at ≤ n → n ≤ length l → take locks_at (take n l ++ s) ≡ head_bytes (head_in l)
  behind n s a b =
      let e : length (take n l) ≡ n = length-take-le n l b in
      let g : locks_at ≤ length (take n l) = omega arith in
      rw (take-append-le locks_at (take n l) s g, take-take locks_at n l a) front

  kept_front : (x : Effect) (key : List ℕ) → take locks_at (applied x key l) ≡ head_bytes (head_in l)
  kept_front Keep key = front
  kept_front Drop key = behind locks_at _ (omega arith) (omega (arith, h.size))
  kept_front (Lock i) key = behind locks_at _ (omega arith) (omega (arith, h.size))
  kept_front (Put i kind) key = behind kinds_at _ (omega arith) (omega (arith, h.size))
  kept_front Auth key = behind key_at _ (omega arith) (omega (arith, h.size))

  same_head : (r : List ℕ) → take locks_at r ≡ head_bytes (head_in l) → r ≡ put_at r 0 (head_bytes (head_in l))
  same_head r e = rw (head_length (head_in l), ← e, take-append-drop locks_at r)

  -- an effect on the bytes is the same on the device
  pub effect_in : (x : Effect) (key : List ℕ) → fits x (length key) ≡ true → applied x key l ≡ encode (apply x key (decode l))
  unfolding decode
  effect_in x key f = same_head (applied x key l) (kept_front x key) ∙ put_applied x key (head_in l) l h.size f

-- the locks dropped, of any device with as many as there are keys
pub drop_in : (d : Device) (l z : List ℕ) → length d.locks ≡ 101 → l ≡ encode d → z ≡ zeros 101 → take locks_at l ++ (z ++ drop 101 (drop locks_at l)) ≡ encode (with_locks (zeros 101) d)
unfolding encode
drop_in d l z k e f =
    let rest : List ℕ = d.key ++ (d.kinds ++ (d.sizes ++ d.bytes)) in
    rw (e, f, take_at (head_bytes d.head) (d.locks ++ rest) locks_at (head_length d.head), drop_at (head_bytes d.head) (d.locks ++ rest) locks_at (head_length d.head), drop_at d.locks rest 101 k)

-- THE MODE by its byte
module _ (tag p size version recorded : ℕ) where
  pub runs_by : eqb tag 0 ≡ stack_runs (mode_of tag p size version recorded)
  unfolding pick
  runs_by = go (eqb tag 0) (eqb tag 1) (eqb tag 2)
    where
      go : (a b c : Bool) → a ≡ stack_runs (pick a Stack (pick b Idle (pick c (Upgrade p size version recorded) (Delete recorded))))
      go true b c = refl
      go false true c = refl
      go false false true = refl
      go false false false = refl

runs_tag : (m : Mode) → eqb (tag_of m) 0 ≡ stack_runs m
runs_tag Stack = refl
runs_tag Idle = refl
runs_tag (Upgrade p size version recorded) = refl
runs_tag (Delete recorded) = refl

-- which program runs, of the bytes of a device
pub runs_of : (d : Device) (l : List ℕ) → l ≡ encode d → stack_runs (mode_in l) ≡ stack_runs d.head.mode
unfolding encode head_bytes
runs_of d l e =
    let t : byte_at l mode_at ≡ tag_of d.head.mode = rw e in
    sym (runs_by (byte_at l mode_at) (word_at l image_at) (word_at l size_at) (word_at l image_version_at) (word_at l recorded_at)) ∙ (rw t (runs_tag d.head.mode))
