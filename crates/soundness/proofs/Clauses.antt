-- The test for soundness and its clauses in words say the same.
use Prim.Native.Nat.{ℕ, zero, suc, ◌+◌, ◌-◌, ◌%◌, ◌≤◌, ◌<◌}
use mathlib.Core.Path.{◌≡◌, refl}
use mathlib.Core.Bool.{Bool, true, false, not, ◌&&◌, ◌||◌, or-true, beq}
use mathlib.Core.Logic.{◌⊎◌, inl, inr}
use native.Mathlib.Omega.{arith}
use native.Mathlib.Nat.{div-eq_of_lt}
use borrow.Author.Tests.{ltb-true, ltb-false, leb-true, le-leb, leb-false, eqb-true, eqb-false, eq-eqb, ne_eqb, not-true}
use lib.Dec.{ltb, leb, eqb}
use lib.ListN.{get_or}
use Rattle.basics.specs.Choice.{pick, and_left, and_right, or_either}
use Rattle.sectors.specs.Sectors.{sectors_for}
use Rattle.image.specs.Images.{size_lawful, version_lawful, room_for}
use Rattle.plan.specs.Placement.{cleared_count}
use Rattle.plan.specs.Stores.{plan_of, wants}
use Rattle.device.specs.declared.Head.{Head}
use Rattle.device.specs.Types.{Device}
use Rattle.device.specs.declared.Mode.{Mode}
use Rattle.device.specs.declared.Mode.TheVariants.{Stack, Idle, Upgrade, Delete}
use Rattle.keys.specs.Keys.{key_lawful}
use Rattle.device.specs.Modes.{is_idle, stack_runs}
use Rattle.soundness.specs.Sound.{stack_sound, error_sound, job_of, progress_sound, mode_sound, sound}
use Rattle.soundness.specs.SoundDevice.{KeySize, plain, encrypted, Listed, e01, e02, e03, e04, e0_a, e11, e_ff, Progress, SoundDevice}
use Rattle.soundness.proofs.Slots.{Slot, none, master, user}
use Rattle.soundness.proofs.Parts.{Parts, parts, whole}

-- a Bool that is both
neither : {P : Type 0} → false ≡ true → P
neither e = let z : ◌≡◌ {A = ℕ} 0 1 = cc in let o : ⊥ = omega arith in absurd o

-- an implication, as a test and as a function
only_if : (a b : Bool) → (not a || b) ≡ true → a ≡ true → b ≡ true
only_if true b e q = e
only_if false b e q = neither q

if_only : (a b : Bool) → (a ≡ true → b ≡ true) → (not a || b) ≡ true
if_only true b f = f refl
if_only false b f = refl

unless : (a b : Bool) → (a || b) ≡ true → a ≡ false → b ≡ true
unless true b e q = let z : false ≡ true = cc in neither z
unless false b e q = e

less_un : (a b : Bool) → (a ≡ false → b ≡ true) → (a || b) ≡ true
less_un true b f = refl
less_un false b f = f refl

-- "x is y exactly with none"
exactly : (a c : Bool) (x y : ℕ) → eqb x y ≡ c → beq a (not c) ≡ true → (a ≡ false → x ≡ y) × (a ≡ true → x ≡ y → ⊥)
exactly true true x y q e = neither e
exactly true false x y q e = ((λ f. let z : false ≡ true = cc in neither z), (λ _. eqb-false x y q))
exactly false true x y q e = ((λ _. eqb-true x y q), (λ f. neither f))
exactly false false x y q e = neither e

as_exactly : (a c : Bool) (x y : ℕ) → eqb x y ≡ c → (a ≡ false → x ≡ y) → (a ≡ true → x ≡ y → ⊥) → beq a (not c) ≡ true
as_exactly true true x y q f g = absurd (g refl (eqb-true x y q))
as_exactly true false x y q f g = refl
as_exactly false true x y q f g = refl
as_exactly false false x y q f g = absurd (eqb-false x y q (f refl))

one_of : (n a b : ℕ) → (eqb n a || eqb n b) ≡ true → (n ≡ a) ⊎ (n ≡ b)
one_of n a b e = or_either (eqb n a) (eqb n b) e (λ q. inl (eqb-true n a q)) (λ q. inr (eqb-true n b q))

as_one_of : (n a b : ℕ) → (n ≡ a) ⊎ (n ≡ b) → (eqb n a || eqb n b) ≡ true
as_one_of n a b (inl q) = rw (eq-eqb n a q)
as_one_of n a b (inr q) = rw (eq-eqb n b q) (or-true (eqb n a))

key_size : (kind size : ℕ) → key_lawful kind size ≡ true → KeySize kind size
key_size kind size e =
    let p = (eqb kind 1 || eqb kind 2) in
    let q = (eqb size 16 || eqb size 32) in
    let r = (eqb size 28 || eqb size 44) in
    or_either (p && q) (eqb kind 3 && r) e
    (λ a. plain (one_of kind 1 2 (and_left p q a)) (one_of size 16 32 (and_right p q a)))
    (λ a. encrypted (eqb-true kind 3 (and_left (eqb kind 3) r a)) (one_of size 28 44 (and_right (eqb kind 3) r a)))

as_key_size : (kind size : ℕ) → KeySize kind size → key_lawful kind size ≡ true
as_key_size kind size (plain k s) = rw (as_one_of kind 1 2 k, as_one_of size 16 32 s)
as_key_size kind size (encrypted k s) =
    let t : (eqb kind 3 && (eqb size 28 || eqb size 44)) ≡ true = rw (eq-eqb kind 3 k, as_one_of size 28 44 s) in
    rw t (or-true ((eqb kind 1 || eqb kind 2) && (eqb size 16 || eqb size 32)))

module _ (b c k m : ℕ) where
  progress_by : (t u : Bool) → ltb k b ≡ t → ltb k (b + c) ≡ u → k ≤ b + c → leb m (pick t 2 (pick u 1 0)) ≡ true → Progress b c k m
  unfolding pick
  progress_by true u p q l e = let i : k < b = ltb-true k b p in let n : m ≤ 2 = leb-true m 2 e in record { within = l; copying = λ _. n; clearing = λ x y. omega arith; last = λ x. omega arith }
  progress_by false true p q l e = let i : b ≤ k = ltb-false k b p in let j : k < b + c = ltb-true k (b + c) q in let n : m ≤ 1 = leb-true m 1 e in record { within = l; copying = λ _. omega arith; clearing = λ x y. n; last = λ x. omega arith }
  progress_by false false p q l e = let i : b ≤ k = ltb-false k b p in let j : b + c ≤ k = ltb-false k (b + c) q in let n : m ≤ 0 = leb-true m 0 e in record { within = l; copying = λ _. omega arith; clearing = λ x y. omega arith; last = λ x. omega arith }

  as_progress : (t u : Bool) → ltb k b ≡ t → ltb k (b + c) ≡ u → Progress b c k m → leb m (pick t 2 (pick u 1 0)) ≡ true
  unfolding pick
  as_progress true u p q r = le-leb m 2 (r.copying (ltb-true k b p))
  as_progress false true p q r = le-leb m 1 (r.clearing (ltb-false k b p) (ltb-true k (b + c) q))
  as_progress false false p q r =
      let j : b + c ≤ k = ltb-false k (b + c) q in
      let l : k ≤ b + c = r.within in
      let e : k ≡ b + c = omega arith in
      let n : m ≡ 0 = r.last e in
      le-leb m 0 (omega arith)

module _ (S top : ℕ) where
  progress_of : (p size boundary k m : ℕ) → progress_sound (plan_of S top (record { p = p; size = size; boundary = boundary })) k m ≡ true
      → Progress (sectors_for S size) (cleared_count S top (record { p = p; size = size; boundary = boundary })) k m
  unfolding plan_of wants
  progress_of p size boundary k m e =
      let b = sectors_for S size in
      let c = cleared_count S top (record { p = p; size = size; boundary = boundary }) in
      let w = leb m (pick (ltb k b) 2 (pick (ltb k (b + c)) 1 0)) in
      progress_by b c k m (ltb k b) (ltb k (b + c)) refl refl (leb-true k (b + c) (and_left (leb k (b + c)) w e)) (and_right (leb k (b + c)) w e)

  of_progress : (p size boundary k m : ℕ) → Progress (sectors_for S size) (cleared_count S top (record { p = p; size = size; boundary = boundary })) k m
      → progress_sound (plan_of S top (record { p = p; size = size; boundary = boundary })) k m ≡ true
  unfolding plan_of wants
  of_progress p size boundary k m r =
      let b = sectors_for S size in
      let c = cleared_count S top (record { p = p; size = size; boundary = boundary }) in
      let l : leb k (b + c) ≡ true = le-leb k (b + c) r.within in
      rw (l, as_progress b c k m (ltb k b) (ltb k (b + c)) refl refl r)

  -- a delete moves nothing and clears the old stack
  none_moved : 0 < S → sectors_for S 0 ≡ 0
  none_moved h = div-eq_of_lt (omega arith)

  old_stack : (boundary : ℕ) → 0 < S → cleared_count S top (record { p = 0; size = 0; boundary = boundary }) ≡ top - boundary
  old_stack boundary h = rw (none_moved h) (omega arith)

runs_stack : (m : Mode) → stack_runs m ≡ true → m ≡ Stack
runs_stack Stack e = refl
runs_stack Idle e = neither e
runs_stack (Upgrade p size version recorded) e = neither e
runs_stack (Delete recorded) e = neither e

is_idle_lem : (m : Mode) → is_idle m ≡ true → m ≡ Idle
is_idle_lem Stack e = neither e
is_idle_lem Idle e = refl
is_idle_lem (Upgrade p size version recorded) e = neither e
is_idle_lem (Delete recorded) e = neither e

listed : (e : ℕ) → (eqb e 0x01 || eqb e 0x02 || eqb e 0x03 || eqb e 0x04 || eqb e 0x0A || eqb e 0x11 || eqb e 0xFF) ≡ true → Listed e
listed e t =
    or_either (eqb e 0x01 || eqb e 0x02 || eqb e 0x03 || eqb e 0x04 || eqb e 0x0A || eqb e 0x11) (eqb e 0xFF) t
    (λ t. or_either (eqb e 0x01 || eqb e 0x02 || eqb e 0x03 || eqb e 0x04 || eqb e 0x0A) (eqb e 0x11) t
    (λ t. or_either (eqb e 0x01 || eqb e 0x02 || eqb e 0x03 || eqb e 0x04) (eqb e 0x0A) t
    (λ t. or_either (eqb e 0x01 || eqb e 0x02 || eqb e 0x03) (eqb e 0x04) t
    (λ t. or_either (eqb e 0x01 || eqb e 0x02) (eqb e 0x03) t
    (λ t. or_either (eqb e 0x01) (eqb e 0x02) t (λ q. e01 (eqb-true e 0x01 q)) (λ q. e02 (eqb-true e 0x02 q)))
    (λ q. e03 (eqb-true e 0x03 q)))
    (λ q. e04 (eqb-true e 0x04 q)))
    (λ q. e0_a (eqb-true e 0x0A q)))
    (λ q. e11 (eqb-true e 0x11 q)))
    (λ q. e_ff (eqb-true e 0xFF q))

as_listed : (e : ℕ) → Listed e → error_sound e true ≡ true
as_listed e (e01 q) = rw q
as_listed e (e02 q) = rw q
as_listed e (e03 q) = rw q
as_listed e (e04 q) = rw q
as_listed e (e0_a q) = rw q
as_listed e (e11 q) = rw q
as_listed e (e_ff q) = rw q

module _ (i count kind size lock : ℕ) where
  user_type : Slot i count kind size lock → 1 ≤ i → i ≤ count → (kind ≡ 1) ⊎ (kind ≡ 3)
  user_type (none k s l h) low high = let g : count < i = h low in let z : ⊥ = omega arith in absurd z
  user_type (master k law l z) low high = let z : ⊥ = omega arith in absurd z
  user_type (user k law l low₂ high₂) low high = one_of kind 1 3 k

  user_size : Slot i count kind size lock → 1 ≤ i → i ≤ count → KeySize kind size
  user_size (none k s l h) low high = let g : count < i = h low in let z : ⊥ = omega arith in absurd z
  user_size (master k law l z) low high = let z : ⊥ = omega arith in absurd z
  user_size (user k law l low₂ high₂) low high = key_size kind size law

  master_slot : Slot i count kind size lock → i ≡ 0 → ((kind ≡ 0) × (size ≡ 0)) ⊎ ((kind ≡ 2) × KeySize kind size)
  master_slot (none k s l h) z = inl (k, s)
  master_slot (master k law l q) z = inr (k, key_size kind size law)
  master_slot (user k law l low high) z = let o : ⊥ = omega arith in absurd o

  locked_slot : Slot i count kind size lock → 1 ≤ lock → (1 ≤ i) × (i ≤ count)
  locked_slot (none k s l h) on = let z : ⊥ = omega arith in absurd z
  locked_slot (master k law l z) on = let z : ⊥ = omega arith in absurd z
  locked_slot (user k law l low high) on = (low, high)

  unused_slot : Slot i count kind size lock → count < i → (kind ≡ 0) × (size ≡ 0)
  unused_slot (none k s l h) past = (k, s)
  unused_slot (master k law l z) past = let z : ⊥ = omega arith in absurd z
  unused_slot (user k law l low high) past = let z : ⊥ = omega arith in absurd z

  flag_slot : Slot i count kind size lock → lock ≤ 1
  flag_slot (none k s l h) = omega arith
  flag_slot (master k law l z) = omega arith
  flag_slot (user k law l low high) = l

zero_or : (n : ℕ) → (1 ≤ n → ⊥) → n ≡ 0
zero_or zero f = refl
zero_or (suc n) f = absurd (f (omega arith))

-- the clauses on the stack, as the test has them
module _ (top : ℕ) (h : Head) where
  abbrev F : ℕ
  F = 0xFFFFFFFF

  record Stacked : Type 0 where
    low : 1 ≤ h.boundary
    high : h.boundary ≤ top
    none_at : (h.present ≡ false → h.boundary ≡ top) × (h.present ≡ true → h.boundary ≡ top → ⊥)
    none_is : (h.present ≡ false → h.version ≡ F) × (h.present ≡ true → h.version ≡ F → ⊥)
    all : h.sectors + h.boundary ≡ top

  stacked : stack_sound top h ≡ true → Stacked
  stacked e =
      let a = leb 1 h.boundary in
      let b = leb h.boundary top in
      let c = beq h.present (not (eqb h.boundary top)) in
      let v = beq h.present (not (eqb h.version F)) in
      let s = eqb (h.sectors + h.boundary) top in
      let e1 = and_left (a && b && c && v) s e in
      let e2 = and_left (a && b && c) v e1 in
      let e3 = and_left (a && b) c e2 in
      record {
        low = leb-true 1 h.boundary (and_left a b e3);
        high = leb-true h.boundary top (and_right a b e3);
        none_at = exactly h.present (eqb h.boundary top) h.boundary top refl (and_right (a && b) c e2);
        none_is = exactly h.present (eqb h.version F) h.version F refl (and_right (a && b && c) v e1);
        all = eqb-true (h.sectors + h.boundary) top (and_right (a && b && c && v) s e);
      }

module _ (S top : ℕ) (some : 0 < S) (d : Device) where
  no_job_made : (d.head.mode ≡ Stack) ⊎ (d.head.mode ≡ Idle) → mode_sound S top d.head.mode d.head.present d.head.boundary d.head.made ≡ true → d.head.made ≡ 0
  no_job_made (inl m) e = eqb-true d.head.made 0 (and_right d.head.present (eqb d.head.made 0) (rw m at e))
  no_job_made (inr m) e = eqb-true d.head.made 0 (rw m at e)

  pub sound_means : sound S top d ≡ true → SoundDevice S top d
  sound_means e =
      let h = d.head in
      let p = parts S top d e in
      let n = p.numbers in
      let t = stacked top h n.stack in
      let slot = p.keys.slots in
      let all : h.sectors + h.boundary ≡ top = t.all in
      let few : h.count ≤ 100 = n.count in
      record {
        low = t.low;
        high = t.high;
        no_stack = t.none_at.0;
        a_stack = t.none_at.1;
        no_version = t.none_is.0;
        a_version = t.none_is.1;
        sectors = omega arith;
        runs = λ m. and_left h.present (eqb h.made 0) (rw m at n.job);
        few = few;
        types = λ i low high. user_type i h.count (get_or d.kinds i 0) (get_or d.sizes i 0) (get_or d.locks i 0) (slot i (omega arith)) low high;
        sizes = λ i low high. user_size i h.count (get_or d.kinds i 0) (get_or d.sizes i 0) (get_or d.locks i 0) (slot i (omega arith)) low high;
        master = master_slot 0 h.count (get_or d.kinds 0 0) (get_or d.sizes 0 0) (get_or d.locks 0 0) (slot 0 (omega arith)) refl;
        loaded = n.loaded;
        locked = λ i g on. locked_slot i h.count (get_or d.kinds i 0) (get_or d.sizes i 0) (get_or d.locks i 0) (slot i g) on;
        encrypted = λ q. eqb-true (get_or d.kinds 0 0) 2 (only_if (eqb (get_or d.kinds h.loaded 0) 3) (eqb (get_or d.kinds 0 0) 2) p.keys.encrypted (eq-eqb (get_or d.kinds h.loaded 0) 3 q));
        lock = only_if h.locked h.auth n.auth;
        mark = λ q. runs_stack h.mode (only_if h.asked (stack_runs h.mode) n.mark q);
        error = λ on.
            let z : eqb h.error 0 ≡ false = ne_eqb h.error 0 (λ q. omega arith) in
            let l = eqb h.error 0x01 || eqb h.error 0x02 || eqb h.error 0x03 || eqb h.error 0x04 || eqb h.error 0x0A || eqb h.error 0x11 || eqb h.error 0xFF in
            let t = unless (eqb h.error 0) (is_idle h.mode && l) p.error z in
            (listed h.error (and_right (is_idle h.mode) l t), is_idle_lem h.mode (and_left (is_idle h.mode) l t));
        floor = λ off. eqb-true h.floor 0 (unless h.rollback (eqb h.floor 0) n.floor off);
        upgrade = λ q size version recorded m.
            let z = size_lawful size in
            let v = version_lawful version in
            let r = room_for S q size h.boundary in
            let w = progress_sound (plan_of S top (job_of h.boundary (Upgrade q size version recorded))) recorded h.made in
            let t : (z && v && r && w) ≡ true = rw m at n.job in
            let t1 = and_left (z && v && r) w t in
            let t2 = and_left (z && v) r t1 in
            let t3 = and_left z v t2 in
            (leb-true 84 size (and_left (leb 84 size) (eqb (size % 4) 0) t3), eqb-true (size % 4) 0 (and_right (leb 84 size) (eqb (size % 4) 0) t3), eqb-false version 0xFFFFFFFF (not-true (eqb version 0xFFFFFFFF) (and_right z v t2)), leb-true (q + sectors_for S size + 1) h.boundary (and_right (z && v) r t1));
        delete = λ recorded m. and_left h.present (progress_sound (plan_of S top (job_of h.boundary (Delete recorded))) recorded h.made) (rw m at n.job);
        upgrading = λ q size version recorded m.
            let lawful = size_lawful size && version_lawful version && room_for S q size h.boundary in
            let w = progress_sound (plan_of S top (job_of h.boundary (Upgrade q size version recorded))) recorded h.made in
            progress_of S top q size h.boundary recorded h.made (and_right lawful w (rw m at n.job));
        deleting = λ recorded m.
            let w = progress_sound (plan_of S top (job_of h.boundary (Delete recorded))) recorded h.made in
            let r = progress_of S top 0 0 h.boundary recorded h.made (and_right h.present w (rw m at n.job)) in
            rw (old_stack S top h.boundary some, none_moved S top some) at r;
        unmade = λ m. no_job_made m n.job;
        unused = λ i g past. unused_slot i h.count (get_or d.kinds i 0) (get_or d.sizes i 0) (get_or d.locks i 0) (slot i g) past;
        flags = λ i g. flag_slot i h.count (get_or d.kinds i 0) (get_or d.sizes i 0) (get_or d.locks i 0) (slot i g);
      }

  -- the slots, from the clauses
  module _ (w : SoundDevice S top d) where
    unlocked_at : (i : ℕ) → i < 101 → ((1 ≤ i) × (i ≤ d.head.count) → ⊥) → get_or d.locks i 0 ≡ 0
    unlocked_at i g out = zero_or (get_or d.locks i 0) (λ on. out (w.locked i g on))

    master_by : ((get_or d.kinds 0 0 ≡ 0) × (get_or d.sizes 0 0 ≡ 0)) ⊎ ((get_or d.kinds 0 0 ≡ 2) × KeySize (get_or d.kinds 0 0) (get_or d.sizes 0 0))
        → Slot 0 d.head.count (get_or d.kinds 0 0) (get_or d.sizes 0 0) (get_or d.locks 0 0)
    master_by (inl q) = none q.0 q.1 (unlocked_at 0 (omega arith) (λ r. omega arith)) (λ low. omega arith)
    master_by (inr q) = master q.0 (as_key_size (get_or d.kinds 0 0) (get_or d.sizes 0 0) q.1) (unlocked_at 0 (omega arith) (λ r. omega arith)) refl

    slot_by : (i : ℕ) (b : Bool) → leb i d.head.count ≡ b → i < 101 → Slot i d.head.count (get_or d.kinds i 0) (get_or d.sizes i 0) (get_or d.locks i 0)
    slot_by zero b e g = master_by w.master
    slot_by (suc i) true e g =
        let high : suc i ≤ d.head.count = leb-true (suc i) d.head.count e in
        user (as_one_of (get_or d.kinds (suc i) 0) 1 3 (w.types (suc i) (omega arith) high)) (as_key_size (get_or d.kinds (suc i) 0) (get_or d.sizes (suc i) 0) (w.sizes (suc i) (omega arith) high)) (w.flags (suc i) g) (omega arith) high
    slot_by (suc i) false e g =
        let past : d.head.count < suc i = leb-false (suc i) d.head.count e in
        let q = w.unused (suc i) g past in
        none q.0 q.1 (unlocked_at (suc i) g (λ r. omega arith)) (λ low. past)

    job_by : (m : Mode) → d.head.mode ≡ m → mode_sound S top m d.head.present d.head.boundary d.head.made ≡ true
    job_by Stack m = rw (w.runs m, w.unmade (inl m))
    job_by Idle m = rw (w.unmade (inr m))
    job_by (Upgrade q size version recorded) m =
        let u = w.upgrade q size version recorded m in
        let r : room_for S q size d.head.boundary ≡ true = le-leb (q + sectors_for S size + 1) d.head.boundary u.3 in
        let g = of_progress S top q size d.head.boundary recorded d.head.made (w.upgrading q size version recorded m) in
        rw (le-leb 84 size u.0, eq-eqb (size % 4) 0 u.1, ne_eqb version 0xFFFFFFFF u.2, r, g)
    job_by (Delete recorded) m =
        let r : Progress (sectors_for S 0) (cleared_count S top (record { p = 0; size = 0; boundary = d.head.boundary })) recorded d.head.made =
        rw (old_stack S top d.head.boundary some, none_moved S top some) (w.deleting recorded m) in
        rw (w.delete recorded m, of_progress S top 0 0 d.head.boundary recorded d.head.made r)

    error_by : (b : Bool) → leb 1 d.head.error ≡ b → error_sound d.head.error (is_idle d.head.mode) ≡ true
    error_by true e = let q = w.error (leb-true 1 d.head.error e) in rw q.1 (as_listed d.head.error q.0)
    error_by false e = let l : d.head.error < 1 = leb-false 1 d.head.error e in let z : d.head.error ≡ 0 = omega arith in rw z

    means_parts : Parts S top d
    means_parts =
        let h = d.head in
        let all : h.sectors ≡ top - h.boundary = w.sectors in
        let high : h.boundary ≤ top = w.high in
        record {
          numbers = record {
            stack =
                rw (
                  le-leb 1 h.boundary w.low,
                  le-leb h.boundary top high,
                  as_exactly h.present (eqb h.boundary top) h.boundary top refl w.no_stack w.a_stack,
                  as_exactly h.present (eqb h.version 0xFFFFFFFF) h.version 0xFFFFFFFF refl w.no_version w.a_version,
                  eq-eqb (h.sectors + h.boundary) top (omega arith),
                );
            auth = if_only h.locked h.auth w.lock;
            mark = if_only h.asked (stack_runs h.mode) (λ q. rw (w.mark q));
            floor = less_un h.rollback (eqb h.floor 0) (λ off. eq-eqb h.floor 0 (w.floor off));
            count = w.few;
            loaded = w.loaded;
            job = job_by h.mode refl;
          };
          error = error_by (leb 1 h.error) refl;
          keys = record {
            slots = λ i g. slot_by i (leb i h.count) refl g;
            encrypted = if_only (eqb (get_or d.kinds h.loaded 0) 3) (eqb (get_or d.kinds 0 0) 2) (λ q. eq-eqb (get_or d.kinds 0 0) 2 (w.encrypted (eqb-true (get_or d.kinds h.loaded 0) 3 q)));
          };
        }

  pub means_sound : SoundDevice S top d → sound S top d ≡ true
  means_sound w = whole S top d (means_parts w)
