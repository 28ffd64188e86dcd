-- SOUNDNESS IS KEPT: fresh is sound, and every call leaves a sound record from a sound one.
-- Assumes nothing.
use Prim.Native.Nat.{ℕ, ◌+◌, ◌-◌, ◌≤◌, ◌<◌}
use mathlib.Core.Bool.{Bool, true, false, ◌&&◌, ◌||◌}
use mathlib.Core.Path.{◌≡◌, refl}
use mathlib.Core.List.{List}
use native.Mathlib.Decide.{dec_lt}
use native.Mathlib.Omega.{arith}
use borrow.Author.Tests.{leb-true, le-leb, eq-eqb, ne_eqb}
use lib.Dec.{leb, eqb}
use Rattle.basics.specs.Choice.{pick, and_left, and_right}
use Rattle.basics.specs.Words.{byte_at, zeros}
use Rattle.sectors.specs.Sectors.{sectors_for}
use Rattle.answer.specs.declared.Checked.{Checked}
use Rattle.answer.specs.declared.Checked.TheVariants.{Good, Fails, Erases}
use Rattle.image.specs.Images.{size_lawful, version_lawful, room_for, checked_of}
use Rattle.image.proofs.Answers.{Told, checked_told}
use Rattle.plan.specs.declared.Store.{Store}
use Rattle.plan.specs.declared.Store.TheVariants.{Erase, Write, Record, Last}
use Rattle.plan.specs.Stores.{Plan, Progress, going, ended, plan_of, steps, wants, onward, cut_short}
use Rattle.plan.proofs.Done.{blocks_hold}
use Rattle.plan.proofs.Due.{wants_is, Due, due}
use Rattle.device.specs.declared.Head.{Head}
use Rattle.device.specs.Types.{Device}
use Rattle.device.specs.declared.Mode.{Mode}
use Rattle.device.specs.declared.Mode.TheVariants.{Stack, Idle, Upgrade, Delete}
use Rattle.device.specs.Heads.{lost_head}
use Rattle.device.specs.Modes.{is_idle, has_job, recorded_in}
use Rattle.decisions.specs.Decisions.{searches}
use Rattle.device.specs.Whole.{Shaped, lost}
use Rattle.soundness.specs.Sound.{job_of, plan_for, error_sound, progress_sound, mode_sound, CheckedLawful, sound}
use Rattle.soundness.proofs.Parts.{Numbers as HeadSays, Keys, Parts, parts, whole}
use Rattle.soundness.proofs.Keys.{keys_lost}
use Rattle.soundness.proofs.Keeps.{lost_sound, decided_sound}
use Rattle.services.specs.Calls.{Numbers, Sensible, terms_of, checked_for, key_in}
use Rattle.jobs.specs.Jobs.{committed, progressed, finished, next_store, Doing}
use Rattle.services.proofs.Laws.{boundary_some, boundary_low}
use Rattle.services.proofs.Doings.{doing}
use Rattle.promises.specs.Demand.{Event, packet, restart, work, cut, State, called}
use Rattle.promises.proofs.Under.{never, sound_progressed}
use Rattle.promises.proofs.Still.{either, Leaves, by_call}

-- a point of a job that a sound record can be at
Bounded : Plan → Progress → Type 0
Bounded P (going k m) = (k ≤ steps P) × (m ≤ wants P k)
Bounded P ended = Unit {0}

onward_bounded : (P : Plan) (k m : ℕ) (store : Store) → Due P k m store → Bounded P (onward store k m)
unfolding Due onward Bounded
onward_bounded P k m (Erase t) (l, e, q) = (omega arith, omega (arith, wants_is P k))
onward_bounded P k m (Write t s n) (l, e, q, r, u) = (omega arith, omega (arith, wants_is P k))
onward_bounded P k m Record (l, e) = (l, omega arith)
onward_bounded P k m Last q = tt

cut_bounded : (P : Plan) (k m : ℕ) (store : Store) (through : Bool) → Due P k m store → Bounded P (cut_short store through k)
unfolding Due cut_short Bounded
cut_bounded P k m (Erase t) through (l, e, q) = (omega arith, omega arith)
cut_bounded P k m (Write t s n) through (l, e, q, r, u) = (omega arith, omega arith)
cut_bounded P k m Record true (l, e) = (l, omega arith)
cut_bounded P k m Record false (l, e) = (omega arith, omega arith)
cut_bounded P k m Last true q = tt
cut_bounded P k m Last false (l, e) = (omega arith, omega arith)

floor_kept : (on : Bool) (version floor : ℕ) → (on || eqb floor 0) ≡ true → (on || eqb (pick on version floor) 0) ≡ true
unfolding pick
floor_kept true version floor e = refl
floor_kept false version floor e = e

-- an image of 84 bytes or more fills a sector
fills : (S size : ℕ) → 0 < S → 84 ≤ size → 1 ≤ sectors_for S size
fills S size some h = elim (dec_lt 0 (sectors_for S size)) [
  | yes l ↦ l
  | no l ↦ absurd (let z : sectors_for S size ≡ 0 = omega arith in omega (arith, rw z at (blocks_hold S size some)))
]

module _ (S top : ℕ) (h : Head) (some : 0 < S) (n : HeadSays S top h) (under : h.boundary ≤ top) (first : 1 ≤ h.boundary) where
  -- the head after the last store says what a sound one does
  committed_says : (mode : Mode) → has_job mode ≡ true → mode_sound S top mode h.present h.boundary h.made ≡ true → HeadSays S top (lost_head (committed S top mode h))
  committed_says Stack j m = absurd (never j)
  committed_says Idle j m = absurd (never j)
  committed_says (Upgrade p size version recorded) j m =
      let b : ℕ = sectors_for S size in
      let progress : Bool = progress_sound (plan_of S top (job_of h.boundary (Upgrade p size version recorded))) recorded h.made in
      let e : (size_lawful size && version_lawful version && room_for S p size h.boundary) ≡ true = and_left (size_lawful size && version_lawful version && room_for S p size h.boundary) progress m in
      let f : (size_lawful size && version_lawful version) ≡ true = and_left (size_lawful size && version_lawful version) (room_for S p size h.boundary) e in
      let room : p + b + 1 ≤ h.boundary = leb-true _ _ (and_right (size_lawful size && version_lawful version) (room_for S p size h.boundary) e) in
      let v : version_lawful version ≡ true = and_right (size_lawful size) (version_lawful version) f in
      let z : 84 ≤ size = leb-true _ _ (and_left (leb 84 size) _ (and_left (size_lawful size) (version_lawful version) f)) in
      let l : 1 ≤ b = fills S size some z in
      record {
        stack = rw (le-leb 1 (top - b) (omega arith), le-leb (top - b) top (omega arith), ne_eqb (top - b) top (omega arith), v, eq-eqb (b + (top - b)) top (omega arith));
        auth = n.auth;
        mark = refl;
        floor = floor_kept h.rollback version h.floor n.floor;
        count = n.count;
        loaded = omega arith;
        job = refl;
      }
  committed_says (Delete recorded) j m =
      record {
        stack = rw (le-leb 1 top (omega arith), le-leb top top (omega arith), eq-eqb top top refl, eq-eqb (0 + top) top (omega arith));
        auth = n.auth;
        mark = refl;
        floor = n.floor;
        count = n.count;
        loaded = omega arith;
        job = refl;
      }

module _ (k : Numbers) (kind : Sensible k) (d : Device) (s : sound k.size k.top d ≡ true) where
  abbrev S : ℕ
  S = k.size

  abbrev top : ℕ
  top = k.top

  abbrev P : Plan
  P = plan_for S top d.head

  module _ (j : has_job d.head.mode ≡ true) where
    finished_sound : sound S top (finished S top d) ≡ true
    finished_sound =
        let p : Parts S top d = parts S top d s in
        whole S top (finished S top d)
        (record {
          numbers = committed_says S top d.head (omega (arith, kind.header)) p.numbers (boundary_low S top d s) (boundary_some S top d s) d.head.mode j p.numbers.job;
          error = error_none d.head.mode;
          keys = keys_same d.head.mode;
        })
      where
        error_none : (mode : Mode) → error_sound (lost_head (committed S top mode d.head)).error (is_idle (lost_head (committed S top mode d.head)).mode) ≡ true
        error_none mode = refl

        keys_same : (mode : Mode)
            → Keys (lost_head (committed S top mode d.head)).count 0 d.kinds d.sizes (zeros 101)
        keys_same Stack = keys_lost d.head.count d.head.loaded d.kinds d.sizes d.locks (parts S top d s).keys
        keys_same Idle = keys_lost d.head.count d.head.loaded d.kinds d.sizes d.locks (parts S top d s).keys
        keys_same (Upgrade p size version recorded) = keys_lost d.head.count d.head.loaded d.kinds d.sizes d.locks (parts S top d s).keys
        keys_same (Delete recorded) = keys_lost d.head.count d.head.loaded d.kinds d.sizes d.locks (parts S top d s).keys

    progressed_sound : (to : Progress) → Bounded P to → sound S top (progressed S top d to) ≡ true
    unfolding Bounded
    progressed_sound (going n m) b = sound_progressed S top d n m s j b.0 b.1
    progressed_sound ended b = finished_sound

    doing_so : Doing S top d.head
    doing_so = doing k d kind s j

    due_so : Due P (recorded_in d.head.mode) d.head.made (next_store S top d.head)
    due_so = due P (recorded_in d.head.mode) d.head.made doing_so.low doing_so.most

    worked_sound : sound S top (progressed S top d (onward (next_store S top d.head) (recorded_in d.head.mode) d.head.made)) ≡ true
    worked_sound = progressed_sound _ (onward_bounded P _ _ (next_store S top d.head) due_so)

    cut_sound : (through : Bool) → sound S top (lost (progressed S top d (cut_short (next_store S top d.head) through (recorded_in d.head.mode)))) ≡ true
    cut_sound through = lost_sound S top _ (progressed_sound _ (cut_bounded P _ _ (next_store S top d.head) through due_so))

  -- an image that the checks take is one that a sound job may have
  lawful_of : (boundary : ℕ) (c : Checked) → Told S boundary c → CheckedLawful S boundary c
  lawful_of boundary (Good p size version) t = t
  lawful_of boundary (Fails failure) t = tt
  lawful_of boundary (Erases failure p) t = tt

  module _ (F : List ℕ) (shaped : Shaped d) where
    abbrev Kept : State → Type 0
    Kept t = sound S top t.0 ≡ true

    taken_kept : (v : Event) → Leaves k d F Kept v
    taken_kept (packet bytes R) =
        λ command n e.
        decided_sound S top d (key_in command bytes) s shaped (checked_for k d.head command d.key F)
        (either (CheckedLawful S d.head.boundary) (searches d.head.mode command) _ _
        (lawful_of d.head.boundary (checked_of S (terms_of d.head) d.key F) (checked_told S (terms_of d.head) d.key F)) tt)
        command (byte_at bytes 4)
    taken_kept (restart R) = lost_sound S top d s
    taken_kept work = worked_sound
    taken_kept (cut x through R) = (λ j f. cut_sound j through, lost_sound S top d s)

    -- every call, with any arguments, leaves a sound record from a sound one (whose arrays have their lengths, as the code's types say)
    pub kept : (v : Event) → sound S top (called k v (d, F)).0 ≡ true
    kept v = by_call k d F Kept s v (taken_kept v)
